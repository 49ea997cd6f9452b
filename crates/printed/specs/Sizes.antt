-- The bytes of a lent text buffer.
use Rattle.std.specs.Prelude.{ℕ}

abbrev pub text_bytes : ℕ
text_bytes = 65536

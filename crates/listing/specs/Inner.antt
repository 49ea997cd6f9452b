-- What the functions below the four lines promise each other.
use Rattle.std.specs.Prelude.{ℕ, zero, suc, min, ◌≡◌, List, [], ◌∷◌, ◌++◌, length}
use Rattle.listing.specs.Lines.{line_bytes}
use Rattle.listing.specs.declared.writing.Line.{Line}

-- the first n bytes of a text, with zeros after it where it is shorter
unfoldable pub padded : ℕ → List ℕ → List ℕ
padded zero text = []
padded (suc n) [] = 0 ∷ padded n []
padded (suc n) (byte ∷ text) = byte ∷ padded n text

-- the line of a text, of which 64 bytes are kept
abbrev pub line_of : List ℕ → Line
line_of text = record { bytes = padded line_bytes text; length = min line_bytes (length text) }

-- the second line is the first with more text at its end
pub record Adds (before after : Line) (more : List ℕ) : Type 0 where
  pub added : (text : List ℕ) → before ≡ line_of text → after ≡ line_of (text ++ more)

-- the bytes at most of how a line of a refusal ends: refused, a number of up to 3 digits, a place of up to 20, two spaces and a line feed
abbrev pub ending_bytes : ℕ
ending_bytes = 33

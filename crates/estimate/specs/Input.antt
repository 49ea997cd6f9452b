-- How much of a buffer was read.
use Rattle.io.specs.Counts.{IsPrefixLen}
use Rattle.std.specs.Prelude.{ℕ, List, Result, Ok, Err}

abbrev pub Within : {E : Type 0} → Result ℕ E → List ℕ → Type 0
Within (Ok n) buffer = IsPrefixLen n buffer
Within (Err e) buffer = Unit {0}

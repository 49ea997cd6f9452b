use Rattle.std.proofs.Common.{◌≡◌, ◌<◌, ℕ, false}
use Rattle.catalogue.specs.Catalogue.{outside_at}
use Rattle.catalogue.proofs.entries.first_outside.Given as goal

-- none of the entries passed is outside its ranges
abbrev pub invariant-loop-i : goal.invariant-loop-i
invariant-loop-i l = (j : ℕ) → j < l.i → outside_at l.catalogue j ≡ false

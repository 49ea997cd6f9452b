use Rattle.std.proofs.Common.{ℕ, ◌<◌, ◌≡◌, false}
use Rattle.paper.specs.Lists.{over}
use Rattle.paper.proofs.bounds.first_over.Given as goal

-- none of the numbers before this one is over the limit
abbrev pub invariant-loop-i : goal.invariant-loop-i
invariant-loop-i l = (j : ℕ) → j < l.i → over l.limit l.numbers j ≡ false

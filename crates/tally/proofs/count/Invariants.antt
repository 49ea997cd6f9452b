use Rattle.paper.specs.Limits.{tally_count}
use Rattle.paper.specs.Lists.{count}
use lib.Dec.{eqb}
use lib.ListN.{length, get_or}
use mathlib.Core.Path.{◌≡◌}
use Prim.Native.Nat.{ℕ}
use Rattle.tally.proofs.count.Given as goal

-- each entry t has the number of the students passed with aggregate t
abbrev pub invariant-loop-aggregate : goal.invariant-loop-aggregate
invariant-loop-aggregate l = (length l.counts ≡ tally_count) × ((t : ℕ) → get_or l.counts t 0 ≡ count l.aggregate-index (λ j. eqb (get_or l.aggregates j 0) t))

use Rattle.paper.specs.Lists.{count}
use lib.Dec.{leb}
use lib.ListN.{get_or}
use mathlib.Core.Path.{◌≡◌}
use Prim.Native.Nat.{◌≤◌}
use Rattle.direct.proofs.at_least.Given as goal

-- n counts the aggregates passed that are at least x
abbrev pub invariant-loop-aggregate : goal.invariant-loop-aggregate
invariant-loop-aggregate l = (l.n ≡ count l.aggregate-index (λ j. leb l.x (get_or l.aggregates j 0))) × (l.n ≤ l.aggregate-index)

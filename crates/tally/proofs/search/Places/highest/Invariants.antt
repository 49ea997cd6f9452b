use Prim.Native.Nat.{◌*◌}
use Rattle.tally.specs.InnerSearch.{SearchAt}
use Rattle.tally.proofs.search.Places.highest.Given as goal

-- no band above k fits, and the sum is of the entries from k on
abbrev pub invariant-loop-k : goal.invariant-loop-k
invariant-loop-k l = SearchAt l.self.table.now l.self.population l.c l.k l.sum (l.self.population * l.sum)

abbrev pub decreases-loop-k : goal.decreases-loop-k
decreases-loop-k l = l.k

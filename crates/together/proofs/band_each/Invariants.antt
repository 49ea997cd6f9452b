use Rattle.paper.proofs.Filling.{Filled}
use lib.ListN.{length, get_or}
use Rattle.together.proofs.band_each.Given as goal

-- the bands of the students placed so far are those found at their aggregates
abbrev pub invariant-loop-student : goal.invariant-loop-student
invariant-loop-student l = Filled (length l.aggregates) (λ j. get_or l.found (get_or l.aggregates j 0) 0) l.student l.bands

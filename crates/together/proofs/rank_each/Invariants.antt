use lib.ListN.{length, get_or}
use Rattle.paper.proofs.Filling.{Filled}
use Rattle.ranks.specs.Ranking.{percentile}
use Rattle.together.proofs.rank_each.Given as goal

-- below i the ranks are the sums at the aggregates, and the percentiles are theirs
abbrev pub invariant-loop-i : goal.invariant-loop-i
invariant-loop-i l = Filled (length l.aggregates) (λ j. get_or l.sums (get_or l.aggregates j 0) 0) l.i l.ranks
    × Filled (length l.aggregates) (λ j. percentile (length l.aggregates) (get_or l.sums (get_or l.aggregates j 0) 0)) l.i l.percentiles

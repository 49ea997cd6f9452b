use lib.ListN.{length, get_or}
use Rattle.ranks.specs.Ranking.{percentile}
use Rattle.paper.proofs.Filling.{Filled}
use Rattle.ranks.proofs.percent.percent_each.Given as goal

-- below i the percentiles are those of the ranks
abbrev pub invariant-loop-i : goal.invariant-loop-i
invariant-loop-i l = Filled (length l.ranks) (λ j. percentile (length l.ranks) (get_or l.ranks j 0)) l.i l.percentiles

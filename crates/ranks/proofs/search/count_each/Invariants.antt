use lib.ListN.{length, get_or}
use Rattle.ranks.specs.Ranking.{at_most}
use Rattle.paper.proofs.Filling.{Filled}
use Rattle.ranks.proofs.search.count_each.Given as goal

-- below i the ranks are counted
abbrev pub invariant-loop-i : goal.invariant-loop-i
invariant-loop-i l = Filled (length l.values) (λ j. at_most l.sorted (get_or l.values j 0)) l.i l.ranks

use Rattle.ranks.proofs.Counting.{at-within}
use native.Mathlib.Omega.{arith}
use lib.ListN.{get_or}
use Rattle.paper.proofs.Filling.{all_filled}
use Rattle.ranks.proofs.search.count_each.Goals as goal

pub overflow_cast-rank : goal.overflow_cast-rank
overflow_cast-rank c =
    omega (arith, c.at_most.ensures, at-within c.args.sorted.now (get_or c.args.values.now c.loop-i.i 0))

pub returns : goal.returns
returns c =
    all_filled c.loop-i.invariant (omega (arith, c.loop-i.invariant.long, c.loop-i-test.false))

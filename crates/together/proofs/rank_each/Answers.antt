use native.Mathlib.Omega.{arith}
use lib.ListN.{length, get_or}
use Rattle.paper.proofs.Filling.{all_filled}
use Rattle.ranks.proofs.Meaning.{percentile-within}
use Rattle.together.specs.Inner.{read_of, percents_of}
use Rattle.together.proofs.rank_each.Goals as goal

pub overflow_cast-percentiles : goal.overflow_cast-percentiles
overflow_cast-percentiles c =
    let n = length c.args.aggregates.now in
    let a = get_or c.args.aggregates.now c.loop-i.i 0 in
    omega (arith, c.percentile.ensures, percentile-within n (get_or c.args.sums.now a 0) (c.requires.within a) (omega arith))

pub returns : goal.returns
unfolding read_of percents_of
returns c =
    (all_filled c.loop-i.invariant.0 c.loop-i-test.false, all_filled c.loop-i.invariant.1 c.loop-i-test.false)

use native.Mathlib.Omega.{arith}
use lib.ListN.{length, get_or}
use Rattle.ranks.proofs.Meaning.{percentile-within}
use Rattle.paper.proofs.Filling.{all_filled}
use Rattle.ranks.proofs.percent.percent_each.Goals as goal

pub overflow_cast-p : goal.overflow_cast-p
overflow_cast-p c =
    let r = get_or c.args.ranks.now c.loop-i.i 0 in
    omega (arith, c.percentile.ensures, percentile-within (length c.args.ranks.now) r (c.requires.within c.loop-i.i (omega arith)) (omega arith))

pub returns : goal.returns
returns c =
    all_filled c.loop-i.invariant (omega (arith, c.loop-i.invariant.long, c.loop-i-test.false))

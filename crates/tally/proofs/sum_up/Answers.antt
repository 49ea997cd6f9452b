use native.Mathlib.Omega.{arith}
use Rattle.tally.proofs.Turns.{summed_start, summed_most, summed_next, summed_end}
use Rattle.tally.proofs.sum_up.Goals as goal

pub loop-n-init : goal.loop-n-init
loop-n-init c =
    summed_start _

pub overflow_add-sum : goal.overflow_add-sum
overflow_add-sum c =
    omega (arith, summed_most c.loop-n.invariant (omega (arith, c.loop-n.invariant.up.filled.long)), c.requires)

pub loop-n-preserved : goal.loop-n-preserved
loop-n-preserved c =
    summed_next c.loop-n.invariant (omega arith)

pub returns : goal.returns
returns c =
    summed_end c.loop-n.invariant (omega arith)

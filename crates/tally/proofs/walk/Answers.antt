use native.Mathlib.Omega.{arith}
use Rattle.tally.proofs.Turns.{walk_start, c_most, walk_next, walk_end}
use Rattle.tally.proofs.walk.Goals as goal

pub loop-t-init : goal.loop-t-init
loop-t-init c =
    walk_start _ c.requires.sized c.requires.people c.top-reached.ensures.0 c.top-reached.ensures.1

pub overflow_add-c : goal.overflow_add-c
overflow_add-c c =
    omega (arith, c_most c.loop-t.invariant c.loop-t-test.true, c.requires.few)

pub loop-t-preserved : goal.loop-t-preserved
loop-t-preserved c =
    walk_next c.loop-t.invariant c.loop-t-test.true c.go_on-reached.ensures c.left_over-remainder.ensures

pub returns : goal.returns
returns c =
    walk_end c.loop-t.invariant (omega arith)

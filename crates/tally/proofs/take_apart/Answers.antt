use native.Mathlib.Omega.{arith}
use Rattle.tally.proofs.Turns.{parted_end}
use Rattle.tally.proofs.take_apart.Goals as goal

pub returns : goal.returns
returns c =
    parted_end c.loop-n.invariant (omega arith)

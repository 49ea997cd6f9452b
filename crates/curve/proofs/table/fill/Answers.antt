use native.Mathlib.Omega.{arith}
use Rattle.curve.specs.Curve.{table_of}
use Rattle.paper.proofs.Filling.{all_filled}
use Rattle.curve.proofs.table.fill.Goals as goal

pub returns : goal.returns
unfolding table_of
returns c =
    all_filled c.loop-k.invariant (omega (arith, c.loop-k.invariant.long, c.loop-k-test.false))

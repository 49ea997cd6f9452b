use Rattle.paper.specs.Limits.{band_count}
use Rattle.paper.specs.Units.{ten_thousandths}
use Rattle.curve.specs.Curve.{upper}
use Rattle.curve.proofs.Bounds.{cube-under}
use native.Mathlib.Omega.{arith}
use Prim.Native.Nat.{◌-◌}
use mathlib.Core.Path.{refl}
use Rattle.curve.proofs.table.upper.Goals as goal

pub overflow_sub-result : goal.overflow_sub-result
overflow_sub-result c =
    omega (arith, cube-under (band_count - c.args.k) (ten_thousandths - c.args.a) (omega arith) (omega arith))

pub returns : goal.returns
unfolding upper
returns c =
    refl

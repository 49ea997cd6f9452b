use Rattle.curve.specs.Curve.{lower}
use mathlib.Core.Path.{refl}
use Rattle.curve.proofs.table.lower.Goals as goal

pub returns : goal.returns
unfolding lower
returns c =
    refl

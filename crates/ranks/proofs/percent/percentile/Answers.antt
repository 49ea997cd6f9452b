use mathlib.Core.Path.{sym, ap, ◌∙◌}
use Rattle.paper.specs.Rounding.{nearest}
use Rattle.paper.specs.Units.{thousandths}
use Rattle.paper.proofs.Rounded.{nearest-none}
use Prim.Native.Nat.{◌+◌, ◌*◌, ◌/◌}
use Rattle.ranks.proofs.percent.percentile.Goals as goal

pub returns-then-n-eq0 : goal.returns-then-n-eq0
returns-then-n-eq0 c =
    sym (ap (nearest (100 * thousandths * c.args.rank)) c.if-n-eq0.true ∙ nearest-none (100 * thousandths * c.args.rank))

pub returns : goal.returns
unfolding nearest
returns c =
    λ i. (2 * (100 * thousandths * c.from.ensures i) + c.from-b.ensures i) / (2 * c.from-b.ensures i)

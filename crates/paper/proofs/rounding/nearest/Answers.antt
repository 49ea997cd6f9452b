use native.Mathlib.Omega.{arith}
use mathlib.Core.Path.{sym, ap, ◌∙◌}
use Rattle.paper.specs.Rounding.{nearest}
use Rattle.paper.proofs.Rounded.{nearest-none, nearest-down, nearest-up}
use Rattle.paper.proofs.rounding.nearest.Goals as goal

pub returns-then-b-eq0 : goal.returns-then-b-eq0
returns-then-b-eq0 c =
    sym (ap (nearest c.args.a) c.if-b-eq0.true ∙ nearest-none c.args.a)

pub returns-then-rest-b : goal.returns-then-rest-b
returns-then-rest-b c =
    sym (nearest-down c.args.a c.args.b c.if-rest-b.true)

pub returns : goal.returns
returns c =
    sym (nearest-up c.args.a c.args.b (omega arith) c.if-rest-b.false)

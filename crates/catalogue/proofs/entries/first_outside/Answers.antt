use Rattle.catalogue.specs.Catalogue.{outside, outside_at}
use Rattle.paper.proofs.Firsts.{first-here, first-none}
use mathlib.Core.Path.{sym, ap, ◌∙◌}
use native.Mathlib.Omega.{arith}
use Rattle.catalogue.proofs.entries.first_outside.Goals as goal

pub returns-then-is_outside : goal.returns-then-is_outside
returns-then-is_outside c =
    sym (first-here _ (outside_at c.args.catalogue.now) _ (omega arith) c.loop-i.invariant (ap outside (sym c.known_entry.ensures) ∙ sym c.is_outside.ensures ∙ c.if-is_outside.true))

pub returns : goal.returns
returns c =
    sym (first-none _ (outside_at c.args.catalogue.now) (λ j l. c.loop-i.invariant j (omega arith)))

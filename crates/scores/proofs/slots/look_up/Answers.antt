use Rattle.scores.proofs.Filling.{found-there, found_none}
use Rattle.scores.specs.Scores.{valued}
use mathlib.Core.Path.{sym, ap, ◌∙◌}
use Rattle.scores.proofs.slots.look_up.Goals as goal

pub returns-then-has_slot : goal.returns-then-has_slot
returns-then-has_slot c =
    let a = c.args in
    c.valued.ensures ∙ ap valued (rw c.in_row.ensures.0 at c.held.ensures) ∙ sym (found-there a.table.now a.subject a.raw.0 (sym c.has_slot.ensures ∙ c.if-has_slot.true))

pub returns : goal.returns
returns c =
    sym (found_none c.args.table.now c.args.subject c.args.raw.0 (sym c.has_slot.ensures ∙ c.if-has_slot.false))

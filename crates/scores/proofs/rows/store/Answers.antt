use Rattle.scores.proofs.Rowed.{row-scored, stored-none}
use mathlib.Core.Path.{sym, ◌∙◌}
use Rattle.scores.proofs.rows.store.Goals as goal

pub returns-then-has_slot : goal.returns-then-has_slot
returns-then-has_slot c =
    let g = c.args in
    row-scored g.table.now g.subject c.put_long.new.bytes g.raw.0 g.score.0 (sym c.has_slot.ensures ∙ c.if-has_slot.true) (rw c.in_row-at.ensures.0 at c.put_long.ensures)

pub returns-else-has_slot : goal.returns-else-has_slot
returns-else-has_slot c =
    let g = c.args in
    sym (stored-none g.table.now g.subject g.raw.0 g.score.0 (sym c.has_slot.ensures ∙ c.if-has_slot.false))

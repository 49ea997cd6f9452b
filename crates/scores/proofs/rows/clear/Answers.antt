use Rattle.scores.proofs.Rowed.{row-filled, cleared-none}
use mathlib.Core.Path.{sym}
use Rattle.scores.proofs.rows.clear.Goals as goal

pub returns-then-subject-table : goal.returns-then-subject-table
returns-then-subject-table c =
    row-filled c.args.table.now c.args.subject c.fill_row.new.row c.if-subject-table.true c.fill_row.ensures

pub returns-else-subject-table : goal.returns-else-subject-table
returns-else-subject-table c =
    sym (cleared-none c.args.table.now c.args.subject c.if-subject-table.false)

use Rattle.cohort.proofs.Owed.{large_owed, go_owed}
use Rattle.std.proofs.Common.{Ok}
use Rattle.held.specs.declared.Summary.{Summary}
use Rattle.held.specs.Promise.{Lent, lent, Promise}
use mathlib.Core.Path.{sym, subst}
use Rattle.cohort.proofs.read.Goals as goal

pub returns-then-file-gt-MOST_BYTES : goal.returns-then-file-gt-MOST_BYTES
returns-then-file-gt-MOST_BYTES c =
    large_owed c.args.file.now _ c.if-file-gt-MOST_BYTES.true

pub returns : goal.returns
returns c =
    let a = c.args in
    let before : Lent = lent a.catalogue.now a.table.now a.figures.now a.ids.now a.counts.now a.results.now in
    let b = c.take-so.new in
    let left : Lent = lent b.catalogue b.table b.figures b.ids b.counts b.results in
    subst (λ (v : Summary). Promise a.file.now before (Ok v) left) (sym c.from.ensures) (go_owed a.file.now before left c.take-so.result c.if-file-gt-MOST_BYTES.false c.take-so.ensures)

use Rattle.std.proofs.Common.{ℕ, List, Ok}
use Rattle.std.proofs.lemmas.Result.{err_from_is_err_and}
use Rattle.paper.proofs.Promised.{saying}
use Rattle.seek.specs.InnerTest.{value_at}
use Rattle.results.specs.Results.{Student, student}
use Rattle.clashes.specs.InnerPairs.{AllCompared}
use Rattle.clashes.specs.declared.masks.Masks.{Masks}
use Rattle.sets.specs.Promise.{WellFormed, Answered}
use Rattle.bestset.specs.InnerJudging.{Begun}
use Rattle.bestset.specs.InnerMarks.{ReadAs, outcome}
use Rattle.bestset.proofs.Bridge.{promise_wrong, promise_again, well_formed, promise_english, answered-ruled, sought, found-answered}
use Rattle.bestset.proofs.Clashing.{TestOf, test_of, test_of_lem}
use Rattle.bestset.proofs.Usable.{none-shown, some-shown}
use Rattle.bestset.proofs.weigh.Goals as goal

-- all results are read and compared, and none is repeated: the student is well-formed, and the search tests what it should
formed : {s : Student} {table : List ℕ} {masks : Masks} {scores identities : List ℕ} {kept : ℕ} {clashes : List ℕ} → Begun s table → ReadAs s table (Ok masks) scores identities
    → AllCompared s.results masks identities kept clashes → WellFormed s table
formed {s} {table} {masks = masks} begun read compared = well_formed s table begun read.0 masks.usable read.1.masks_are.usable_are compared.none_again

tested : {s : Student} {table : List ℕ} {masks : Masks} {scores identities : List ℕ} {kept : ℕ} {clashes : List ℕ} → ReadAs s table (Ok masks) scores identities
    → AllCompared s.results masks identities kept clashes → TestOf s (test_of kept masks) (value_at clashes)
tested read compared = test_of_lem _ _ _ _ _ _ _ read.1 compared

pub returns-in_err-masks : goal.returns-in_err-masks
returns-in_err-masks c =
    let s = student c.args.catalogue.now c.args.year c.args.results.now in
    let p = err_from_is_err_and c.from_residual.result c.from_residual.ensures.1 in
    rw (p.1, p.2) (promise_wrong s c.args.table.now c.requires _ (rw c.in_err-masks.was at c.read_all.ensures))

pub returns-in_err-kept : goal.returns-in_err-kept
returns-in_err-kept c =
    let s = student c.args.catalogue.now c.args.year c.args.results.now in
    let read = rw c.in_ok-masks.was at c.read_all.ensures in
    let p = err_from_is_err_and c.from_residual-in_err-kept.result c.from_residual-in_err-kept.ensures.1 in
    rw (p.1, p.2) (promise_again s c.args.table.now c.requires read.0 c.in_ok-masks.masks.usable read.1.masks_are.usable_are _ (rw c.in_err-kept.was at c.compare.ensures))

pub returns-then-masks-eq0 : goal.returns-then-masks-eq0
returns-then-masks-eq0 c =
    let s = student c.args.catalogue.now c.args.year c.args.results.now in
    let read = rw c.in_ok-masks.was at c.read_all.ensures in
    let compared = rw c.in_ok-kept.was at c.compare.ensures in
    promise_english s c.args.table.now (formed c.requires read compared) (none-shown s _ read.1.masks_are.passes_are c.if-masks-eq0.true)

pub search-requires : goal.search-requires
search-requires c =
    let s = student c.args.catalogue.now c.args.year c.args.results.now in
    let read = rw c.in_ok-masks.was at c.read_all.ensures in
    let compared = rw c.in_ok-kept.was at c.compare.ensures in
    sought s c.args.table.now (formed c.requires read compared) (test_of c.in_ok-kept.kept c.in_ok-masks.masks) (value_at c.compare.new.clashes) (tested read compared) c.read_all.new.scores read.1.scores_are

pub returns : goal.returns
returns c =
    let s = student c.args.catalogue.now c.args.year c.args.results.now in
    let table = c.args.table.now in
    let read = rw c.in_ok-masks.was at c.read_all.ensures in
    let compared = rw c.in_ok-kept.was at c.compare.ensures in
    let well = formed c.requires read compared in
    let found : Answered s table (outcome c.search.result) =
    found-answered s table well (test_of c.in_ok-kept.kept c.in_ok-masks.masks) (value_at c.compare.new.clashes) (tested read compared) c.read_all.new.scores read.1.scores_are c.search.result c.search.ensures
    in
    saying (answered-ruled s table well (some-shown s _ read.1.masks_are.passes_are c.if-masks-eq0.false) _ (rw c.told.ensures found))

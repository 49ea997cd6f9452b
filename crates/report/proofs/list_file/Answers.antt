use Rattle.report.proofs.Filed.{refused-text, Taken, zeros, zeros-sized, taken, few_subjects, few_students, sized, ready, accepted-text}
use Rattle.lines.specs.Inner.{Put}
use Rattle.cohort.specs.Inner.{Sized}
use Rattle.held.specs.declared.Summary.{Summary}
use Rattle.paper.specs.Promises.{said}
use Rattle.held.specs.Promise.{Lent, lent}
use Rattle.paper.specs.Limits.{entry_bytes, row_bytes, most_subjects, most_students}
use lib.Seq.{length-take-le}
use mathlib.Core.Path.{sym, ap, subst, ◌∙◌}
use Prim.Native.Nat.{◌*◌, ◌≤◌}
use native.Mathlib.Omega.{arith}
use borrow.Author.Rules.{rules}
use Rattle.report.proofs.list_file.Goals as goal
use Rattle.report.proofs.list_file.Goals.{In-Ok}

-- of an accepted file: what is told, and what is left in the buffers
module _ (c : In-Ok) where
  abbrev values : Summary
  values = c.in-Ok.summary

  abbrev left : Lent
  left = let l = c.read-read.new in lent l.catalogue l.table l.figures l.ids l.counts l.results

  told : Taken c.args.file.now zeros left values
  told = taken _ zeros c.read-read.result left values (ap said c.in-Ok.is) c.read-read.ensures

  long : Sized left
  long = sized _ zeros left values zeros-sized told

  subjects-few : values.subjects ≤ most_subjects
  subjects-few = few_subjects _ zeros left values zeros-sized told

  students-few : values.students ≤ most_students
  students-few = few_students _ zeros left values zeros-sized told

pub overflow_mul-c : goal.overflow_mul-c
overflow_mul-c c = let w = subjects-few (goal.at.overflow_mul-c c).In-Ok in search rules

pub overflow_mul-t : goal.overflow_mul-t
overflow_mul-t c = let w = subjects-few (goal.at.overflow_mul-t c).In-Ok in search rules

pub slice_bounds-catalogue-end : goal.slice_bounds-catalogue-end
slice_bounds-catalogue-end c =
    let d = (goal.at.slice_bounds-catalogue-end c).In-Ok in
    omega (arith, subjects-few d, (long d).catalogue)

pub slice_bounds-list_read-end : goal.slice_bounds-list_read-end
slice_bounds-list_read-end c =
    let d = (goal.at.slice_bounds-list_read-end c).In-Ok in
    sym (length-take-le (entry_bytes * (values d).subjects) (left d).catalogue (omega (arith, subjects-few d, (long d).catalogue)))

pub slice_bounds-table-end : goal.slice_bounds-table-end
slice_bounds-table-end c =
    let d = (goal.at.slice_bounds-table-end c).In-Ok in
    omega (arith, subjects-few d, (long d).table)

pub slice_bounds-list_read-end-in-Ok : goal.slice_bounds-list_read-end-in-Ok
slice_bounds-list_read-end-in-Ok c =
    let d = (goal.at.slice_bounds-list_read-end-in-Ok c).In-Ok in
    sym (length-take-le (row_bytes * (values d).subjects) (left d).table (omega (arith, subjects-few d, (long d).table)))

pub slice_bounds-ids-end : goal.slice_bounds-ids-end
slice_bounds-ids-end c =
    let d = (goal.at.slice_bounds-ids-end c).In-Ok in
    omega (arith, students-few d, (long d).ids)

pub slice_bounds-list_read-end-in-Ok-2 : goal.slice_bounds-list_read-end-in-Ok-2
slice_bounds-list_read-end-in-Ok-2 c =
    let d = (goal.at.slice_bounds-list_read-end-in-Ok-2 c).In-Ok in
    sym (length-take-le (values d).students (left d).ids (omega (arith, students-few d, (long d).ids)))

pub slice_bounds-counts-end : goal.slice_bounds-counts-end
slice_bounds-counts-end c =
    let d = (goal.at.slice_bounds-counts-end c).In-Ok in
    omega (arith, students-few d, (long d).counts)

pub slice_bounds-list_read-end-in-Ok-4 : goal.slice_bounds-list_read-end-in-Ok-4
slice_bounds-list_read-end-in-Ok-4 c =
    let d = (goal.at.slice_bounds-list_read-end-in-Ok-4 c).In-Ok in
    sym (length-take-le (values d).students (left d).counts (omega (arith, students-few d, (long d).counts)))

pub list_read-requires : goal.list_read-requires
list_read-requires c =
    let d = (goal.at.list_read-requires c).In-Ok in
    ready _ zeros (left d) (values d) zeros-sized (told d) c.args.text.now c.requires

pub returns-in-Err : goal.returns-in-Err
returns-in-Err c =
    let l = c.read-read.new in
    subst (Put c.args.text.now c.append.new.text 0 c.append.result)
    (c.file_line.ensures.same ∙ refused-text c.args.file.now zeros c.read-read.result (lent l.catalogue l.table l.figures l.ids l.counts l.results) _ c.in-Err.is c.read-read.ensures) c.append.ensures

pub returns-in-Ok : goal.returns-in-Ok
returns-in-Ok c =
    let d = (goal.at.returns-in-Ok c).In-Ok in
    subst (Put c.args.text.now c.list_read.new.text 0 c.list_read.result) (accepted-text _ zeros (left d) (values d) zeros-sized (told d)) c.list_read.ensures

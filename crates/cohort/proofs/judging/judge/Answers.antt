use Prim.Native.Nat.{ℕ, ◌+◌, ◌-◌, ◌≤◌, ◌<◌}
use native.Mathlib.Omega.{arith}
use mathlib.Core.Path.{◌≡◌, sym, ap, ◌∙◌}
use mathlib.Core.List.{List}
use lib.ListN.{length, take, drop}
use Rattle.paper.proofs.Ruled.{Unbroken}
use Rattle.paper.proofs.Said.{screened_kept}
use Rattle.paper.specs.Limits.{most_results}
use Rattle.paper.specs.Rulings.{Rule, judged}
use Rattle.paper.specs.Promises.{said}
use Rattle.paper.specs.declared.refusal.Refusal.{Refusal}
use Rattle.std.proofs.Common.{Result, Ok}
use Rattle.std.proofs.lemmas.Result.{err_from_is_err_and}
use Rattle.fields.specs.declared.order.Far.{Far}
use Rattle.fields.specs.Fields.{value_at}
use Rattle.fields.specs.Order.{head_rules}
use Rattle.fields.specs.Inner.{Countable}
use Rattle.fields.proofs.Fitting.{countable}
use Rattle.fields.proofs.Headed.{cut-past, There, there}
use Rattle.held.proofs.Fairly.{few_subjects, few_students}
use Rattle.held.specs.Held.{Held, nothing}
use Rattle.held.specs.Taking.{taken}
use Rattle.held.specs.Judging.{value_rules}
use Rattle.cohort.specs.Inner.{field_of, Seen}
use Rattle.cohort.proofs.Walk.{says-refused, Reached, started, reached_start, short, unordered, ends, value-is, by_value, stopped, gone, end_judged}
use Rattle.cohort.proofs.Turns.{noted_long, seen, slotted, marked-taken, ids-taken, begins_start}
use Rattle.cohort.proofs.Marking.{marked_start}
use borrow.Author.Rules.{rules}
use Rattle.cohort.proofs.judging.judge.Goals as goal
use Rattle.cohort.proofs.judging.judge.Goals.{In_ok-judge}

-- a whole field is at hand, which breaks no rule for 1 and 2: its turn of the loop, its tag and its length, where it ends, and its value
module _ (k : In_ok-judge) where
  abbrev file : List ℕ
  file = k.args.file.now

  abbrev at : ℕ
  at = k.loop-at.at

  abbrev far : Far
  far = k.loop-at.far

  abbrev held : Held
  held = k.loop-at.invariant.0

  abbrev reached : Reached file far held at
  reached = k.loop-at.invariant.1

  abbrev tag : ℕ
  tag = k.in-Some.field-0.tag

  abbrev long : ℕ
  long = k.in-Some.field-0.length

  inside : at < length file
  inside = k.loop-at-test.true

  whole : There file at tag long
  whole = there file at (sym k.in-Some.is ∙ k.head_at.ensures)

  abbrev head : List Rule
  head = head_rules most_results far tag long at

  unbroken : Unbroken head
  unbroken = screened_kept head k.judge.ensures k.in_ok-judge.was

  counted : Countable far tag
  counted = countable most_results far tag long at unbroken (omega arith)

  fits : at + 3 + long ≤ length file
  fits = ends reached inside whole

  abbrev value : List ℕ
  value = take (at + 3 + long - (at + 3)) (drop (at + 3) file)

  part : value ≡ value_at file at
  part = value-is reached inside whole

  -- its rules by its value
  abbrev values : List Rule
  values = value_rules held (field_of tag value) at

  -- which have been judged
  module _ (verdict : Result (Unit {0}) Refusal) (ensured : (h : Held) → Seen far h k.loop-at.noted.marks k.loop-at.noted.ids → said verdict ≡ judged (value_rules h (field_of tag value) at) tt) where
    tells : said verdict ≡ judged values tt
    tells = ensured held (seen far held reached.fair k.loop-at.invariant.2 k.loop-at.invariant.3)

    -- and are not broken
    kept : verdict ≡ Ok tt → Unbroken values
    kept is = screened_kept values tells is

pub loop-at-init : goal.loop-at-init
loop-at-init c = rw (started c.default-far.ensures) (nothing, reached_start _, marked_start, begins_start _ _ (search rules))

pub returns-in_default : goal.returns-in_default
returns-in_default c = says-refused c.args.file.now (short c.loop-at.invariant.1 c.loop-at-test.true (cut-past c.args.file.now c.loop-at.at (sym c.in_default.is ∙ c.head_at.ensures)))

pub returns-in_err-judge : goal.returns-in_err-judge
returns-in_err-judge c =
    let whole = there c.args.file.now c.loop-at.at (sym c.in-Some.is ∙ c.head_at.ensures) in
    let p = err_from_is_err_and c.from_residual.result c.from_residual.ensures.1 in
    rw (p.1, p.2) (says-refused c.args.file.now (unordered c.loop-at.invariant.1 c.loop-at-test.true whole c.in_err-judge.field-0.0 (sym c.in_err-judge.ensures)))

pub overflow_add-end : goal.overflow_add-end
overflow_add-end c = let f = fits (goal.at.overflow_add-end c).In_ok-judge in search rules

pub slice_bounds-value-end : goal.slice_bounds-value-end
slice_bounds-value-end c = let f = fits (goal.at.slice_bounds-value-end c).In_ok-judge in search rules

pub judge_values-requires : goal.judge_values-requires
judge_values-requires c =
    let fair = c.loop-at.invariant.1.fair in
    (few_subjects fair, omega (arith, few_students fair, noted_long _ _ fair c.loop-at.invariant.3))

pub returns-in_err-judge_values : goal.returns-in_err-judge_values
returns-in_err-judge_values c =
    let k = (goal.at.returns-in_err-judge_values c).In_ok-judge in
    let x = c.in_err-judge_values in
    let p = err_from_is_err_and c.from_residual-in_err-judge_values.result c.from_residual-in_err-judge_values.ensures.1 in
    rw (p.1, p.2) (says-refused (file k) (stopped (reached k) (inside k) (whole k) (part k) (unbroken k) x.field-0.0 (sym (tells k c.judge_values.result c.judge_values.ensures) ∙ ap said x.was)))

pub mark-requires : goal.mark-requires
mark-requires c =
    let k = (goal.at.mark-requires c).In_ok-judge in
    slotted (far k) (held k) (reached k).fair (value k) (at k) (tag k) (kept k c.judge_values.result c.judge_values.ensures c.in_ok-judge_values.was)

pub loop-at-preserved : goal.loop-at-preserved
loop-at-preserved c =
    let k = (goal.at.loop-at-preserved c).In_ok-judge in
    let l = c.loop-at in
    let kind = kept k c.judge_values.result c.judge_values.ensures c.in_ok-judge_values.was in
    let top = by_value (reached k) (inside k) (whole k) (part k) (unbroken k) in (
      taken (held k) (field_of (tag k) (value k)),
      gone (reached k) (inside k) (whole k) (part k) (unbroken k) kind c.further-far.result c.further-far.ensures,
      marked-taken l.far (held k) (reached k).fair (value k) (at k) l.invariant.2 (tag k) top kind c.mark.ensures,
      ids-taken l.far (held k) (reached k).fair (value k) (at k) l.invariant.3 (tag k) top c.note_id.ensures,
    )

pub returns : goal.returns
returns c = c.judge_end.ensures ∙ end_judged c.loop-at.invariant.1 (omega (arith, c.loop-at-test.false))

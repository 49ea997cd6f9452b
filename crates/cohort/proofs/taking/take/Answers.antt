use Prim.Native.Nat.{ℕ, ◌+◌, ◌-◌, ◌<◌}
use native.Mathlib.Omega.{arith}
use mathlib.Core.Path.{◌≡◌, sym, ◌∙◌}
use mathlib.Core.List.{List}
use lib.ListN.{length, take, drop}
use Rattle.paper.proofs.Ruled.{Unbroken}
use Rattle.paper.specs.Limits.{most_results}
use Rattle.fields.specs.Fields.{value_at}
use Rattle.fields.specs.Order.{head_rules}
use Rattle.fields.specs.Inner.{Countable}
use Rattle.fields.proofs.Fitting.{countable}
use Rattle.fields.proofs.Headed.{cut-past, There, there}
use Rattle.held.specs.Held.{Held, nothing}
use Rattle.held.specs.Taking.{taken}
use Rattle.held.specs.Judging.{value_rules}
use Rattle.cohort.specs.Inner.{field_of}
use Rattle.cohort.specs.InnerValues.{Rest, rest}
use Rattle.cohort.proofs.Walk.{not_refused, Reached, reached_start, short, ends, value-is, by_value, field-kept, gone, end_kept}
use Rattle.cohort.proofs.Turns.{none-yet, begins_start, table_taken, ids-taken, shows-start, shows-taken, room}
use borrow.Author.Rules.{rules}
use Rattle.cohort.proofs.taking.take.Goals as goal
use Rattle.cohort.proofs.taking.take.Goals.{In-Some}

-- a whole field is at hand: its turn of the loop, its tag and its length
module _ (w : In-Some) where
  abbrev file : List ℕ
  file = w.args.file.now

  abbrev at : ℕ
  at = w.loop-at.at

  abbrev held : Held
  held = w.loop-at.invariant.0

  abbrev reached : Reached file w.loop-at.so.far held at
  reached = w.loop-at.invariant.1

  abbrev tag : ℕ
  tag = w.in-Some.field-0.tag

  abbrev long : ℕ
  long = w.in-Some.field-0.length

  inside : at < length file
  inside = w.loop-at-test.true

  whole : There file at tag long
  whole = there file at (sym w.in-Some.is ∙ w.head_at.ensures)

  -- its value; it breaks no rule, for the file is accepted
  abbrev value : List ℕ
  value = take (at + 3 + long - (at + 3)) (drop (at + 3) file)

  part : value ≡ value_at file at
  part = value-is reached inside whole

  unbroken : Unbroken (head_rules most_results w.loop-at.so.far tag long at) × Unbroken (value_rules held (field_of tag value) at)
  unbroken = field-kept reached inside whole part w.requires

  counted : Countable w.loop-at.so.far tag
  counted = countable most_results w.loop-at.so.far tag long at unbroken.0 (omega arith)

  head : Unbroken (head_rules most_results w.loop-at.so.far tag (length value) at)
  head = by_value reached inside whole part unbroken.0

  -- the buffers beside what is noted, as they were lent and as they stand
  abbrev lent-rest : Rest
  lent-rest = let a = w.args in rest a.catalogue.now a.figures.now a.counts.now a.results.now

  abbrev stood : Rest
  stood = let l = w.loop-at in rest l.catalogue l.figures l.counts l.results

pub loop-at-init : goal.loop-at-init
loop-at-init c =
    let a = c.args in
    rw (none-yet c.default-so.ensures) (nothing, reached_start _, begins_start _ _ c.told-table, begins_start _ _ c.told-ids, shows-start (rest a.catalogue.now a.figures.now a.counts.now a.results.now) c.told-figures c.told-counts)

pub returns-in_default : goal.returns-in_default
returns-in_default c =
    let file = c.args.file.now in
    absurd (not_refused file c.requires _ (short c.loop-at.invariant.1 c.loop-at-test.true (cut-past file c.loop-at.at (sym c.in_default.is ∙ c.head_at.ensures))))

pub overflow_add-end : goal.overflow_add-end
overflow_add-end c = let w = (goal.at.overflow_add-end c).In-Some in let f = ends (reached w) (inside w) (whole w) in search rules

pub slice_bounds-value-end : goal.slice_bounds-value-end
slice_bounds-value-end c = let w = (goal.at.slice_bounds-value-end c).In-Some in let f = ends (reached w) (inside w) (whole w) in search rules

pub note_id-requires : goal.note_id-requires
note_id-requires c = counted (goal.at.note_id-requires c).In-Some

pub take_field-so-requires : goal.take_field-so-requires
take_field-so-requires c =
    let w = (goal.at.take_field-so-requires c).In-Some in
    let l = c.loop-at in
    room l.so (held w) (reached w).fair (lent-rest w) (stood w) l.invariant.4 (value w) (at w) (tag w) (head w) (unbroken w).1

pub further-so-requires : goal.further-so-requires
further-so-requires c = counted (goal.at.further-so-requires c).In-Some

pub loop-at-preserved : goal.loop-at-preserved
loop-at-preserved c =
    let w = (goal.at.loop-at-preserved c).In-Some in
    let l = c.loop-at in
    let f = c.take_field-so in
    let b = f.new in (
      taken (held w) (field_of (tag w) (value w)),
      gone (reached w) (inside w) (whole w) (part w) (unbroken w).0 (unbroken w).1 c.further-so.result c.further-so.ensures,
      table_taken l.so.far (held w) (reached w).fair (value w) (at w) l.invariant.2 (tag w) (head w) (unbroken w).1 c.take_scores.ensures,
      ids-taken l.so.far (held w) (reached w).fair (value w) (at w) l.invariant.3 (tag w) (head w) c.note_id.ensures,
      shows-taken l.so (held w) (reached w).fair (lent-rest w) (stood w) l.invariant.4 (value w) (at w) (tag w) (head w) (unbroken w).1 f.result c.further-so.result (rest b.catalogue b.figures b.counts b.results) f.ensures.0 f.ensures.1,
    )

pub returns : goal.returns
returns c =
    let l = c.loop-at in
    record {
      held = l.invariant.0;
      read = end_kept l.invariant.1 (omega (arith, c.loop-at-test.false)) c.requires;
      counts = l.invariant.1.fair.counts;
      table = l.invariant.2;
      ids = l.invariant.3;
      shows = l.invariant.4;
    }

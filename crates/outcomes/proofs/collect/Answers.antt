use Rattle.outcomes.proofs.Collecting.{Gathered, gathered_none, gathered_all, gathered_more, after-most, joined-long}
use Rattle.outcomes.proofs.Bounded.{place_short}
use Rattle.outcomes.specs.Inner.{outcome_at}
use Rattle.paper.specs.Promises.{said}
use Rattle.paper.specs.Rulings.{place_in}
use Rattle.paper.specs.Limits.{result_bytes, most_results}
use lib.Seq.{get_or-set_other}
use lib.ListN.{length, get_or, set, length-set}
use mathlib.Core.Path.{◌≡◌, refl, sym, ap, subst, ◌∙◌}
use Prim.Native.Nat.{ℕ, ◌+◌, ◌*◌, ◌≤◌, ◌<◌}
use native.Mathlib.Nat.{le_refl}
use native.Mathlib.Omega.{arith}
use borrow.Author.Rules.{rules}
use Rattle.outcomes.proofs.collect.Goals as goal
use Rattle.outcomes.proofs.collect.Goals.{After-best_at-answer}

module _ (c : After-best_at-answer) where
  -- the student's number of results is still there, and at most 16
  same_count : get_or c.loop-i.counts c.loop-i.i 0 ≡ get_or c.args.counts.now c.loop-i.i 0
  same_count = c.loop-i.invariant.6 c.loop-i.i (le_refl c.loop-i.i)

  few_results : c.from-count.result ≤ most_results
  few_results = omega (arith, c.from-count.ensures, same_count, c.requires.few.each c.loop-i.i (omega (arith, c.loop-i.invariant.4, c.loop-i-test.true)))

  -- its outcome, and the place of its refusal, which is a byte
  told_here : said c.best_at-answer.result ≡ outcome_at c.args.catalogue.now c.args.table.now c.args.year c.args.results.now c.loop-i.place (get_or c.args.counts.now c.loop-i.i 0)
  told_here = c.best_at-answer.ensures ∙ ap (outcome_at c.args.catalogue.now c.args.table.now c.args.year c.args.results.now c.loop-i.place) (c.from-count.ensures ∙ same_count)

  place-fits : place_in (said c.best_at-answer.result) < 256
  place-fits =
      let a = c.args in
      omega (
        arith,
        ap place_in c.best_at-answer.ensures,
        place_short a.catalogue.now a.table.now a.year a.results.now c.loop-i.place c.from-count.result c.requires.few_subjects few_results,
      )

pub loop-i-init : goal.loop-i-init
loop-i-init c =
    let a = c.args in
    let p = c.requires in
    (omega arith, omega arith, omega arith, p.aggregates_long, refl, p.places_long, λ k l. refl, gathered_none a.catalogue.now a.table.now a.year (length a.counts.now) a.counts.now a.results.now a.aggregates.now a.counts.now a.places.now)

pub overflow_cast-places : goal.overflow_cast-places
overflow_cast-places c =
    let w = place-fits (goal.at.overflow_cast-places c).After-best_at-answer in
    let e = c.refusal_in-number.ensures.1 in
    search rules

pub loop-i-preserved : goal.loop-i-preserved
loop-i-preserved c =
    let a = c.args in
    let p = c.requires in
    let l = c.loop-i in
    let s = (goal.at.loop-i-preserved c).After-best_at-answer in
    let o = said c.best_at-answer.result in
    let few = few_results s in
    let inside = c.loop-i-test.true in
    let join = c.join-eligible in
    let number = c.refusal_in-number.result.0 in
    let place = c.refusal_in-number.result.1 in
    let g = gathered_more l.invariant.7 o join.new.aggregates join.result number place (omega (arith, l.invariant.4)) (omega (arith, p.few.students, l.invariant.3)) (omega arith) (omega (arith, l.invariant.4, l.invariant.5)) (told_here s) join.ensures.0 join.ensures.1 c.refusal_in-number.ensures.0 c.refusal_in-number.ensures.1 in (
      omega (arith, l.invariant.4),
      omega (arith, few),
      omega (arith, join.ensures.1, after-most l.eligible o),
      ap length join.ensures.0 ∙ joined-long o l.aggregates l.eligible ∙ l.invariant.3,
      length-set l.counts l.i number ∙ l.invariant.4,
      length-set l.places l.i place ∙ l.invariant.5,
      λ k m. get_or-set_other l.counts l.i k number 0 (λ e. omega arith) ∙ l.invariant.6 k (omega arith),
      subst (λ (n : ℕ). Gathered a.catalogue.now a.table.now a.year (length a.counts.now) a.counts.now a.results.now (l.i + 1) (l.place + result_bytes * n) join.new.aggregates join.result (set l.counts l.i number) (set l.places l.i place)) (sym (c.from-count.ensures ∙ same_count s)) g,
    )

pub returns : goal.returns
returns c =
    let l = c.loop-i in
    record { long = l.invariant.3; numbers_long = l.invariant.4; places_long = l.invariant.5; within = omega arith; are = gathered_all l.invariant.7 (omega (arith, l.invariant.4)) l.invariant.4 l.invariant.5 }

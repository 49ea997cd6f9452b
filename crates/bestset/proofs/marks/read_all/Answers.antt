use Rattle.std.proofs.Common.{◌≡◌, ℕ, ◌+◌, ◌<◌, List, ap, sym, subst, ◌∙◌, add-one, arith}
use Rattle.std.proofs.lemmas.Result.{err_from_is_err_and}
use Rattle.std.proofs.Math.ListN.{length-set}
use borrow.Author.Count.{below_more}
use Rattle.paper.proofs.Ruled.{all_unbroken, unbroken_all, turns_unbroken, turn_refused}
use Rattle.paper.specs.Limits.{most_results}
use Rattle.paper.specs.Rulings.{Outcome, judged}
use Rattle.paper.specs.Promises.{said}
use Rattle.catalogue.specs.Catalogue.{subjects}
use Rattle.scores.specs.Scores.{Found}
use Rattle.results.specs.Results.{Student, student, held, result}
use Rattle.results.specs.Scoring.{worth, score_found, score, score_at, own_identity, identity_at}
use Rattle.results.specs.declared.reading.StudentResult.{StudentResult}
use Rattle.sets.specs.Rules.{unscored, result_rules, turn_rules}
use Rattle.bestset.specs.InnerJudging.{rules_of}
use Rattle.bestset.specs.InnerMarks.{Masked, ByPosition, with_one}
use Rattle.bestset.proofs.Marking.{masked_one, read_next}
use Rattle.bestset.proofs.marks.read_all.Goals as goal

-- the result at i is judged by its rules
judged_here : (s : Student) (table : List ℕ) (i : ℕ) {r : StudentResult} {f : Found} {o : Outcome (Unit {0})} → r ≡ result s i → f ≡ score_found table r
    → o ≡ judged (rules_of (subjects s.catalogue) s.year r f i) tt → o ≡ judged (result_rules s table i) tt
unfolding unscored
judged_here s table i read look told = rw (look, read) at told

pub returns-in_err-judge_result : goal.returns-in_err-judge_result
returns-in_err-judge_result c =
    let s = student c.args.catalogue.now c.args.year c.args.results.now in
    let table = c.args.table.now in
    let here = judged_here s table c.loop-i.i c.result_at-result.ensures c.slot_of-slot.ensures c.judge_result.ensures in
    let p = err_from_is_err_and c.from_residual.result c.from_residual.ensures.1 in
    rw (p.1, p.2) (turn_refused _ (result_rules s table) tt tt _ _ c.loop-i-test.true c.loop-i.invariant.fresh (sym here ∙ ap said c.in_err-judge_result.was))

pub loop-i-preserved : goal.loop-i-preserved
unfolding score
loop-i-preserved c =
    let s = student c.args.catalogue.now c.args.year c.args.results.now in
    let table = c.args.table.now in
    let i = c.loop-i.i in
    let inv = c.loop-i.invariant in
    let taken : i < held s = c.loop-i-test.true in
    let under : i < most_results = omega (arith, taken, c.requires.few) in
    let read = c.result_at-result.ensures in
    let here = judged_here s table i read c.slot_of-slot.ensures c.judge_result.ensures in
    let masks : c.with_one-masks.result ≡ with_one c.loop-i.masks i (result s i) = c.with_one-masks.ensures ∙ ap (λ (r : StudentResult). with_one c.loop-i.masks i r) read in
    let worths : c.score_of.result ≡ score_at s table i = c.score_of.ensures ∙ ap worth c.slot_of-slot.ensures ∙ ap (λ (r : StudentResult). score table r) read in
    let own : c.identity_of.result ≡ identity_at s i = c.identity_of.ensures ∙ ap own_identity read in
    record {
      scores_sized = simp length-set inv.scores_sized;
      identities_sized = simp length-set inv.identities_sized;
      masks_are = subst (Masked s (i + 1)) (sym masks) (masked_one s i c.loop-i.masks under inv.masks_are);
      scores_are = rw (add-one i) (read_next _ i c.loop-i.scores c.score_of.result (omega (arith, under, inv.scores_sized)) worths inv.scores_are);
      identities_are = rw (add-one i) (read_next _ i c.loop-i.identities c.identity_of.result (omega (arith, under, inv.identities_sized)) own inv.identities_are);
      fresh = below_more _ _ inv.fresh (all_unbroken (result_rules s table i) tt tt (sym here ∙ ap said c.in_ok-judge_result.was));
    }

pub returns : goal.returns
returns c =
    let s = student c.args.catalogue.now c.args.year c.args.results.now in
    let table = c.args.table.now in
    let l = c.loop-i in
    let e : l.i ≡ held s = omega arith in (
      unbroken_all (turn_rules s table) tt (turns_unbroken (held s) (result_rules s table) (λ j m. l.invariant.fresh j (omega arith))),
      record {
        masks_are = subst (λ (n : ℕ). Masked s n l.masks) e l.invariant.masks_are;
        scores_are = subst (λ (n : ℕ). ByPosition (score_at s table) n l.scores) e l.invariant.scores_are;
        identities_are = subst (λ (n : ℕ). ByPosition (identity_at s) n l.identities) e l.invariant.identities_are;
      },
    )

-- What the search finds is what the promise asks, and the promise by its ruling.
use Prim.Native.Nat.{ℕ, ◌≤◌}
use native.Mathlib.Omega.{arith}
use mathlib.Core.Path.{◌≡◌, refl, sym, ap, subst, ◌∙◌}
use mathlib.Core.Bool.{Bool, true, false, not}
use mathlib.Core.List.{List, [], ◌∷◌}
use borrow.Author.Tests.{lt-ltb, le-ltb}
use Rattle.paper.specs.Limits.{top_score}
use Rattle.paper.specs.Lists.{first}
use Rattle.paper.specs.Rulings.{Outcome, accepted, refused, ◌⇒◌, ◌at◌, judged}
use Rattle.paper.specs.Refusals.{fault}
use Rattle.paper.specs.declared.refusal.Refusal.{Refusal}
use Rattle.paper.specs.declared.refusal.Refusal.TheVariants.{NoEnglish}
use Rattle.paper.proofs.Ruled.{all_unbroken, after-unbroken, before-refused}
use Rattle.seek.specs.InnerTest.{value_at, Allowed, Answers}
use Rattle.seek.specs.InnerSearch.{Sought}
use Rattle.seek.specs.declared.search.Test.{Test}
use Rattle.seek.specs.declared.search.Lead.{Lead}
use Rattle.std.proofs.Common.{Option, Some, None, Err}
use Rattle.seek.proofs.Tops.{answers_iff, answers_sum}
use Rattle.results.specs.Results.{Student, held, result}
use Rattle.results.specs.Scoring.{score_at}
use Rattle.results.specs.Counting.{usable, shows_english}
use Rattle.results.proofs.Scores.{score-most}
use Rattle.sets.specs.Admissible.{Admissible}
use Rattle.sets.specs.Rules.{turn_rules, repeated, student_rules}
use Rattle.sets.specs.Promise.{WellFormed, ruling, aggregate_of, Answered, RuledBy, Ruled, Promise}
use Rattle.sets.specs.declared.BestSet.{BestSet}
use Rattle.sets.proofs.Formed.{kept-held, few-held}
use Rattle.bestset.specs.InnerJudging.{start_rules, Begun}
use Rattle.clashes.specs.InnerMasks.{MaskOf}
use Rattle.bestset.specs.InnerMarks.{ByPosition, outcome}
use Rattle.clashes.specs.InnerPairs.{repeated_in, FirstAgain}
use Rattle.bestset.proofs.Clashing.{TestOf, same_total, allowed_admissible, admissible-allowed}
use Rattle.bestset.proofs.Judging.{judges, start-refused, turn_refused, repeat_left}
use Rattle.bestset.proofs.Marking.{read-most}
use Rattle.bestset.proofs.Usable.{repeated-is}

-- ---- what the search finds

module _ (s : Student) (table : List ℕ) where
  best-answered : (b : Option Lead) → Answers (Admissible s) (score_at s table) b → Answered s table (outcome b)
  best-answered (Some v) t =
      let e = t.sum in
      record { admissible = t.right; aggregate = ap aggregate_of (sym e); most = λ u a. omega (arith, t.most u a); first = λ u a h. t.first u a (h ∙ e) }
  best-answered None n = (refl, n)

  module _ (w : WellFormed s table) (test : Test) (clash : ℕ → ℕ) (m : TestOf s test clash) (scores : List ℕ) (k : ByPosition (score_at s table) (held s) scores) where
    -- what the search is given
    pub sought : Sought test.kept scores (held s)
    sought =
        record {
          few = few-held s table w;
          among = λ i p. kept-held s i (m.kept_are.sound i p);
          most = read-most (score_at s table) (held s) top_score scores k (λ i. score-most table (result s i));
        }

    -- what it finds is what a well-formed student with English shown is owed
    pub found-answered : (b : Option Lead) → Answers (Allowed test clash) (value_at scores) b → Answered s table (outcome b)
    found-answered b a =
        best-answered b
        (answers_sum (Admissible s) (value_at scores) (score_at s table)
        (λ t d. same_total (value_at scores) (score_at s table) t (λ i p. k.each i (kept-held s i (d.each i p)))) b
        (answers_iff (Allowed test clash) (Admissible s) (value_at scores)
        (allowed_admissible s test clash m table w) (admissible-allowed s test clash m) b a))

  -- ---- the promise, by its ruling

  ruled-so : (o : Outcome BestSet) (u : Outcome (Unit {0})) → ruling s table ≡ u → RuledBy s table u o → Ruled s table o
  ruled-so o u e h = subst (λ (v : Outcome (Unit {0})). RuledBy s table v o) (sym e) h

  formed-refused : (x : Refusal) → judges (student_rules s table) ≡ refused (fault x) → Promise s table (Err x)
  formed-refused x e = record { says = ruled-so (refused (fault x)) (refused (fault x)) (before-refused (student_rules s table) _ tt tt (fault x) e) refl; leaves = refl }

  -- before the results are read
  pub promise_refused : (x : Refusal) → judges (start_rules s table) ≡ refused (fault x) → Promise s table (Err x)
  promise_refused x e = formed-refused x (start-refused s table (fault x) e)

  module _ (begun : Begun s table) where
    -- of a result
    pub promise_wrong : (x : Refusal) → judges (turn_rules s table) ≡ refused (fault x) → Promise s table (Err x)
    promise_wrong x e = formed-refused x (turn_refused s table begun (fault x) e)

    -- 6, or the student is well-formed
    module _ (read : judges (turn_rules s table) ≡ accepted tt) (mask : ℕ) (h : MaskOf (λ i. usable (result s i)) (held s) mask) where
      again-is : first (held s) (repeated_in s.results mask) ≡ first (held s) (repeated s)
      again-is = ap (first (held s)) (repeated-is s mask h)

      pub promise_again : (x : Refusal) → FirstAgain s.results mask x → Promise s table (Err x)
      promise_again x a = formed-refused x (repeat_left s table begun read ∙ simp (a.is_first, ← again-is, lt-ltb _ _ a.one_of) refl)

      pub well_formed : first (held s) (repeated_in s.results mask) ≡ held s → WellFormed s table
      well_formed e =
          let f = sym again-is ∙ e in
          let l : held s ≤ held s = omega arith in
          repeat_left s table begun read ∙ simp (f, le-ltb _ _ l) refl

  module _ (w : WellFormed s table) where
    english-decides : (b : Bool) → shows_english s ≡ b → ruling s table ≡ judged (not b ⇒ 7 at 0 ∷ []) tt
    english-decides b e =
        after-unbroken (student_rules s table) _ tt (all_unbroken (student_rules s table) tt tt w) ∙ ap (λ (t : Bool). judged (not t ⇒ 7 at 0 ∷ []) tt) e

    -- 7
    pub promise_english : shows_english s ≡ false → Promise s table (Err NoEnglish)
    promise_english e = record { says = ruled-so (refused (7 at 0)) (refused (7 at 0)) (english-decides false e) refl; leaves = refl }

    -- after 7
    pub answered-ruled : shows_english s ≡ true → (o : Outcome BestSet) → Answered s table o → Ruled s table o
    answered-ruled e o h = ruled-so o (accepted tt) (english-decides true e) h

-- Demand 2, of every answer that the promise permits to a well-formed student.
use Prim.Native.Nat.{ℕ, ◌≤◌}
use native.Mathlib.Omega.{arith}
use mathlib.Core.Path.{◌≡◌, refl, sym, ap, subst, ◌∙◌}
use mathlib.Core.Bool.{Bool, true, false, not}
use mathlib.Core.List.{List, [], ◌∷◌}
use Rattle.std.proofs.Common.{Result}
use Rattle.paper.specs.Promises.{said}
use Rattle.paper.specs.declared.refusal.Refusal.{Refusal}
use Rattle.paper.specs.Rulings.{Fault, Outcome, accepted, refused, Rule, ◌⇒◌, ◌at◌, judged}
use Rattle.paper.proofs.Ruled.{all_unbroken, after-unbroken}
use Rattle.results.specs.Results.{Student}
use Rattle.results.specs.Counting.{shows_english}
use Rattle.sets.specs.Admissible.{Admissible}
use Rattle.sets.specs.Rules.{student_rules}
use Rattle.sets.specs.Promise.{WellFormed, total_of, aggregate_of, Chosen, Answered, RuledBy, Promise}
use Rattle.sets.specs.declared.BestSet.{BestSet}
use Rattle.sets.proofs.Rounding.{none-higher}

-- no set is admissible
abbrev pub NoneAdmissible : Student → Type 0
NoneAdmissible s = (set : ℕ) → Admissible s set → ⊥

-- 7, where English is not shown
abbrev english_rules : Bool → List Rule
english_rules shown = not shown ⇒ 7 at 0 ∷ []

module _ (s : Student) (table : List ℕ) (formed : WellFormed s table) (r : Result BestSet Refusal) (promised : Promise s table r) where
  -- English alone is left to rule on
  ruled : (shown : Bool) → shows_english s ≡ shown → RuledBy s table (judged (english_rules shown) tt) (said r)
  ruled shown e =
      subst (λ (o : Outcome (Unit {0})). RuledBy s table o (said r))
      (after-unbroken (student_rules s table) (english_rules (shows_english s)) tt (all_unbroken (student_rules s table) tt tt formed) ∙ ap (λ (b : Bool). judged (english_rules b) tt) e)
      promised.says

  -- without English: exactly 7
  pub no_english : shows_english s ≡ false → said r ≡ refused (7 at 0)
  no_english e = ruled false e

  -- with English: an admissible set that none exceeds, where some set is admissible
  pub some-set : shows_english s ≡ true → (set : ℕ) → Admissible s set → (v : BestSet) × (said r ≡ accepted v) × Chosen s table v
  some-set e set a = go (said r) refl (ruled true e)
    where
      go : (o : Outcome BestSet) → said r ≡ o → Answered s table o → (v : BestSet) × (said r ≡ accepted v) × Chosen s table v
      go (accepted v) is h = (v, is, h)
      go (refused f) is h = absurd (h.1 set a)

  -- exactly 8, where none is
  pub no_set : shows_english s ≡ true → NoneAdmissible s → said r ≡ refused (8 at 0)
  no_set e none = go (said r) (ruled true e)
    where
      go : (o : Outcome BestSet) → Answered s table o → o ≡ refused (8 at 0)
      go (accepted v) h = absurd (none v.set h.admissible)
      go (refused f) h = ap refused h.0

  -- a refusal with English shown, whatever it is, is 8, and no set is admissible
  pub refused-with_english : shows_english s ≡ true → (f : Fault) → said r ≡ refused f → (f ≡ 8 at 0) × NoneAdmissible s
  refused-with_english e f is = subst (Answered s table) is (ruled true e)

  -- a set is given only where English is shown, and it is as above
  pub only-some_set : (v : BestSet) → said r ≡ accepted v → (shows_english s ≡ true) × Chosen s table v
  only-some_set v is = go (shows_english s) refl
    where
      go : (shown : Bool) → shows_english s ≡ shown → (shown ≡ true) × Chosen s table v
      go true e = (refl, subst (Answered s table) is (ruled true e))
      go false e = absurd (let h = no_english e in let z : ◌≡◌ {A = ℕ} 0 1 = cc in omega arith)

  -- and no admissible set rounds to a higher aggregate
  pub none_more : (v : BestSet) → said r ≡ accepted v → (set : ℕ) → Admissible s set → aggregate_of (total_of s table set) ≤ v.aggregate
  none_more v is = none-higher s table v (only-some_set v is).1

  -- 7 only where it is not shown
  pub only-no_english : said r ≡ refused (7 at 0) → shows_english s ≡ false
  only-no_english is = go (shows_english s) refl
    where
      go : (shown : Bool) → shows_english s ≡ shown → shown ≡ false
      go true e = absurd (let h = (refused-with_english e (7 at 0) is).0 in let z : ◌≡◌ {A = ℕ} 7 8 = cc in omega arith)
      go false e = refl

  -- 8 only where it is shown and no set is admissible
  pub only-no_set : said r ≡ refused (8 at 0) → (shows_english s ≡ true) × NoneAdmissible s
  only-no_set is = go (shows_english s) refl
    where
      go : (shown : Bool) → shows_english s ≡ shown → (shown ≡ true) × NoneAdmissible s
      go true e = (refl, (refused-with_english e (8 at 0) is).1)
      go false e = absurd (let h = sym is ∙ no_english e in let z : ◌≡◌ {A = ℕ} 8 7 = cc in omega arith)

-- What follows from every promise: it determines the answer and the buffers, the computed ones meet it, and no others do.
use mathlib.Core.Path.{◌≡◌, refl, sym, ap, subst, ◌∙◌}
use Rattle.paper.specs.Rulings.{Outcome, accepted, refused}
use Rattle.paper.specs.Refusals.{refusal}
use Rattle.paper.specs.Promises.{Left, Promised, Is, Saying, answered, filled, Tells, Permits, Owes, Called}
use Rattle.paper.specs.declared.refusal.Refusal.{Refusal}
use Rattle.paper.proofs.Ruled.{Refusing}

-- a ruling that is computed
pub rules_is : {A : Type 0} {ruling : Outcome A} → Permits (Is ruling) ruling
rules_is = record { permitted = refl; alone = λ o e. e }

-- the buffers are owed to be those that are filled, or there are none
pub owes_equal : {A B : Type 0} {ruling : Outcome A} {fill : A → B} → Owes (λ v after. after ≡ fill v) ruling fill
owes_equal = record { met = λ v e. refl; only = λ v b x. x }

pub owes_none : {A : Type 0} {ruling : Outcome A} → Owes {A = A} {B = Unit {0}} (λ v b. Unit {0}) ruling (λ v. tt)
owes_none = record { met = λ v e. tt; only = λ v b x. refl }

-- where no buffer is lent, what is said is all that is promised
left-none : {A : Type 0} (o : Outcome A) → Left {A = A} {B = Unit {0}} (λ v b. Unit {0}) tt o tt
left-none (accepted v) = tt
left-none (refused f) = refl

pub saying : {R A : Type 0} {said : R → Outcome A} {Ruled : Outcome A → Type 0} {r : R} → Ruled (said r) → Saying said Ruled r
saying {said} {r} h = record { says = h; leaves = left-none (said r) }

module _ {R A B : Type 0} {said : R → Outcome A} {Ruled : Outcome A → Type 0} {Owed : A → B → Type 0} {accept : A → R} {refuse : Refusal → R} {ruling : Outcome A} {fill : A → B}
    (t : Tells said accept refuse) (d : Permits Ruled ruling) (a : Owes Owed ruling fill) where
  said-met : (o : Outcome A) → Refusing o → said (answered accept refuse o) ≡ o
  said-met (accepted v) h = t.accepting v
  said-met (refused f) h = t.refusing (refusal f) ∙ ap refused h

  left-only : (before : B) (o : Outcome A) (b : B) → Left Owed before o b → b ≡ filled fill before o
  left-only before (accepted v) b x = a.only v b x
  left-only before (refused f) b x = x

  left-met : (before : B) (o : Outcome A) → ((v : A) → o ≡ accepted v → Owed v (fill v)) → Left Owed before o (filled fill before o)
  left-met before (accepted v) m = m v refl
  left-met before (refused f) m = refl

  -- the computed answer and buffers are permitted
  pub meets : {before : B} → Refusing ruling → Promised said Ruled Owed before (answered accept refuse ruling) (filled fill before ruling)
  meets {before} h =
      let e = said-met ruling h in
      record {
        says = subst Ruled (sym e) d.permitted;
        leaves = subst (λ (o : Outcome A). Left Owed before o (filled fill before ruling)) (sym e) (left-met before ruling a.met);
      }

  -- and no others
  pub only : {before : B} {r : R} {b : B} → Promised said Ruled Owed before r b → (r ≡ answered accept refuse ruling) × (b ≡ filled fill before ruling)
  only {before} {r} {b} p =
      let e = d.alone (said r) p.says in
      (sym (t.told r) ∙ ap (answered accept refuse) e, left-only before ruling b (subst (λ (o : Outcome A). Left Owed before o b) e p.leaves))

  -- two permitted results are equal
  pub determined : {before : B} {r s : R} {b c : B} → Promised said Ruled Owed before r b → Promised said Ruled Owed before s c → (r ≡ s) × (b ≡ c)
  determined p q = let x = only p in let y = only q in (x.0 ∙ sym y.0, x.1 ∙ sym y.1)

  -- the only ones, where the ruling is known
  pub only-as : {before : B} {r : R} {b : B} {o : Outcome A} → ruling ≡ o → Promised said Ruled Owed before r b → (r ≡ answered accept refuse o) × (b ≡ filled fill before o)
  only-as {before} e p = let x = only p in (x.0 ∙ ap (answered accept refuse) e, x.1 ∙ ap (filled fill before) e)

-- the buffers are left as the ruling is
pub left_as : {R A B : Type 0} {said : R → Outcome A} {Owed : A → B → Type 0} {ruling o : Outcome A} {before : B} {r : R} {b : B}
    → ruling ≡ o → Promised said (Is ruling) Owed before r b → Left Owed before o b
left_as {A} {B} {Owed} {before} {b} e p = subst (λ (o : Outcome A). Left Owed before o b) (p.says ∙ e) p.leaves

-- what determines the answer determines its form
pub called_once : {R S B : Type 0} {Permitted : R → B → Type 0} {form : R → S} {s t : S} {b c : B}
    → ((q r : R) → Permitted q b → Permitted r c → (q ≡ r) × (b ≡ c)) → Called Permitted form s b → Called Permitted form t c → (s ≡ t) × (b ≡ c)
called_once {form} once p q =
    let e = once p.answer q.answer p.promised q.promised in
    (p.formed ∙ ap form e.0 ∙ sym q.formed, e.1)

pub called_met : {R S B : Type 0} {Permitted : R → B → Type 0} (form : R → S) {r : R} {b : B} → Permitted r b → Called Permitted form (form r) b
called_met form {r} h = record { answer = r; promised = h; formed = refl }

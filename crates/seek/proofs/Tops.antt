-- The best set of any kind of sets: there is one, two kinds with the same sets have the same, and what one set more does to it.
use Prim.Native.Nat.{ℕ, ◌≤◌}
use native.Mathlib.Nat.{le_refl}
use native.Mathlib.Omega.{arith}
use mathlib.Core.Path.{◌≡◌, refl, sym, ap, ◌∙◌}
use mathlib.Core.Logic.{◌⊎◌, inl, inr, ⊎_elim}
use Rattle.seek.specs.Sets.{positions, comes_to, Earlier}
use Rattle.seek.specs.InnerTest.{Beats, Answers, Top}
use Rattle.seek.specs.declared.search.Lead.{Lead}
use Rattle.std.proofs.Common.{Option, Some, None}
use Rattle.seek.proofs.Order.{asym}

-- ---- one answer

pub one-top : {Adm : ℕ → Type 0} {score : ℕ → ℕ} {a s b t : ℕ} → Top Adm score a s → Top Adm score b t → (a ≡ b) × (s ≡ t)
one-top {a = a} {s = s} {b = b} {t = t} p q =
    let l = q.most s p.right in
    let g = p.most t q.right in
    let u = p.sum in
    let v = q.sum in (
      omega arith,
      ⊎_elim
          (λ (h : t ≡ s). sym h)
          (λ (h : Earlier (positions s) (positions t)).
          ⊎_elim
          (λ (k : s ≡ t). k)
          (λ (k : Earlier (positions t) (positions s)). absurd (asym (positions s) (positions t) h k))
          (q.first s p.right (omega arith)))
          (p.first t q.right (omega arith)),
    )

-- ---- two kinds with the same sets

pub top_iff : {A B : ℕ → Type 0} {score : ℕ → ℕ} {a s : ℕ} → ((t : ℕ) → A t → B t) → ((t : ℕ) → B t → A t) → Top A score a s → Top B score a s
top_iff {s = s} f g r = record { right = f s r.right; sum = r.sum; most = λ t d. r.most t (g t d); first = λ t d. r.first t (g t d) }

-- two scores by which each set comes to the same
pub answers_sum : (A : ℕ → Type 0) (f g : ℕ → ℕ) → ((t : ℕ) → A t → comes_to f t ≡ comes_to g t) → (b : Option Lead) → Answers A f b → Answers A g b
answers_sum A f g e (Some v) r =
    record {
      right = r.right;
      sum = sym (e v.set r.right) ∙ r.sum;
      most = λ t d. omega (arith, e t d, r.most t d);
      first = λ t d h. r.first t d (e t d ∙ h);
    }
answers_sum A f g e None r = r

module _ (A B : ℕ → Type 0) (score : ℕ → ℕ) where
  pub answers_iff : ((t : ℕ) → A t → B t) → ((t : ℕ) → B t → A t) → (b : Option Lead) → Answers A score b → Answers B score b
  answers_iff f g (Some v) r = top_iff f g r
  answers_iff f g None r = λ t d. r t (g t d)

  -- ---- one set s more

  module _ (s : ℕ) (g : (t : ℕ) → B t → A t ⊎ (t ≡ s)) where
    most-of : (x : ℕ) → ((t : ℕ) → A t → comes_to score t ≤ x) → comes_to score s ≤ x → (t : ℕ) → B t → comes_to score t ≤ x
    most-of x h e t d = ⊎_elim (h t) (λ (q : t ≡ s). let k = ap (comes_to score) q in omega arith) (g t d)

    -- which comes to more
    pub answers_more : B s → (b : Option Lead) → Beats b (comes_to score s) → Answers A score b → Answers B score (Some (record { total = comes_to score s; set = s }))
    answers_more ok (Some v) e r =
        record {
          right = ok;
          sum = refl;
          most = most-of (comes_to score s) (λ t q. let k = r.most t q in omega arith) (le_refl (comes_to score s));
          first = λ t d f. ⊎_elim (λ (q : A t). let k = r.most t q in absurd (omega arith)) inl (g t d);
        }
    answers_more ok None e r =
        record {
          right = ok;
          sum = refl;
          most = most-of (comes_to score s) (λ t q. absurd (r t q)) (le_refl (comes_to score s));
          first = λ t d f. ⊎_elim (λ (q : A t). absurd (r t q)) inl (g t d);
        }

    -- which comes to no more, and after the others
    pub answers_same : ((t : ℕ) → A t → B t) → ((y t : ℕ) → A y → B t → t ≡ s → Earlier (positions y) (positions t))
        → (b : Option Lead) → (Beats b (comes_to score s) → ⊥) → Answers A score b → Answers B score b
    answers_same f l (Some v) n r =
        record {
          right = f v.set r.right;
          sum = r.sum;
          most = most-of v.total r.most (omega arith);
          first = λ t d e. ⊎_elim (λ (q : A t). r.first t q e) (λ (q : t ≡ s). inr (l v.set t r.right d q)) (g t d);
        }
    answers_same f l None n r = absurd (n tt)

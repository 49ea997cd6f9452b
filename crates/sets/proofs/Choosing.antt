-- The computed choice is the best: over any test and any worth.
use Prim.Native.Nat.{ℕ, zero, suc, ◌<◌, ◌≤◌, ◌^◌}
use native.Mathlib.Omega.{arith}
use native.Mathlib.Nat.{le_of_suc-le-suc, eq-or-lt_of_le}
use mathlib.Core.Path.{◌≡◌, refl, sym, subst, ◌∙◌}
use mathlib.Core.Logic.{◌⊎◌, inl, inr, ⊎_elim}
use mathlib.Core.Bool.{Bool, true, false, ◌&&◌, ◌||◌, or-true, true≢false, false≢true}
use mathlib.Core.List.{List, [], ◌∷◌}
use lib.Dec.{ltb, eqb}
use borrow.Author.Tests.{ltb-true, ltb-false, eqb-true, lt-ltb, eq-eqb}
use Rattle.paper.specs.Limits.{most_results}
use Rattle.paper.specs.Lists.{pick}
use Rattle.seek.specs.Sets.{positions, Earlier}
use Rattle.sets.specs.Computed.{earlier, Choice, none, one, better, choose, chosen}
use Rattle.seek.proofs.Order.{trans, either}

-- one of two tests holds, the second being two in one
either_true : (a b c : Bool) {P Q R : Type 0} → (a ≡ true → P) → (b ≡ true → Q) → (c ≡ true → R) → (a || (b && c)) ≡ true → P ⊎ (Q × R)
either_true true b c p q r e = inl (p refl)
either_true false true true p q r e = inr (q refl, r refl)
either_true false true false p q r e = absurd (false≢true e)
either_true false false c p q r e = absurd (false≢true e)

-- dictionary order, computed
earlier-true : (xs ys : List ℕ) → earlier xs ys ≡ true → Earlier xs ys
unfolding earlier Earlier
earlier-true [] [] e = absurd (false≢true e)
earlier-true [] (y ∷ ys) e = tt
earlier-true (x ∷ xs) [] e = absurd (false≢true e)
earlier-true (x ∷ xs) (y ∷ ys) e = either_true (ltb x y) (eqb x y) (earlier xs ys) (ltb-true x y) (eqb-true x y) (earlier-true xs ys) e

true_earlier : (xs ys : List ℕ) → Earlier xs ys → earlier xs ys ≡ true
unfolding earlier Earlier
true_earlier [] [] h = absurd h
true_earlier [] (y ∷ ys) h = refl
true_earlier (x ∷ xs) [] h = absurd h
true_earlier (x ∷ xs) (y ∷ ys) (inl l) = rw (lt-ltb x y l) refl
true_earlier (x ∷ xs) (y ∷ ys) (inr (e, h)) = rw (eq-eqb x y e, true_earlier xs ys h) (or-true (ltb x y))

-- what it is for a set to be better than another, and not to be
module _ (worth : ℕ → ℕ) (best set : ℕ) where
  better-true : better worth best set ≡ true → (worth best < worth set) ⊎ ((worth best ≡ worth set) × Earlier (positions set) (positions best))
  better-true e =
      either_true (ltb (worth best) (worth set)) (eqb (worth best) (worth set)) (earlier (positions set) (positions best)) (ltb-true _ _) (eqb-true _ _) (earlier-true _ _) e

  better-false : better worth best set ≡ false → (worth set ≤ worth best) × (worth set ≡ worth best → Earlier (positions set) (positions best) → ⊥)
  better-false e = (low, λ h k. true≢false (sym (rw (eq-eqb (worth best) (worth set) (sym h), true_earlier (positions set) (positions best) k) (or-true (ltb (worth best) (worth set)))) ∙ e))
    where
      low : worth set ≤ worth best
      low = go (ltb (worth best) (worth set)) (ltb-false _ _) e
        where
          go : (a : Bool) → (a ≡ false → worth set ≤ worth best) → (a || (eqb (worth best) (worth set) && earlier (positions set) (positions best))) ≡ false → worth set ≤ worth best
          go true p e = absurd (true≢false e)
          go false p e = p refl

-- of the sets below n that pass the test, a set that leads: none is worth more, and of those worth as much it is the first
pub record Leads (right : ℕ → Bool) (worth : ℕ → ℕ) (n set : ℕ) : Type 0 where
  pub below : set < n
  pub passes : right set ≡ true
  pub most : (t : ℕ) → t < n → right t ≡ true → worth t ≤ worth set
  pub first : (t : ℕ) → t < n → right t ≡ true → worth t ≡ worth set → (t ≡ set) ⊎ Earlier (positions set) (positions t)

-- the choice is one that leads, or none passes
abbrev pub Led : (ℕ → Bool) → (ℕ → ℕ) → ℕ → Choice → Type 0
Led right worth n none = (t : ℕ) → t < n → right t ≡ true → ⊥
Led right worth n (one set) = Leads right worth n set

module _ (right : ℕ → Bool) (worth : ℕ → ℕ) (n : ℕ) (w : n < 2 ^ most_results) where
  -- what holds of the numbers below n, and of n
  upto : (P : ℕ → Type 0) → ((t : ℕ) → t < n → P t) → P n → (t : ℕ) → t < suc n → P t
  upto P all here t l = ⊎_elim (λ (e : t ≡ n). subst P (sym e) here) (λ (h : t < n). all t h) (eq-or-lt_of_le (le_of_suc-le-suc l))

  -- n leads, or the best so far does
  n-leads : right n ≡ true → ((t : ℕ) → t < n → right t ≡ true → worth t ≤ worth n)
      → ((t : ℕ) → t < n → right t ≡ true → worth t ≡ worth n → Earlier (positions n) (positions t)) → Leads right worth (suc n) n
  n-leads e most first =
      record {
        below = omega arith;
        passes = e;
        most = upto (λ (t : ℕ). right t ≡ true → worth t ≤ worth n) most (λ r. omega arith);
        first = upto (λ (t : ℕ). right t ≡ true → worth t ≡ worth n → (t ≡ n) ⊎ Earlier (positions n) (positions t)) (λ t l r g. inr (first t l r g)) (λ r g. inl refl);
      }

  still_leads : (set : ℕ) → Leads right worth n set → (right n ≡ true → worth n ≤ worth set)
      → (right n ≡ true → worth n ≡ worth set → Earlier (positions set) (positions n)) → Leads right worth (suc n) set
  still_leads set h most first =
      record {
        below = omega (arith, h.below);
        passes = h.passes;
        most = upto (λ (t : ℕ). right t ≡ true → worth t ≤ worth set) h.most most;
        first = upto (λ (t : ℕ). right t ≡ true → worth t ≡ worth set → (t ≡ set) ⊎ Earlier (positions set) (positions t)) h.first (λ r g. inr (first r g));
      }

  -- n does not pass
  passed-by : right n ≡ false → (c : Choice) → Led right worth n c → Led right worth (suc n) c
  passed-by e none h = upto (λ (t : ℕ). right t ≡ true → ⊥) h (λ r. true≢false (sym r ∙ e))
  passed-by e (one set) h = still_leads set h (λ r. absurd (true≢false (sym r ∙ e))) (λ r. absurd (true≢false (sym r ∙ e)))

  -- n passes, and is better than the best so far, or is not
  takes_over : right n ≡ true → (set : ℕ) → Leads right worth n set → better worth set n ≡ true → Leads right worth (suc n) n
  takes_over e set h b = go (better-true worth set n b)
    where
      behind : Earlier (positions n) (positions set) → (t : ℕ) → (t ≡ set) ⊎ Earlier (positions set) (positions t) → Earlier (positions n) (positions t)
      behind k t (inl z) = subst (λ (x : ℕ). Earlier (positions n) (positions x)) (sym z) k
      behind k t (inr z) = trans (positions n) (positions set) (positions t) k z

      go : (worth set < worth n) ⊎ ((worth set ≡ worth n) × Earlier (positions n) (positions set)) → Leads right worth (suc n) n
      go (inl m) = n-leads e (λ t l r. omega (arith, h.most t l r)) (λ t l r g. absurd (omega (arith, h.most t l r)))
      go (inr (q, k)) = n-leads e (λ t l r. omega (arith, h.most t l r)) (λ t l r g. behind k t (h.first t l r (g ∙ sym q)))

  holds_on : (set : ℕ) → Leads right worth n set → better worth set n ≡ false → Leads right worth (suc n) set
  holds_on set h b =
      let f = better-false worth set n b in
      still_leads set h (λ r. f.0)
      (λ r g. ⊎_elim (λ (z : Earlier (positions set) (positions n)). z) (λ (z : Earlier (positions n) (positions set)). absurd (f.1 g z)) (either set n (omega (arith, h.below)) w (λ z. omega (arith, h.below))))

  one_more : right n ≡ true → (c : Choice) → Led right worth n c → Led right worth (suc n) (choose worth c n)
  one_more e none h = n-leads e (λ t l r. absurd (h t l r)) (λ t l r. absurd (h t l r))
  one_more e (one set) h = go (better worth set n) refl
    where
      go : (b : Bool) → better worth set n ≡ b → Leads right worth (suc n) (pick b n set)
      go true z = takes_over e set h z
      go false z = holds_on set h z

  step : (b : Bool) → right n ≡ b → (c : Choice) → Led right worth n c → Led right worth (suc n) (pick b (choose worth c n) c)
  step true e c h = one_more e c h
  step false e c h = passed-by e c h

pub chosen-led : (right : ℕ → Bool) (worth : ℕ → ℕ) (n : ℕ) → n ≤ 2 ^ most_results → Led right worth n (chosen right worth n)
unfolding chosen
chosen-led right worth zero w = λ t l r. absurd (omega arith)
chosen-led right worth (suc n) w = step right worth n w (right n) refl (chosen right worth n) (chosen-led right worth n (omega arith))

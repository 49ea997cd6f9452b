-- A mask of the results of a test, one law for every test: how a loop builds it, and what its bits say.
use Prim.Native.Nat.{ℕ, suc, ◌+◌, ◌*◌, ◌%◌, ◌^◌, ◌<◌}
use native.Mathlib.Nat.{eq-or-lt_of_le}
use native.Mathlib.Numerals.{add-one}
use native.Mathlib.Omega.{arith}
use mathlib.Core.Path.{◌≡◌, refl, sym, ◌∙◌, subst}
use mathlib.Core.Logic.{⊎_elim}
use mathlib.Core.Bool.{Bool, true, false, true≢false}
use lib.Bits.{bit_and, bit_or}
use borrow.Author.Tests.{eq-eqb, ne_eqb}
use Rattle.paper.specs.Limits.{most_results}
use Rattle.paper.specs.Lists.{some}
use Rattle.paper.proofs.Firsts.{none_has, some-not}
use Rattle.seek.specs.Sets.{In, has}
use Rattle.seek.proofs.Digits.{test_in, test_not, in_lt, in_none, in_joined, low_bit, top_bit, all_below}
use Rattle.seek.proofs.Steps.{next}
use Rattle.clashes.specs.InnerMasks.{MaskOf, marked}

module _ (f : ℕ → Bool) where
  -- no result
  pub none : MaskOf f 0 0
  none = record { small = omega arith; sound = λ i p. absurd (in_none i p); whole = λ i l p. absurd (omega arith) }

  join : (n m : ℕ) → n < most_results → MaskOf f n m → f n ≡ true → MaskOf f (n + 1) (bit_or m (1 * 2 ^ n % 65536))
  join n m h a p =
      let l = a.small in
      rw (next n m h l, add-one n) (record {
        small = omega arith;
        sound = λ i q. ⊎_elim (λ (e : i ≡ n). subst (λ (x : ℕ). f x ≡ true) (sym e) p) (a.sound i) (in_joined n m i l q);
        whole = λ i g q.
            ⊎_elim
            (λ (e : suc i ≡ suc n). let d : n ≡ i = omega arith in subst (λ (x : ℕ). In x (1 * 2 ^ n + m)) d (top_bit n 1 m l))
            (λ (e : suc i < suc n). low_bit i n 1 m (omega arith) ∙ a.whole i (omega arith) q)
            (eq-or-lt_of_le g);
      })

  skip : (n m : ℕ) → MaskOf f n m → f n ≡ false → MaskOf f (n + 1) m
  skip n m a p =
      let l = a.small in
      rw (add-one n) (record {
        small = omega arith;
        sound = a.sound;
        whole = λ i g q.
            ⊎_elim
            (λ (e : suc i ≡ suc n). let d : i ≡ n = omega arith in absurd (true≢false (sym (subst (λ (x : ℕ). f x ≡ true) d q) ∙ p)))
            (λ (e : suc i < suc n). a.whole i (omega arith) q)
            (eq-or-lt_of_le g);
      })

  -- result n more
  pub one : (n m : ℕ) → n < most_results → MaskOf f n m → (b : Bool) → f n ≡ b → MaskOf f (n + 1) (marked m n b)
  one n m h a true e = join n m h a e
  one n m h a false e = skip n m a e

-- what the bit of a mask says
pub marked-yes : (mask i : ℕ) → i < most_results → (bit_and mask (1 * 2 ^ i % 65536) ≡ 0 → ⊥) → has mask i ≡ true
marked-yes mask i l n = eq-eqb _ _ (test_in mask i l n)

pub marked-no : (mask i : ℕ) → i < most_results → bit_and mask (1 * 2 ^ i % 65536) ≡ 0 → has mask i ≡ false
marked-no mask i l e = ne_eqb _ _ (test_not mask i l e)

-- a mask of a test has just the results of the test
pub has-test : (f : ℕ → Bool) (n mask : ℕ) → MaskOf f n mask → (i : ℕ) → i < n → has mask i ≡ f i
has-test f n mask h i l = go (f i) refl
  where
    go : (b : Bool) → f i ≡ b → has mask i ≡ b
    go true e = eq-eqb _ _ (h.whole i l e)
    go false e = ne_eqb _ _ (λ p. true≢false (sym (h.sound i p) ∙ e))

-- a mask of a test is 0 where none has the test
module _ (f : ℕ → Bool) (n mask : ℕ) (h : MaskOf f n mask) where
  pub mask_none : mask ≡ 0 → some n f ≡ false
  mask_none e = none_has n f (λ i l. go (f i) refl l)
    where
      go : {i : ℕ} (b : Bool) → f i ≡ b → i < n → b ≡ false
      go {i} true p l = absurd (in_none i (subst (In i) e (h.whole i l p)))
      go false p l = refl

  pub mask_some : (mask ≡ 0 → ⊥) → some n f ≡ true
  mask_some m = go (some n f) refl
    where
      go : (b : Bool) → some n f ≡ b → b ≡ true
      go true e = refl
      go false e =
          absurd (m (let z = all_below n 0 mask h.small (λ i p. absurd (true≢false (sym (h.sound i p) ∙ some-not n f e i (in_lt n mask i h.small p)))) in omega arith))

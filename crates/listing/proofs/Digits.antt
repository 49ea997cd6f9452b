-- The digits of a number: one, or those of its tenth and the last.
use Prim.Native.Nat.{ℕ, zero, suc, ◌-◌, ◌+◌, ◌*◌, ◌/◌, ◌%◌, ◌^◌, ◌≤◌, ◌<◌}
use native.Mathlib.Omega.{arith}
use native.Mathlib.Decide.{dec_lt}
use native.Mathlib.Nat.{pow-suc}
use native.Mathlib.Numerals.{sub-one}
use mathlib.Core.Path.{◌≡◌, refl, sym, ap, ◌∙◌}
use mathlib.Core.List.{List, [], ◌∷◌, ◌++◌}
use lib.ListN.{length, length-append}
use Rattle.std.specs.Fmt.{decimal}
use Rattle.std.proofs.lemmas.Fmt.{decimal_digit, decimal_step}
use borrow.Author.Tests.{lt-ltb, le-ltb}
use Rattle.listing.specs.Text.{zero_digit, digit, digits_in, digits}

-- what holds of the numbers below ten, and of a number if of its tenth, holds of all
module _ (P : ℕ → Type 0) (one : (n : ℕ) → n < 10 → P n) (more : (n : ℕ) → 10 ≤ n → P (n / 10) → P n) where
  either : (n : ℕ) → (10 ≤ n → P (n / 10)) → Dec (n < 10) → P n
  either n f (yes h) = one n h
  either n f (no h) = more n (omega arith) (f (omega arith))

  up_to : (k n : ℕ) → n ≤ k → P n
  up_to zero n l = one n (omega arith)
  up_to (suc k) n l = either n (λ h. up_to k (n / 10) (omega arith)) (dec_lt n 10)

  pub by_tenths : (n : ℕ) → P n
  by_tenths n = up_to n n (omega arith)

one_in : (k n : ℕ) → n < 10 → digits_in k n ≡ digit n ∷ []
unfolding digits_in
one_in zero n h = refl
one_in (suc k) n h = rw (lt-ltb n 10 h, digits_in) refl

more_in : (k n : ℕ) → 10 ≤ n → n ≤ k → digits_in k n ≡ digits_in (k - 1) (n / 10) ++ (digit n ∷ [])
unfolding digits_in
more_in zero n h l = absurd (omega arith)
more_in (suc k) n h l = rw (le-ltb n 10 h, digits_in, sub-one (suc k)) refl

-- any bound that is as large as the number will do
enough : (n j k : ℕ) → n ≤ j → n ≤ k → digits_in j n ≡ digits_in k n
enough =
    by_tenths (λ n. (j k : ℕ) → n ≤ j → n ≤ k → digits_in j n ≡ digits_in k n)
    (λ n h j k a b. one_in j n h ∙ sym (one_in k n h))
    (λ n h f j k a b. more_in j n h a ∙ ap (λ (l : List ℕ). l ++ (digit n ∷ [])) (f (j - 1) (k - 1) (omega arith) (omega arith)) ∙ sym (more_in k n h b))

pub one-digit : (n : ℕ) → n < 10 → digits n ≡ digit n ∷ []
unfolding digits
one-digit n h = one_in n n h

pub more_digits : (n : ℕ) → 10 ≤ n → digits n ≡ digits (n / 10) ++ (digit n ∷ [])
unfolding digits
more_digits n h = more_in n n h (omega arith) ∙ ap (λ (l : List ℕ). l ++ (digit n ∷ [])) (enough (n / 10) (n - 1) (n / 10) (omega arith) (omega arith))

-- a number's last digit, as a number, has that digit alone
pub last-digit : (n : ℕ) → digits (n % 10) ≡ digit n ∷ []
last-digit n =
    let e : n % 10 % 10 ≡ n % 10 = omega arith in
    one-digit (n % 10) (omega arith) ∙ ap (λ (k : ℕ). (zero_digit + k) ∷ []) e

-- the digits are what the library prints
pub printed : (n : ℕ) → n < 18446744073709551616 → decimal n ≡ digits n
printed =
    by_tenths (λ n. n < 18446744073709551616 → decimal n ≡ digits n)
    (λ n h l. let e : n ≡ n % 10 = omega arith in decimal_digit n h ∙ ap (λ (k : ℕ). (zero_digit + k) ∷ []) e ∙ sym (one-digit n h))
    (λ n h f l. decimal_step n h l ∙ ap (λ (t : List ℕ). t ++ (digit n ∷ [])) (f (omega arith)) ∙ sym (more_digits n h))

-- a number below a power of ten has no more digits than the power
pub few-digits : (n k : ℕ) → n < 10 ^ suc k → length (digits n) ≤ suc k
few-digits =
    by_tenths (λ n. (k : ℕ) → n < 10 ^ suc k → length (digits n) ≤ suc k)
    (λ n h k l. rw (one-digit n h) (omega arith))
    fewer
  where
    fewer : (n : ℕ) → 10 ≤ n → ((k : ℕ) → n / 10 < 10 ^ suc k → length (digits (n / 10)) ≤ suc k) → (k : ℕ) → n < 10 ^ suc k → length (digits n) ≤ suc k
    fewer n h f zero l = absurd (omega arith)
    fewer n h f (suc k) l =
        let m : n < 10 ^ suc k * 10 = rw (pow-suc 10 (suc k)) at l in
        rw (more_digits n h) (simp length-append (omega (arith, f k (omega arith))))

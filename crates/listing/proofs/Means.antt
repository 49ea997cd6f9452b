-- The digits of a number are the number in decimal.
use Prim.Native.Nat.{ℕ, ◌+◌, ◌-◌, ◌*◌, ◌/◌, ◌<◌, ◌≤◌}
use native.Mathlib.Omega.{arith}
use native.Mathlib.Decide.{dec_lt}
use mathlib.Core.Path.{◌≡◌, refl, ◌∙◌}
use mathlib.Core.List.{List, [], ◌∷◌, ◌++◌}
use lib.ListN.{length, get_or, length-append, get_or-append}
use lib.Seq.{get_or-append_seam}
use Rattle.listing.specs.Text.{zero_digit, digit, digits}
use Rattle.listing.specs.Meaning.{read_on, Digit, Decimal}
use Rattle.listing.proofs.Digits.{by_tenths, one-digit, more_digits}

read-last : (n : ℕ) (text : List ℕ) (byte : ℕ) → read_on n (text ++ (byte ∷ [])) ≡ read_on n text * 10 + (byte - zero_digit)
read-last n [] byte = refl
read-last n (x ∷ text) byte = read-last (n * 10 + (x - zero_digit)) text byte

each_more : (text : List ℕ) (byte : ℕ) → ((i : ℕ) → i < length text → Digit (get_or text i 0)) → Digit byte → (i : ℕ) → i < length (text ++ (byte ∷ [])) → Digit (get_or (text ++ (byte ∷ [])) i 0)
each_more text byte f h i l = go (dec_lt i (length text))
  where
    go : Dec (i < length text) → Digit (get_or (text ++ (byte ∷ [])) i 0)
    go (yes m) = rw (get_or-append text (byte ∷ []) 0 i m) (f i m)
    go (no m) =
        let e : i ≡ length text = omega (arith, simp length-append at l) in
        rw (e, get_or-append_seam text byte [] 0) h

one : (n : ℕ) → n < 10 → Decimal n (digit n ∷ [])
one n h = record { each = each_more [] (digit n) (λ i l. absurd (omega arith)) (omega arith, omega arith); value = omega arith; some = omega arith; lead = λ p. omega arith; alone = λ p. refl }

more : (n : ℕ) (text : List ℕ) → 10 ≤ n → Decimal (n / 10) text → Decimal n (text ++ (digit n ∷ []))
more n text h d =
    record {
      each = each_more text (digit n) d.each (omega arith, omega arith);
      value = read-last 0 text (digit n) ∙ rw d.value (omega arith);
      some = simp length-append (omega arith);
      lead = λ p. rw (get_or-append text (digit n ∷ []) 0 0 d.some) (d.lead (omega arith));
      alone = λ p. absurd (omega arith);
    }

pub decimal : (n : ℕ) → Decimal n (digits n)
decimal = by_tenths (λ n. Decimal n (digits n)) (λ n h. rw (one-digit n h) (one n h)) (λ n h d. rw (more_digits n h) (more n (digits (n / 10)) h d))

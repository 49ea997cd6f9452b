-- No line is longer than 64 bytes: numbers of 32 bits have at most 10 digits, those of 64 at most 20.
use Prim.Native.Nat.{ℕ, ◌*◌, ◌/◌, ◌≤◌, ◌<◌}
use native.Mathlib.Omega.{arith}
use native.Mathlib.Decide.{dec_lt}
use lib.ListN.{length, length-append}
use borrow.Author.Tests.{lt-ltb, le-ltb}
use Rattle.paper.specs.Limits.{band_step}
use Rattle.paper.specs.Units.{hundredths, thousandths}
use Rattle.listing.specs.Text.{digits, decimals2, decimals3, low_band, atar}
use Rattle.listing.specs.Lines.{cohort_line, student_line, refused_line, file_line, line_bytes}
use Rattle.listing.specs.Inner.{ending_bytes}
use Rattle.listing.proofs.Digits.{few-digits}

module _ (n : ℕ) (h : n < 4294967296) where
  digits-32 : length (digits n) ≤ 10
  digits-32 = few-digits n 9 (omega arith)

  decimals_2 : length (decimals2 n) ≤ 11
  decimals_2 = simp length-append (omega (arith, few-digits (n / hundredths) 7 (omega arith)))

  decimals_3 : length (decimals3 n) ≤ 11
  decimals_3 = simp length-append (omega (arith, few-digits (n / thousandths) 6 (omega arith)))

atar-16 : (k : ℕ) → k < 65536 → length (atar k) ≤ 13
unfolding atar
atar-16 k h = go (dec_lt low_band k)
  where
    go : Dec (low_band < k) → length (atar k) ≤ 13
    go (yes l) = rw (lt-ltb low_band k l, atar) (simp length-append (omega (arith, few-digits (band_step * k / hundredths) 3 (omega arith))))
    go (no l) = rw (le-ltb low_band k (omega arith), atar) (omega arith)

pub cohort-fits : (students eligible remainder : ℕ) → students < 4294967296 → eligible < 4294967296 → remainder < 4294967296 → length (cohort_line students eligible remainder) ≤ line_bytes
cohort-fits s e r a b c = simp length-append (omega (arith, digits-32 s a, digits-32 e b, digits-32 r c))

pub student-fits : (id aggregate rank percentile band : ℕ) → id < 4294967296 → aggregate < 4294967296 → rank < 4294967296 → percentile < 4294967296 → band < 65536
    → length (student_line id aggregate rank percentile band) ≤ line_bytes
student-fits i t r p k a b c d e = simp length-append (omega (arith, digits-32 i a, simp length-append at (decimals_2 t b), digits-32 r c, simp length-append at (decimals_3 p d), atar-16 k e))

pub file-fits : (number place : ℕ) → number < 256 → place < 18446744073709551616 → length (file_line number place) ≤ ending_bytes
file-fits n p a b = simp length-append (omega (arith, few-digits n 2 (omega arith), few-digits p 19 (omega arith)))

pub refused-fits : (id number place : ℕ) → id < 4294967296 → length (file_line number place) ≤ ending_bytes → length (refused_line id number place) ≤ line_bytes
refused-fits i n p a b = simp length-append (omega (arith, digits-32 i a, simp length-append at b))

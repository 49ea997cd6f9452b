-- Numbers and ATARs as text, in ASCII.
use Rattle.std.specs.Prelude.{ℕ, zero, suc, ◌+◌, ◌*◌, ◌/◌, ◌%◌, true, false, List, [], ◌∷◌, ◌++◌}
use Rattle.paper.specs.Limits.{band_step}
use Rattle.paper.specs.Units.{hundredths, thousandths}
use Rattle.paper.specs.Words.{◌<?◌, when◌then◌else◌}

abbrev pub line_feed : ℕ
line_feed = 10

abbrev pub space : ℕ
space = 32

abbrev pub point : ℕ
point = 46

abbrev pub zero_digit : ℕ
zero_digit = 48

-- the last digit of n
abbrev pub digit : ℕ → ℕ
digit n = zero_digit + n % 10

-- n in decimal, with no leading zeros: the digits of n/10, where n has more than one, and the last. k bounds how many there are before the last.
-- By cases on the test, so that only the case that is met is computed, and not as many steps as n is great
unfoldable pub digits_in : ℕ → ℕ → List ℕ
digits_in zero n = digit n ∷ []
digits_in (suc k) n = elim (n <? 10) [ true ↦ digit n ∷ [] | false ↦ digits_in k (n / 10) ++ (digit n ∷ []) ]

unfoldable pub digits : ℕ → List ℕ
digits n = digits_in n n

-- n hundredths, with two decimals
abbrev pub decimals2 : ℕ → List ℕ
decimals2 n = digits (n / hundredths) ++ (point ∷ digit (n / 10) ∷ digit n ∷ [])

-- n thousandths, with three decimals
abbrev pub decimals3 : ℕ → List ℕ
decimals3 n = digits (n / thousandths) ++ (point ∷ digit (n / 100) ∷ digit (n / 10) ∷ digit n ∷ [])

-- 30.00 or less
abbrev pub low : List ℕ
low = 51 ∷ 48 ∷ 46 ∷ 48 ∷ 48 ∷ 32 ∷ 111 ∷ 114 ∷ 32 ∷ 108 ∷ 101 ∷ 115 ∷ 115 ∷ []

-- the highest band whose ATAR is not told as a number
abbrev pub low_band : ℕ
low_band = 600

-- the ATAR of band k, which is 0.05k; up to 600 it is 30.00 or less
unfoldable pub atar : ℕ → List ℕ
atar k = when low_band <? k then decimals2 (band_step * k) else low

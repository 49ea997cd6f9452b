-- Numbers, decimals, ATARs and lines: each boundary, and what stands between parts.
use mathlib.Core.Path.{◌≡◌, refl}
use mathlib.Core.List.{[], ◌∷◌}
use Rattle.listing.specs.Text.{digits_in, digits, decimals2, decimals3, atar, low}
use Rattle.listing.specs.Lines.{ended, cohort_line, student_line, refused_line, file_line}

-- no leading zeros, and none lost: 9, 99, 100, 101, 1000
pub numbers : (digits 9 ≡ 57 ∷ []) × (digits 99 ≡ 57 ∷ 57 ∷ []) × (digits 100 ≡ 49 ∷ 48 ∷ 48 ∷ []) × (digits 101 ≡ 49 ∷ 48 ∷ 49 ∷ []) × (digits 1000 ≡ 49 ∷ 48 ∷ 48 ∷ 48 ∷ [])
unfolding digits_in digits
numbers = (refl, refl, refl, refl, refl)

-- the ten digits
pub ten-digits : (digits 1234567890 ≡ 49 ∷ 50 ∷ 51 ∷ 52 ∷ 53 ∷ 54 ∷ 55 ∷ 56 ∷ 57 ∷ 48 ∷ [])
unfolding digits_in digits
ten-digits = refl

-- aggregate and ATAR have two decimals: 0.99, 1.00, 10.05, 9.50, 499.99
pub two-decimals : (decimals2 99 ≡ 48 ∷ 46 ∷ 57 ∷ 57 ∷ []) × (decimals2 100 ≡ 49 ∷ 46 ∷ 48 ∷ 48 ∷ []) × (decimals2 1005 ≡ 49 ∷ 48 ∷ 46 ∷ 48 ∷ 53 ∷ [])
    × (decimals2 950 ≡ 57 ∷ 46 ∷ 53 ∷ 48 ∷ []) × (decimals2 49999 ≡ 52 ∷ 57 ∷ 57 ∷ 46 ∷ 57 ∷ 57 ∷ [])
unfolding digits_in digits
two-decimals = (refl, refl, refl, refl, refl)

-- percentile three: 0.999, 1.000, 10.050, 33.333, 99.999, 100.000
pub three-decimals : (decimals3 999 ≡ 48 ∷ 46 ∷ 57 ∷ 57 ∷ 57 ∷ []) × (decimals3 1000 ≡ 49 ∷ 46 ∷ 48 ∷ 48 ∷ 48 ∷ []) × (decimals3 10050 ≡ 49 ∷ 48 ∷ 46 ∷ 48 ∷ 53 ∷ 48 ∷ [])
    × (decimals3 33333 ≡ 51 ∷ 51 ∷ 46 ∷ 51 ∷ 51 ∷ 51 ∷ []) × (decimals3 99999 ≡ 57 ∷ 57 ∷ 46 ∷ 57 ∷ 57 ∷ 57 ∷ []) × (decimals3 100000 ≡ 49 ∷ 48 ∷ 48 ∷ 46 ∷ 48 ∷ 48 ∷ 48 ∷ [])
unfolding digits_in digits
three-decimals = (refl, refl, refl, refl, refl, refl)

-- ATAR 0.05k, at k up to 600 low: 1 and 599; 602 is 30.10, 1000 is 50.00, 1998 is 99.90
pub atars : (atar 1 ≡ low) × (atar 599 ≡ low) × (atar 602 ≡ 51 ∷ 48 ∷ 46 ∷ 49 ∷ 48 ∷ []) × (atar 1000 ≡ 53 ∷ 48 ∷ 46 ∷ 48 ∷ 48 ∷ []) × (atar 1998 ≡ 57 ∷ 57 ∷ 46 ∷ 57 ∷ 48 ∷ [])
unfolding digits_in digits atar
atars = (refl, refl, refl, refl, refl)

-- parts of a line have one space between them, and a line feed after the last: one part, two, three
pub parts : (ended ((65 ∷ []) ∷ []) ≡ 65 ∷ 10 ∷ []) × (ended ((65 ∷ 66 ∷ []) ∷ (67 ∷ []) ∷ []) ≡ 65 ∷ 66 ∷ 32 ∷ 67 ∷ 10 ∷ []) × (ended ((65 ∷ []) ∷ (66 ∷ []) ∷ (67 ∷ []) ∷ []) ≡ 65 ∷ 32 ∷ 66 ∷ 32 ∷ 67 ∷ 10 ∷ [])
parts = (refl, refl, refl)

-- cohort 0 eligible 0 remainder 0; cohort 512 eligible 34 remainder 5
pub cohorts : (cohort_line 0 0 0 ≡ 99 ∷ 111 ∷ 104 ∷ 111 ∷ 114 ∷ 116 ∷ 32 ∷ 48 ∷ 32 ∷ 101 ∷ 108 ∷ 105 ∷ 103 ∷ 105 ∷ 98 ∷ 108 ∷ 101 ∷ 32 ∷ 48 ∷ 32 ∷ 114 ∷ 101 ∷ 109 ∷ 97 ∷ 105 ∷ 110 ∷ 100 ∷ 101 ∷ 114 ∷ 32 ∷ 48 ∷ 10 ∷ [])
    × (cohort_line 512 34 5 ≡ 99 ∷ 111 ∷ 104 ∷ 111 ∷ 114 ∷ 116 ∷ 32 ∷ 53 ∷ 49 ∷ 50 ∷ 32 ∷ 101 ∷ 108 ∷ 105 ∷ 103 ∷ 105 ∷ 98 ∷ 108 ∷ 101 ∷ 32 ∷ 51 ∷ 52 ∷ 32 ∷ 114 ∷ 101 ∷ 109 ∷ 97 ∷ 105 ∷ 110 ∷ 100 ∷ 101 ∷ 114 ∷ 32 ∷ 53 ∷ 10 ∷ [])
unfolding digits_in digits
cohorts = (refl, refl)

-- a low line: 0 0.05 1 33.333 30.00 or less
pub low-line : student_line 0 5 1 33333 600 ≡ 48 ∷ 32 ∷ 48 ∷ 46 ∷ 48 ∷ 53 ∷ 32 ∷ 49 ∷ 32 ∷ 51 ∷ 51 ∷ 46 ∷ 51 ∷ 51 ∷ 51 ∷ 32 ∷ 51 ∷ 48 ∷ 46 ∷ 48 ∷ 48 ∷ 32 ∷ 111 ∷ 114 ∷ 32 ∷ 108 ∷ 101 ∷ 115 ∷ 115 ∷ 10 ∷ []
unfolding digits_in digits atar
low-line = refl

-- 4294967295 refused 6 15; refused 14 7
pub refusals : (refused_line 4294967295 6 15 ≡ 52 ∷ 50 ∷ 57 ∷ 52 ∷ 57 ∷ 54 ∷ 55 ∷ 50 ∷ 57 ∷ 53 ∷ 32 ∷ 114 ∷ 101 ∷ 102 ∷ 117 ∷ 115 ∷ 101 ∷ 100 ∷ 32 ∷ 54 ∷ 32 ∷ 49 ∷ 53 ∷ 10 ∷ [])
    × (file_line 14 7 ≡ 114 ∷ 101 ∷ 102 ∷ 117 ∷ 115 ∷ 101 ∷ 100 ∷ 32 ∷ 49 ∷ 52 ∷ 32 ∷ 55 ∷ 10 ∷ [])
unfolding digits_in digits
refusals = (refl, refl)

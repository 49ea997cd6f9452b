-- The texts of the paper's example and others, computed.
use mathlib.Core.Path.{◌≡◌, refl}
use mathlib.Core.List.{[], ◌∷◌}
use Rattle.listing.specs.Text.{digits_in, digits, decimals2, decimals3, atar, low}
use Rattle.listing.specs.Lines.{cohort_line, student_line, refused_line, file_line}

-- the example's listing; the line of student 11 differs from that of 8 in the id
pub example : (cohort_line 4 3 0 ≡ 99 ∷ 111 ∷ 104 ∷ 111 ∷ 114 ∷ 116 ∷ 32 ∷ 52 ∷ 32 ∷ 101 ∷ 108 ∷ 105 ∷ 103 ∷ 105 ∷ 98 ∷ 108 ∷ 101 ∷ 32 ∷ 51 ∷ 32 ∷ 114 ∷ 101 ∷ 109 ∷ 97 ∷ 105 ∷ 110 ∷ 100 ∷ 101 ∷ 114 ∷ 32 ∷ 48 ∷ 10 ∷ [])
    × (student_line 7 36000 3 100000 1949 ≡ 55 ∷ 32 ∷ 51 ∷ 54 ∷ 48 ∷ 46 ∷ 48 ∷ 48 ∷ 32 ∷ 51 ∷ 32 ∷ 49 ∷ 48 ∷ 48 ∷ 46 ∷ 48 ∷ 48 ∷ 48 ∷ 32 ∷ 57 ∷ 55 ∷ 46 ∷ 52 ∷ 53 ∷ 10 ∷ [])
    × (student_line 8 35500 2 66667 1849 ≡ 56 ∷ 32 ∷ 51 ∷ 53 ∷ 53 ∷ 46 ∷ 48 ∷ 48 ∷ 32 ∷ 50 ∷ 32 ∷ 54 ∷ 54 ∷ 46 ∷ 54 ∷ 54 ∷ 55 ∷ 32 ∷ 57 ∷ 50 ∷ 46 ∷ 52 ∷ 53 ∷ 10 ∷ [])
    × (refused_line 9 8 0 ≡ 57 ∷ 32 ∷ 114 ∷ 101 ∷ 102 ∷ 117 ∷ 115 ∷ 101 ∷ 100 ∷ 32 ∷ 56 ∷ 32 ∷ 48 ∷ 10 ∷ [])
    × (student_line 11 35500 2 66667 1849 ≡ 49 ∷ 49 ∷ 32 ∷ 51 ∷ 53 ∷ 53 ∷ 46 ∷ 48 ∷ 48 ∷ 32 ∷ 50 ∷ 32 ∷ 54 ∷ 54 ∷ 46 ∷ 54 ∷ 54 ∷ 55 ∷ 32 ∷ 57 ∷ 50 ∷ 46 ∷ 52 ∷ 53 ∷ 10 ∷ [])
unfolding digits_in digits atar
example = (refl, refl, refl, refl, refl)

-- a refused file: 2 at 65536
pub file : file_line 2 65536 ≡ 114 ∷ 101 ∷ 102 ∷ 117 ∷ 115 ∷ 101 ∷ 100 ∷ 32 ∷ 50 ∷ 32 ∷ 54 ∷ 53 ∷ 53 ∷ 51 ∷ 54 ∷ 10 ∷ []
unfolding digits_in digits
file = refl

-- 0, 10, 4294967295
pub numbers : (digits 0 ≡ 48 ∷ []) × (digits 10 ≡ 49 ∷ 48 ∷ []) × (digits 4294967295 ≡ 52 ∷ 50 ∷ 57 ∷ 52 ∷ 57 ∷ 54 ∷ 55 ∷ 50 ∷ 57 ∷ 53 ∷ [])
unfolding digits_in digits
numbers = (refl, refl, refl)

-- 0.00, 0.05, 500.00; 0.004, 99.996
pub decimals : (decimals2 0 ≡ 48 ∷ 46 ∷ 48 ∷ 48 ∷ []) × (decimals2 5 ≡ 48 ∷ 46 ∷ 48 ∷ 53 ∷ []) × (decimals2 50000 ≡ 53 ∷ 48 ∷ 48 ∷ 46 ∷ 48 ∷ 48 ∷ []) × (decimals3 4 ≡ 48 ∷ 46 ∷ 48 ∷ 48 ∷ 52 ∷ []) × (decimals3 99996 ≡ 57 ∷ 57 ∷ 46 ∷ 57 ∷ 57 ∷ 54 ∷ [])
unfolding digits_in digits
decimals = (refl, refl, refl, refl, refl)

-- bands 0 and 600 are low; 601 is 30.05, 1999 is 99.95
pub atars : (atar 0 ≡ low) × (atar 600 ≡ low) × (low ≡ 51 ∷ 48 ∷ 46 ∷ 48 ∷ 48 ∷ 32 ∷ 111 ∷ 114 ∷ 32 ∷ 108 ∷ 101 ∷ 115 ∷ 115 ∷ []) × (atar 601 ≡ 51 ∷ 48 ∷ 46 ∷ 48 ∷ 53 ∷ []) × (atar 1999 ≡ 57 ∷ 57 ∷ 46 ∷ 57 ∷ 53 ∷ [])
unfolding digits_in digits atar
atars = (refl, refl, refl, refl, refl)

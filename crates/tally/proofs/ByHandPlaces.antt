-- The places and the band of a C: fits and does not, a table that rises or not, the highest band and the lowest.
use Prim.Native.Nat.{ℕ}
use mathlib.Core.Path.{◌≡◌, refl}
use mathlib.Core.List.{List, [], ◌∷◌}
use lib.ListN.{set, take}
use Rattle.paper.specs.Limits.{tally_count}
use Rattle.paper.specs.Lists.{sum, count, sum_of, listed}
use Rattle.tally.specs.Counts.{at_least, number_at, tally_of}
use Rattle.tally.specs.Places.{F, one_place, places, band_up_to, band_of}
use Rattle.tally.specs.Examples.{full}

-- C is the number with an aggregate at least one's own: one less, one's own, one more
pub C-counted : (at_least (3 ∷ 5 ∷ 5 ∷ 8 ∷ []) 4 ≡ 3) × (at_least (3 ∷ 5 ∷ 5 ∷ 8 ∷ []) 5 ≡ 3) × (at_least (3 ∷ 5 ∷ 5 ∷ 8 ∷ []) 6 ≡ 1) × (at_least (3 ∷ 5 ∷ 5 ∷ 8 ∷ []) 9 ≡ 0)
unfolding sum count
C-counted = (refl, refl, refl, refl)

-- F(k), the sum of table entries k to 1999
pub F-summed : (F (1 ∷ 20 ∷ 300 ∷ []) 0 ≡ 321) × (F (1 ∷ 20 ∷ 300 ∷ []) 1 ≡ 320) × (F (1 ∷ 20 ∷ 300 ∷ []) 2 ≡ 300) × (F full 1999 ≡ 1000000) × (F full 2000 ≡ 0) × (F full 0 ≡ 2000000000)
unfolding sum_of full
F-summed = (refl, refl, refl, refl, refl, refl)

-- the places at band k and higher are Y·F(k)/2000000000, unrounded
pub places-unrounded : (one_place ≡ 2000000000) × (places (1 ∷ 20 ∷ 300 ∷ []) 7 1 ≡ 2240) × (places (1 ∷ 20 ∷ 300 ∷ []) 1000000 2 ≡ 300000000)
unfolding sum_of places
places-unrounded = (refl, refl, refl)

-- four bands with a place each at Y=2000, and none from band 4 on; with half a place each
abbrev four : List ℕ
four = 1000000 ∷ 1000000 ∷ 1000000 ∷ 1000000 ∷ []

abbrev halves : List ℕ
halves = 500000 ∷ 500000 ∷ 500000 ∷ 500000 ∷ []

-- the highest band that C fits; 4 fit band 0, 5 do not, and there is no lower one
pub highest_bands : (band_of four 2000 1 ≡ 3) × (band_of four 2000 2 ≡ 2) × (band_of four 2000 3 ≡ 1) × (band_of four 2000 4 ≡ 0) × (band_of four 2000 5 ≡ 0)
unfolding band_up_to places sum_of
highest_bands = (refl, refl, refl, refl, refl)

-- band 1999, and the one below it
pub top_bands : (band_of full 2000 1 ≡ 1999) × (band_of full 2000 2 ≡ 1998) × (band_of full 1000000 500 ≡ 1999) × (band_of full 1000000 501 ≡ 1998)
unfolding band_up_to places sum_of full
top_bands = (refl, refl, refl, refl)

-- C fits if 2000000000·C is at most Y·F(k): exactly, and by one too many; Y one less
pub by_one : (band_of (set full 1999 999999) 1000 1 ≡ 1997) × (band_of (set full 1999 999999) 2000 1 ≡ 1998) × (band_of full 999 1 ≡ 1997) × (band_of full 1999 1 ≡ 1998)
    × (band_of (0 ∷ 0 ∷ 0 ∷ 2000 ∷ []) 1000000 1 ≡ 3) × (band_of (0 ∷ 0 ∷ 0 ∷ 1999 ∷ []) 1000000 1 ≡ 0)
unfolding band_up_to places sum_of full
by_one = (refl, refl, refl, refl, refl, refl)

-- half places add up before they are tested: half a place at band 3, one at 2, one and a half at 1, two at 0
pub halves-added : (band_of halves 2000 1 ≡ 2) × (band_of halves 2000 2 ≡ 0)
unfolding band_up_to places sum_of
halves-added = (refl, refl)

-- the table needn't rise: it falls; it is empty between two bands
pub not_rising : (band_of (1000000 ∷ 900000 ∷ 600000 ∷ 500000 ∷ []) 2000 1 ≡ 2) × (band_of (1000000 ∷ 900000 ∷ 600000 ∷ 500000 ∷ []) 2000 2 ≡ 1)
    × (band_of (0 ∷ 1000000 ∷ 0 ∷ 0 ∷ 1000000 ∷ []) 2000 1 ≡ 4) × (band_of (0 ∷ 1000000 ∷ 0 ∷ 0 ∷ 1000000 ∷ []) 2000 2 ≡ 1) × (band_of (0 ∷ 1000000 ∷ 0 ∷ 0 ∷ 1000000 ∷ []) 2000 3 ≡ 0)
unfolding band_up_to places sum_of
not_rising = (refl, refl, refl, refl, refl)

-- a buffer of 50001 counts, with in entry t the number of students with aggregate t: the first three, the last, and the one before it
pub tallied : (tally_count ≡ 50001) × (take 3 (tally_of (0 ∷ 2 ∷ 50000 ∷ 2 ∷ [])) ≡ 1 ∷ 0 ∷ 2 ∷ []) × (number_at (0 ∷ 2 ∷ 50000 ∷ 2 ∷ []) 50000 ≡ 1) × (number_at (0 ∷ 2 ∷ 50000 ∷ 2 ∷ []) 49999 ≡ 0)
unfolding sum count listed number_at tally_of
tallied = (refl, refl, refl, refl)

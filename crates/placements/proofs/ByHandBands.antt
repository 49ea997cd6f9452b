-- Placements worked by hand: ties, band 0 and the remainder, a table that does not rise, nobody.
use Prim.Native.Nat.{ℕ}
use mathlib.Core.Path.{◌≡◌, refl}
use mathlib.Core.List.{List, [], ◌∷◌}
use Rattle.paper.specs.Lists.{sum, count, sum_of, listed}
use Rattle.tally.specs.Places.{places, band_up_to}
use Rattle.tally.specs.Examples.{full}
use Rattle.placements.specs.Placing.{remainder}
use Rattle.placements.specs.Bands.{bands_of}

-- at Y=2000: a place in each of four bands, and none from band 4 on; a place at band 3 and one at band 0
abbrev four : List ℕ
four = 1000000 ∷ 1000000 ∷ 1000000 ∷ 1000000 ∷ []

abbrev two : List ℕ
two = 1000000 ∷ 0 ∷ 0 ∷ 1000000 ∷ []

-- a student stands in the highest band that C fits, or in band 0 if none does: C is 1, 3, 3, 4 and 5, in whatever order they are listed
pub standing : (bands_of (500 ∷ 400 ∷ 400 ∷ 300 ∷ 200 ∷ []) four 2000 ≡ 3 ∷ 1 ∷ 1 ∷ 0 ∷ 0 ∷ []) × (bands_of (200 ∷ 400 ∷ 500 ∷ 300 ∷ 400 ∷ []) four 2000 ≡ 0 ∷ 1 ∷ 3 ∷ 0 ∷ 1 ∷ [])
unfolding bands_of listed band_up_to places count sum sum_of
standing = (refl, refl)

-- tied students: not split by list order, nor given the band of the first of them; two on top, three below one, all
pub tied : (bands_of (400 ∷ 400 ∷ []) four 2000 ≡ 2 ∷ 2 ∷ []) × (bands_of (300 ∷ 400 ∷ 300 ∷ 300 ∷ []) four 2000 ≡ 0 ∷ 3 ∷ 0 ∷ 0 ∷ []) × (bands_of (0 ∷ 0 ∷ 0 ∷ []) four 2000 ≡ 1 ∷ 1 ∷ 1 ∷ [])
unfolding bands_of listed band_up_to places count sum sum_of
tied = (refl, refl, refl)

-- the remainder is the number of students for whom C doesn't fit band 0 either: 4 fit it, the 5th does not, nor do two tied in his place
pub left_over_lem : (remainder (500 ∷ 400 ∷ 400 ∷ 300 ∷ []) four 2000 ≡ 0) × (remainder (500 ∷ 400 ∷ 400 ∷ 300 ∷ 200 ∷ []) four 2000 ≡ 1) × (remainder (200 ∷ 500 ∷ 400 ∷ 400 ∷ 200 ∷ []) four 2000 ≡ 2)
    × (remainder (500 ∷ 400 ∷ 400 ∷ 300 ∷ []) four 1999 ≡ 1)
unfolding remainder places count sum sum_of
left_over_lem = (refl, refl, refl, refl)

-- the table needn't rise: one stands in band 3, two in band 0, and the third is left over there
pub not_rising : (bands_of (500 ∷ 400 ∷ 300 ∷ []) two 2000 ≡ 3 ∷ 0 ∷ 0 ∷ []) × (remainder (500 ∷ 400 ∷ []) two 2000 ≡ 0) × (remainder (500 ∷ 400 ∷ 300 ∷ []) two 2000 ≡ 1)
unfolding bands_of remainder listed band_up_to places count sum sum_of
not_rising = (refl, refl, refl)

-- a table of zeros: all in band 0, and all left over
pub no_places : (bands_of (500 ∷ 400 ∷ []) (0 ∷ 0 ∷ []) 2000 ≡ 0 ∷ 0 ∷ []) × (remainder (500 ∷ 400 ∷ []) (0 ∷ 0 ∷ []) 2000 ≡ 2)
unfolding bands_of remainder listed band_up_to places count sum sum_of
no_places = (refl, refl)

-- band 1999 at the ends of the aggregates; empty cohorts, with remainder 0
pub ends : (bands_of (50000 ∷ []) full 2000 ≡ 1999 ∷ []) × (bands_of (0 ∷ []) full 2000 ≡ 1999 ∷ []) × (bands_of [] full 1 ≡ []) × (remainder [] full 1 ≡ 0)
unfolding bands_of remainder listed band_up_to places full count sum sum_of
ends = (refl, refl, refl, refl)

-- one student alone: left over by one millionth too little, and not where equality fits
pub alone : (remainder (500 ∷ []) (999999 ∷ 0 ∷ []) 2000 ≡ 1) × (remainder (500 ∷ []) (1000000 ∷ 0 ∷ []) 2000 ≡ 0) × (remainder (500 ∷ []) (0 ∷ []) 1000000 ≡ 1)
unfolding remainder places count sum sum_of
alone = (refl, refl, refl)

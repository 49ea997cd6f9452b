-- Values that are worked by hand, computed from the definitions.
use mathlib.Core.Path.{◌≡◌, refl}
use mathlib.Core.List.{[], ◌∷◌}
use Rattle.paper.specs.Lists.{sum, sum_of, listed}
use Rattle.tally.specs.Places.{places, band_up_to}
use Rattle.tally.specs.InnerTally.{sums_to, steps_of, sums_from, bands_by, remainder_by}
use Rattle.tally.specs.Examples.{full}

-- one student, two above and one above them: C is 4, 3 and 1
pub summed : sums_from (1 ∷ 2 ∷ 1 ∷ []) ≡ 4 ∷ 3 ∷ 1 ∷ []
unfolding sums_from listed sum_of
summed = refl

-- how many have at most each: 1, 3 and 4; where nobody has the first or the middle one; taken apart the counts again; none
pub summed_up : (sums_to (1 ∷ 2 ∷ 1 ∷ []) ≡ 1 ∷ 3 ∷ 4 ∷ []) × (sums_to (0 ∷ 2 ∷ 0 ∷ 3 ∷ []) ≡ 0 ∷ 2 ∷ 2 ∷ 5 ∷ [])
    × (steps_of (1 ∷ 3 ∷ 4 ∷ []) ≡ 1 ∷ 2 ∷ 1 ∷ []) × (steps_of (0 ∷ 2 ∷ 2 ∷ 5 ∷ []) ≡ 0 ∷ 2 ∷ 0 ∷ 3 ∷ []) × (sums_to [] ≡ []) × (steps_of [] ≡ [])
unfolding sums_to steps_of listed sum
summed_up = (refl, refl, refl, refl, refl, refl)

-- Y=2000, a place in each band: 99.80, 99.85, 99.95. Y=1000, half a place in each: 99.60, 99.70, 99.90, which equality fits.
-- Y=1: all but the highest are left over
pub walked : (bands_by full 2000 (4 ∷ 3 ∷ 1 ∷ []) ≡ 1996 ∷ 1997 ∷ 1999 ∷ []) × (bands_by full 1000 (4 ∷ 3 ∷ 1 ∷ []) ≡ 1992 ∷ 1994 ∷ 1998 ∷ []) × (remainder_by full 1 (4 ∷ 3 ∷ 1 ∷ []) ≡ 3)
unfolding bands_by remainder_by band_up_to places full sum sum_of listed
walked = (refl, refl, refl)

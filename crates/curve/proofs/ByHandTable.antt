-- The participation table: the knot, the one formula or the other, and entries rounded down.
use mathlib.Core.Path.{◌≡◌, refl}
use lib.ListN.{get_or}
use Rattle.paper.specs.Lists.{listed}
use Rattle.curve.specs.Curve.{knot, lower, upper, entry, table_of}

-- a = 15000 - 2r
pub knots : (knot 2500 ≡ 10000) × (knot 5000 ≡ 5000) × (knot 5001 ≡ 4998) × (knot 7499 ≡ 2) × (knot 7500 ≡ 0)
knots = (refl, refl, refl, refl, refl)

-- if 5k is at most a: a - 5; at a itself both formulas give one number; a + 5
pub at-knot : (entry 5000 999 ≡ 498501) × (lower 5000 1000 ≡ 500000) × (upper 5000 1000 ≡ 500000) × (entry 5000 1001 ≡ 501498)
unfolding entry lower upper
at-knot = (refl, refl, refl, refl)

-- 5k of a - 1, a - 2 and a - 3; of a + 1, a + 2 and a + 3
pub by_knot : (entry 5002 999 ≡ 499300) × (entry 4999 1000 ≡ 499600) × (entry 5001 999 ≡ 498900)
    × (entry 4998 1001 ≡ 500699) × (entry 5001 1000 ≡ 500399) × (entry 4999 1001 ≡ 501099)
unfolding entry lower upper
by_knot = (refl, refl, refl, refl, refl, refl)

-- a is above 0: a = 2, where band 0 alone is below it; a = 10, with bands 2 and 3; a = 0, where no band is
pub small-knots : (entry 7499 0 ≡ 0) × (entry 7499 1 ≡ 1099) × (entry 7495 2 ≡ 1000) × (entry 7495 3 ≡ 2499) × (entry 7500 2 ≡ 2997) × (entry 7500 1999 ≡ 999999)
unfolding entry lower upper
small-knots = (refl, refl, refl, refl, refl, refl)

-- a = 10000, where every band is below it; a = 9996, where 1999 still is, and 9994, where it is not
pub great_knots : (entry 2500 0 ≡ 0) × (entry 2500 1 ≡ 0) × (entry 2500 1998 ≡ 997002) × (entry 2502 1999 ≡ 999300) × (entry 2503 1999 ≡ 999652)
unfolding entry lower upper
great_knots = (refl, refl, refl, refl, refl)

-- rounded down: 0.864 and 1.0985; 999998.9015 and 999999.136
pub rounded-down : (entry 5000 12 ≡ 0) × (entry 5000 13 ≡ 1) × (entry 5000 1987 ≡ 999998) × (entry 5000 1988 ≡ 999999)
unfolding entry lower upper
rounded-down = (refl, refl, refl, refl)

-- band k, 0 to 1999
pub all_bands : (get_or (table_of 5000) 0 7 ≡ 0) × (get_or (table_of 5000) 13 7 ≡ 1) × (get_or (table_of 5000) 1999 7 ≡ 999999) × (get_or (table_of 5000) 2000 7 ≡ 7)
unfolding listed table_of entry lower upper
all_bands = (refl, refl, refl, refl)

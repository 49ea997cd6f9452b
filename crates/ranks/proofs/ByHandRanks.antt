-- Ranks and percentiles: ties, roundings, and each buffer.
use Prim.Native.Nat.{ℕ}
use mathlib.Core.Path.{◌≡◌, refl}
use mathlib.Core.List.{List, [], ◌∷◌}
use lib.ListN.{length}
use Rattle.paper.specs.Lists.{sum, count, listed}
use Rattle.paper.specs.Rounding.{nearest}
use Rattle.paper.specs.Rulings.{accepted, refused, ◌at◌}
use Rattle.ranks.specs.Ranking.{at_most, percentile, ranks_of, percentiles_of}
use Rattle.ranks.specs.Promise.{lent, ruling}

-- the number of students whose value is at most one's own: one less, one's own, one more
pub counted : (at_most (3 ∷ 5 ∷ 5 ∷ 8 ∷ []) 4 ≡ 1) × (at_most (3 ∷ 5 ∷ 5 ∷ 8 ∷ []) 5 ≡ 3) × (at_most (3 ∷ 5 ∷ 5 ∷ 8 ∷ []) 6 ≡ 3)
unfolding sum count
counted = (refl, refl, refl)

-- ties take the highest: the tied on top, in the middle and below; all tied; one value; in rising and in falling order
pub tied : (ranks_of (9 ∷ 4 ∷ 9 ∷ 6 ∷ 9 ∷ []) ≡ 5 ∷ 1 ∷ 5 ∷ 2 ∷ 5 ∷ []) × (ranks_of (6 ∷ 4 ∷ 6 ∷ 9 ∷ []) ≡ 3 ∷ 1 ∷ 3 ∷ 4 ∷ []) × (ranks_of (4 ∷ 9 ∷ 4 ∷ []) ≡ 2 ∷ 3 ∷ 2 ∷ [])
    × (ranks_of (7 ∷ 7 ∷ 7 ∷ []) ≡ 3 ∷ 3 ∷ 3 ∷ []) × (ranks_of (7 ∷ []) ≡ 1 ∷ []) × (ranks_of (1 ∷ 2 ∷ 3 ∷ []) ≡ 1 ∷ 2 ∷ 3 ∷ []) × (ranks_of (3 ∷ 2 ∷ 1 ∷ []) ≡ 3 ∷ 2 ∷ 1 ∷ [])
unfolding sum count listed ranks_of
tied = (refl, refl, refl, refl, refl, refl, refl)

-- the percentile of the tied is that of their rank
pub tied-percentiles : (percentiles_of (9 ∷ 4 ∷ 9 ∷ 6 ∷ 9 ∷ []) ≡ 100000 ∷ 20000 ∷ 100000 ∷ 40000 ∷ 100000 ∷ []) × (percentiles_of (7 ∷ []) ≡ 100000 ∷ [])
unfolding sum count listed nearest percentiles_of
tied-percentiles = (refl, refl)

-- in thousandths, nearest, halves up: 33.3333, 16.6667, 11.1111; 4.6875, which is a half; 50; of N=99999 just below a half and just above
pub nearest-percentiles : (percentile 3 1 ≡ 33333) × (percentile 6 1 ≡ 16667) × (percentile 9 1 ≡ 11111) × (percentile 64 3 ≡ 4688) × (percentile 2 1 ≡ 50000)
    × (percentile 99999 49999 ≡ 49999) × (percentile 99999 50000 ≡ 50001)
unfolding nearest
nearest-percentiles = (refl, refl, refl, refl, refl, refl, refl)

-- 100 times rank/N: the lowest and the highest of 100000
pub of-most : (percentile 100000 1 ≡ 1) × (percentile 100000 99999 ≡ 99999) × (percentile 100000 100000 ≡ 100000)
unfolding nearest
of-most = (refl, refl, refl)

-- values are any 32-bit numbers
pub any_values : (ruling (4294967295 ∷ 0 ∷ []) (lent (0 ∷ 0 ∷ []) (0 ∷ 0 ∷ [])) ≡ accepted tt) × (ranks_of (4294967295 ∷ 0 ∷ 4294967294 ∷ []) ≡ 3 ∷ 1 ∷ 2 ∷ [])
unfolding sum count listed ranks_of
any_values = (refl, refl)

-- 11: ranks too many, where the percentiles are as many as the values; no values, and a buffer with room for one
pub lengths : (ruling (7 ∷ []) (lent (0 ∷ 0 ∷ []) (0 ∷ [])) ≡ refused (11 at 0)) × (ruling [] (lent (0 ∷ []) []) ≡ refused (11 at 0)) × (ruling [] (lent [] (0 ∷ [])) ≡ refused (11 at 0))
    × (ruling (7 ∷ []) (lent (0 ∷ []) (0 ∷ [])) ≡ accepted tt)
lengths = (refl, refl, refl, refl)

-- 2 before 11, for each buffer; 100000 values with a buffer too short pass on to 11
pub two-first : (values : List ℕ) → length values ≡ 100001 → (ruling values (lent values []) ≡ refused (2 at 100000)) × (ruling values (lent [] values) ≡ refused (2 at 100000))
two-first values e = (rw e refl, rw e refl)

pub then_eleven : (values : List ℕ) → length values ≡ 100000 → (ruling values (lent values []) ≡ refused (11 at 0)) × (ruling values (lent [] values) ≡ refused (11 at 0))
then_eleven values e = (rw e refl, rw e refl)

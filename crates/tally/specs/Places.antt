-- The places, and the band of a C.
use Rattle.std.specs.Prelude.{ℕ, zero, suc, ◌*◌, ◌≤◌, List, drop}
use Rattle.paper.specs.Limits.{top_band, band_count}
use Rattle.paper.specs.Lists.{sum_of}
use Rattle.paper.specs.Units.{millionths}
use Rattle.paper.specs.Words.{◌≤?◌, when◌then◌else◌}

-- F(k), the sum of table entries k to 1999
abbrev pub F : List ℕ → ℕ → ℕ
F table k = sum_of (drop k table)

-- one place is 2000000000: the population is counted in each of 2000 bands, in millionths
abbrev pub one_place : ℕ
one_place = band_count * millionths

-- Y·F(k): the places at band k and higher, unrounded, times 2000000000
unfoldable pub places : List ℕ → ℕ → ℕ → ℕ
places table Y k = Y * F table k

-- c students fit band k
abbrev pub Fits : List ℕ → ℕ → ℕ → ℕ → Type 0
Fits table Y k c = one_place * c ≤ places table Y k

-- table, Y, c, k: the highest band up to k that c students fit, 0 if none
unfoldable pub band_up_to : List ℕ → ℕ → ℕ → ℕ → ℕ
band_up_to table Y c zero = 0
band_up_to table Y c (suc k) = let below = band_up_to table Y c k in when one_place * c ≤? places table Y (suc k) then suc k else below

-- the band of c students: the highest of all that they fit, or 0
abbrev pub band_of : List ℕ → ℕ → ℕ → ℕ
band_of table Y c = band_up_to table Y c top_band

-- The paper's values that are worked by hand, computed from the definitions.
use Prim.Native.Nat.{ℕ, zero, suc, ◌≤◌, ◌<◌}
use native.Mathlib.Nat.{le_refl}
use native.Mathlib.Omega.{arith}
use mathlib.Core.Path.{◌≡◌, refl}
use mathlib.Core.Bool.{false}
use mathlib.Core.List.{List, [], ◌∷◌}
use lib.ListN.{length, get_or, replicate, get_or-replicate, set}
use lib.Dec.{ltb, lit<}
use borrow.Author.Tests.{lt-ltb, le-ltb}
use Rattle.paper.specs.Limits.{most_aggregate, band_count, most_entry, most_tallied}
use Rattle.paper.specs.Lists.{sum, count, first, sum_of, listed, first_over, some_over}
use Rattle.paper.proofs.Firsts.{first-here, none_has}
use Rattle.paper.specs.Rulings.{accepted, refused, ◌at◌}
use Rattle.paper.specs.Rounding.{nearest}
use Rattle.ranks.specs.Ranking.{ranks_of, percentiles_of}
use Rattle.tally.specs.Counts.{number_at}
use Rattle.tally.specs.Places.{places, band_up_to}
use Rattle.tally.specs.Examples.{full}
use Rattle.placements.specs.Placing.{remainder}
use Rattle.placements.specs.Bands.{bands_of}
use Rattle.placements.specs.Promise.{ruling, Lent, lent, together_ruling}

-- 400.00, 400.00, 300.00; 400.00, 300.00, 300.00
abbrev pub three : List ℕ
three = 40000 ∷ 40000 ∷ 30000 ∷ []

abbrev pub tied_below : List ℕ
tied_below = 40000 ∷ 30000 ∷ 30000 ∷ []

-- Y=2000: 99.90, 99.90, 99.85; 99.95, 99.85, 99.85. Y=1000: half a place in each band, so that one student has 99.90, which equality fits
pub bands : (bands_of three full 2000 ≡ 1998 ∷ 1998 ∷ 1997 ∷ []) × (bands_of tied_below full 2000 ≡ 1999 ∷ 1997 ∷ 1997 ∷ []) × (bands_of (40000 ∷ []) full 1000 ≡ 1998 ∷ [])
unfolding bands_of listed band_up_to places full count sum sum_of
bands = (refl, refl, refl)

-- the remainder: none of those, one of two at Y=1, both where they are tied
pub remainders : (remainder three full 2000 ≡ 0) × (remainder (40000 ∷ 30000 ∷ []) full 1 ≡ 1) × (remainder (30000 ∷ 30000 ∷ []) full 1 ≡ 2) × (remainder tied_below full 2000 ≡ 0)
unfolding remainder places full count sum sum_of
remainders = (refl, refl, refl, refl)

-- ranks and percentiles: the tied take the highest rank, of all three where they are on top, of two where they are below
pub ranked : (ranks_of three ≡ 3 ∷ 3 ∷ 1 ∷ []) × (percentiles_of three ≡ 100000 ∷ 100000 ∷ 33333 ∷ []) × (ranks_of tied_below ≡ 3 ∷ 2 ∷ 2 ∷ []) × (percentiles_of tied_below ≡ 100000 ∷ 66667 ∷ 66667 ∷ [])
unfolding ranks_of percentiles_of listed count sum nearest
ranked = (refl, refl, refl, refl)

-- the tally: one has 400.00, two have 300.00, none has 350.00
pub tallies : (number_at tied_below 40000 ≡ 1) × (number_at tied_below 30000 ≡ 2) × (number_at tied_below 35000 ≡ 0)
unfolding number_at count sum
tallies = (refl, refl, refl)

-- an entry over 1000000, at 3, and one more; an aggregate over 50000, at 1
abbrev pub faulty : List ℕ
faulty = set (set full 3 1000001) 7 1000001

abbrev pub high : List ℕ
high = 50000 ∷ 50001 ∷ []

-- the same entry in every band
pub flat_within : (v : ℕ) → v ≤ most_entry → some_over most_entry (replicate band_count v) ≡ false
flat_within v m =
    none_has band_count (λ i. ltb most_entry (get_or (replicate band_count v) i 0))
    (λ i l. let e : get_or (replicate band_count v) i 0 ≤ most_entry = omega (arith, get_or-replicate {A = ℕ} band_count i v 0 l) in le-ltb most_entry (get_or (replicate band_count v) i 0) e)

pub full-within : some_over most_entry full ≡ false
unfolding full
full-within = flat_within most_entry (le_refl most_entry)

pub within : (some_over most_aggregate three ≡ false) × (some_over most_aggregate (40000 ∷ 30000 ∷ []) ≡ false) × (some_over most_aggregate [] ≡ false) × (some_over most_aggregate tied_below ≡ false)
unfolding first
within = (refl, refl, refl, refl)

before-three : (i : ℕ) → i < 3 → ltb most_entry (get_or faulty i 0) ≡ false
unfolding full
before-three zero l = refl
before-three (suc zero) l = refl
before-three (suc (suc zero)) l = refl
before-three (suc (suc (suc i))) l = absurd (omega arith)

pub places-over : (first_over most_entry faulty ≡ 3) × (first_over most_aggregate high ≡ 1)
unfolding full first
places-over = (first-here band_count (λ i. ltb most_entry (get_or faulty i 0)) 3 (lit< tt) before-three refl, refl)

-- each with all that follows wrong as well: 513 students, a short table, no population, an entry, an aggregate
pub refusals : (ruling (replicate 513 50001) [] 0 [] ≡ refused (2 at 512)) × (ruling high (1000001 ∷ []) 0 (0 ∷ 0 ∷ []) ≡ refused (11 at 0))
    × (ruling high faulty 0 (0 ∷ 0 ∷ []) ≡ refused (9 at 0)) × (ruling high faulty 1 (0 ∷ 0 ∷ []) ≡ refused (13 at 3)) × (ruling high full 1 (0 ∷ 0 ∷ []) ≡ refused (12 at 1))
unfolding full
refusals = (refl, refl, refl, simp (places-over.0, places-over.1) refl, simp (full-within, places-over.1) refl)

-- the limits themselves pass on to the next rule: 512 students, Y of 1000000; a band too few, and Y over
pub edges : (ruling (replicate 512 0) full 0 (replicate 512 0) ≡ refused (9 at 0)) × (ruling high full 1000000 (0 ∷ 0 ∷ []) ≡ refused (12 at 1))
    × (ruling (0 ∷ 0 ∷ []) full 1 (0 ∷ []) ≡ refused (11 at 0)) × (ruling (0 ∷ []) full 1000001 (0 ∷ []) ≡ refused (9 at 0))
unfolding full
edges = (refl, simp (full-within, places-over.1) refl, refl, refl)

-- nobody is accepted, with remainder 0; but Y is still tested, the lent lengths before it, and the entries after it
pub nobody : (ruling [] full 1 [] ≡ accepted 0) × (ruling [] full 0 [] ≡ refused (9 at 0)) × (ruling [] [] 1 [] ≡ refused (11 at 0)) × (ruling [] full 1 (0 ∷ []) ≡ refused (11 at 0))
    × (ruling [] faulty 1 [] ≡ refused (13 at 3))
unfolding full remainder count sum
nobody = (rw (full-within, within.2) refl, refl, refl, refl, simp places-over.0 refl)

-- with the ranks: over 100000 students; no counts
pub too_many : (aggregates table : List ℕ) (Y : ℕ) (before : Lent) → most_tallied < length aggregates → together_ruling aggregates table Y before ≡ refused (2 at most_tallied)
too_many aggregates table Y before h = simp (lt-ltb most_tallied (length aggregates) h) refl

pub no_counts : together_ruling three full 0 (lent (0 ∷ 0 ∷ 0 ∷ []) (0 ∷ 0 ∷ 0 ∷ []) (0 ∷ 0 ∷ 0 ∷ []) []) ≡ refused (11 at 0)
unfolding full
no_counts = refl

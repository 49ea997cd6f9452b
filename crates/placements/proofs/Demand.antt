-- Demand 3, of every accepted call of either entry.
use Prim.Native.Nat.{ℕ, ◌≤◌, ◌<◌}
use native.Mathlib.Omega.{arith}
use mathlib.Core.Path.{◌≡◌, sym, ◌∙◌}
use mathlib.Core.List.{List}
use lib.ListN.{length, get_or}
use lib.Dec.{eqb}
use Rattle.std.proofs.Common.{Ok}
use Rattle.paper.specs.Limits.{band_count}
use Rattle.paper.specs.Lists.{sum, count}
use Rattle.paper.proofs.Ruled.{given-values}
use Rattle.tally.specs.Counts.{number_at}
use Rattle.tally.proofs.Counting.{count-one}
use Rattle.placements.specs.Placing.{BestPlacement, remainder}
use Rattle.placements.specs.Promise.{direct_rules, Promise, Lent, together_rules, TogetherPromise}
use Rattle.placements.specs.Given.{Given, directly, ranked}
use Rattle.placements.proofs.Placed.{best-once, best-stable, keeps-totals}

-- the bands are the best placement, and the remainder is the paper's
pub given-best : (aggregates table : List ℕ) (Y n : ℕ) (bands : List ℕ) → Given aggregates table Y n bands → BestPlacement aggregates table Y bands × (n ≡ remainder aggregates table Y)
given-best aggregates table Y n bands (directly before h) = (h.leaves, given-values (direct_rules aggregates table Y (length before)) (remainder aggregates table Y) n (sym h.says))
given-best aggregates table Y n bands (ranked before ranks percentiles counts h) =
    let rules = together_rules aggregates table Y (length before.ranks) (length before.percentiles) (length before.bands) (length before.counts) in
    (h.leaves.best, given-values rules (remainder aggregates table Y) n (sym h.says))

-- with table and Y kept, a student's band stays when those with lower aggregates are changed, removed or joined by others:
-- the students at and above agree in number for each aggregate, in whatever order they are listed
pub stable : (xs ys table : List ℕ) (Y m n : ℕ) (bands others : List ℕ) → Given xs table Y m bands → Given ys table Y n others
    → (i j : ℕ) → i < length xs → j < length ys → get_or xs i 0 ≡ get_or ys j 0
    → ((x : ℕ) → get_or xs i 0 ≤ x → number_at xs x ≡ number_at ys x) → get_or bands i 0 ≡ get_or others j 0
stable xs ys table Y m n bands others a b = best-stable xs ys table Y bands others (given-best xs table Y m bands a).0 (given-best ys table Y n others b).0

-- every student is in one of the 2000 bands
pub one-band : (aggregates table : List ℕ) (Y n : ℕ) (bands : List ℕ) → Given aggregates table Y n bands
    → (length bands ≡ length aggregates) × ((i : ℕ) → i < length aggregates → count band_count (λ k. eqb (get_or bands i 0) k) ≡ 1)
one-band aggregates table Y n bands a =
    let k = (given-best aggregates table Y n bands a).0.keeps in
    (k.long, λ i l. count-one band_count (get_or bands i 0) (omega (arith, k.within i l)))

-- and the band totals add up to the cohort
pub totals : (aggregates table : List ℕ) (Y n : ℕ) (bands : List ℕ) → Given aggregates table Y n bands → sum band_count (number_at bands) ≡ length aggregates
totals aggregates table Y n bands a = keeps-totals aggregates table Y bands (given-best aggregates table Y n bands a).0.keeps

-- whatever two accepted calls give for one cohort, table and Y is the same
pub given-once : (aggregates table : List ℕ) (Y m n : ℕ) (bands others : List ℕ) → Given aggregates table Y m bands → Given aggregates table Y n others → (m ≡ n) × (bands ≡ others)
given-once aggregates table Y m n bands others a b =
    let x = given-best aggregates table Y m bands a in
    let y = given-best aggregates table Y n others b in
    (x.1 ∙ sym y.1, best-once aggregates table Y bands others x.0 y.0)

-- so the two entries agree wherever both accept
pub agree : (aggregates table : List ℕ) (Y m n : ℕ) (before bands : List ℕ) (before' after : Lent)
    → Promise aggregates table Y before (Ok m) bands → TogetherPromise aggregates table Y before' (Ok n) after → (m ≡ n) × (bands ≡ after.bands)
agree aggregates table Y m n before bands before' after a b =
    given-once aggregates table Y m n bands after.bands (directly before a) (ranked before' after.ranks after.percentiles after.counts b)

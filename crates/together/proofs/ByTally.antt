-- What the passes over a cohort's tally give each student, and the remainder.
use Prim.Native.Nat.{ℕ, ◌+◌, ◌-◌, ◌*◌, ◌≤◌, ◌<◌}
use native.Mathlib.Omega.{arith}
use native.Mathlib.Decide.{dec_lt}
use mathlib.Core.Path.{◌≡◌, refl, sym, ap, ◌∙◌}
use mathlib.Core.Bool.{Bool, true, false}
use mathlib.Core.List.{List}
use lib.ListN.{length, get_or, get_or-eq_default}
use lib.Dec.{leb, ltb}
use borrow.Author.Tests.{le-leb, lt-leb}
use Rattle.paper.specs.Limits.{most_aggregate, tally_count}
use Rattle.paper.specs.Lists.{pick, sum, count}
use Rattle.paper.proofs.Listing.{sum_same, sum-add, count_same, count-all, length-listed, at-list, is-listed}
use Rattle.ranks.specs.Ranking.{at_most, rank, percentile, ranks_of, percentiles_of}
use Rattle.tally.specs.Counts.{at_least, number_at, tally_of}
use Rattle.tally.specs.Places.{one_place, places, band_of}
use Rattle.tally.specs.Inner.{Aggregates}
use Rattle.tally.specs.InnerTally.{sums_to, sums_from, bands_by, left_at, remainder_by}
use Rattle.tally.proofs.Counting.{at_split, gathered}
use Rattle.tally.proofs.Tallies.{sum-parts, sums_to-long, sums_to-at, sums_long, sums_at, walked_at, tally_exists, tally_sums}
use Rattle.placements.specs.Placing.{remainder}
use Rattle.placements.specs.Bands.{bands_of}
use Rattle.together.specs.Inner.{read_of, percents_of}

-- a number is at most t, or at least one more
one_side : (t x : ℕ) → pick (leb x t) 1 0 + pick (leb (t + 1) x) 1 0 ≡ 1
one_side t x = go (dec_lt t x)
  where
    go : Dec (t < x) → pick (leb x t) 1 0 + pick (leb (t + 1) x) 1 0 ≡ 1
    go (yes l) = rw (lt-leb x t l, le-leb (t + 1) x (omega arith)) refl
    go (no l) = rw (le-leb x t (omega arith), lt-leb (t + 1) x (omega arith)) refl

both-sides : (xs : List ℕ) (t : ℕ) → at_most xs t + at_least xs (t + 1) ≡ length xs
unfolding count
both-sides xs t =
    sym (sum-add (length xs) (λ i. pick (leb (get_or xs i 0) t) 1 0) (λ i. pick (leb (t + 1) (get_or xs i 0)) 1 0))
    ∙ sum_same (length xs) (λ i. pick (leb (get_or xs i 0) t) 1 0 + pick (leb (t + 1) (get_or xs i 0)) 1 0) (λ i. 1) (λ i l. one_side t (get_or xs i 0))
    ∙ count-all (length xs)

from-none : (xs : List ℕ) → at_least xs 0 ≡ length xs
from-none xs = count_same (length xs) (λ i. leb 0 (get_or xs i 0)) (λ i. true) (λ i l. le-leb 0 (get_or xs i 0) (omega arith)) ∙ count-all (length xs)

module _ (xs : List ℕ) (w : Aggregates xs) where
  -- the sums up to an aggregate are the number of students at most there
  sums_ranked : (t : ℕ) → t ≤ most_aggregate → get_or (sums_to (tally_of xs)) t 0 ≡ at_most xs t
  sums_ranked t l =
      let n : t + 1 ≤ length (tally_of xs) = omega (arith, (tally_exists xs).long) in
      omega (
        arith,
        sums_to-at (tally_of xs) t (omega arith),
        sum-parts (tally_of xs) (t + 1) n,
        sums_at (tally_of xs) (t + 1),
        tally_sums xs w (t + 1),
        sums_at (tally_of xs) 0,
        tally_sums xs w 0,
        both-sides xs t,
        from-none xs,
      )

  pub sums_within : (t : ℕ) → get_or (sums_to (tally_of xs)) t 0 ≤ length xs
  sums_within t = go (dec_lt t tally_count)
    where
      go : Dec (t < tally_count) → get_or (sums_to (tally_of xs)) t 0 ≤ length xs
      go (yes l) = omega (arith, sums_ranked t (omega arith), both-sides xs t)
      go (no l) =
          let m : length (sums_to (tally_of xs)) ≤ t = omega (arith, sums_to-long (tally_of xs), (tally_exists xs).long) in
          omega (arith, get_or-eq_default (sums_to (tally_of xs)) 0 m)

  -- which read for each student are the ranks and percentiles
  pub read-ranked : read_of xs (sums_to (tally_of xs)) ≡ ranks_of xs
  unfolding read_of ranks_of
  read-ranked =
      is-listed (read_of xs (sums_to (tally_of xs))) (length xs) (rank xs) (length-listed 0 (length xs) (λ i. get_or (sums_to (tally_of xs)) (get_or xs i 0) 0))
      (λ i l. at-list (length xs) (λ i. get_or (sums_to (tally_of xs)) (get_or xs i 0) 0) i l ∙ sums_ranked (get_or xs i 0) (w.each i))

  pub read-percents : percents_of xs (sums_to (tally_of xs)) ≡ percentiles_of xs
  unfolding percents_of percentiles_of
  read-percents =
      let n = length xs in
      is-listed (percents_of xs (sums_to (tally_of xs))) n (λ i. percentile n (rank xs i)) (length-listed 0 n (λ i. percentile n (get_or (sums_to (tally_of xs)) (get_or xs i 0) 0)))
      (λ i l. at-list n (λ i. percentile n (get_or (sums_to (tally_of xs)) (get_or xs i 0) 0)) i l ∙ ap (percentile n) (sums_ranked (get_or xs i 0) (w.each i)))

module _ (xs : List ℕ) (w : Aggregates xs) (table : List ℕ) (Y : ℕ) where
  -- the walk gives each student's band
  pub read-walked : read_of xs (bands_by table Y (sums_from (tally_of xs))) ≡ bands_of xs table Y
  unfolding read_of bands_of
  read-walked =
      is-listed (read_of xs (bands_by table Y (sums_from (tally_of xs)))) (length xs) (λ i. band_of table Y (at_least xs (get_or xs i 0)))
      (length-listed 0 (length xs) (λ i. get_or (bands_by table Y (sums_from (tally_of xs))) (get_or xs i 0) 0))
      (λ i l. at-list (length xs) (λ i. get_or (bands_by table Y (sums_from (tally_of xs))) (get_or xs i 0) 0) i l ∙ here (get_or xs i 0) (w.each i))
    where
      here : (t : ℕ) → t ≤ most_aggregate → get_or (bands_by table Y (sums_from (tally_of xs))) t 0 ≡ band_of table Y (at_least xs t)
      here t l = walked_at table Y (sums_from (tally_of xs)) t (omega (arith, sums_long (tally_of xs), (tally_exists xs).long)) ∙ ap (band_of table Y) (tally_sums xs w t)

  -- and the remainder, gathered by aggregate
  one_at : (b : Bool) (n m c : ℕ) → c ≡ n + m → pick b (c - m) 0 ≡ n * pick b 1 0
  one_at true n m c e = omega arith
  one_at false n m c e = omega arith

  pub remainder-walked : remainder_by table Y (sums_from (tally_of xs)) ≡ remainder xs table Y
  unfolding remainder_by remainder number_at count
  remainder-walked =
      ap (λ (n : ℕ). sum n (left_at table Y (sums_from (tally_of xs)))) (sums_long (tally_of xs) ∙ (tally_exists xs).long)
      ∙ sum_same tally_count (left_at table Y (sums_from (tally_of xs))) (λ t. number_at xs t * left t) each
      ∙ gathered tally_count (length xs) (λ i. get_or xs i 0) left (λ i l. omega (arith, w.each i))
    where
      left : ℕ → ℕ
      left t = pick (ltb (places table Y 0) (one_place * at_least xs t)) 1 0

      each : (t : ℕ) → t < tally_count → left_at table Y (sums_from (tally_of xs)) t ≡ number_at xs t * left t
      each t l =
          rw (tally_sums xs w t, tally_sums xs w (t + 1))
          (one_at (ltb (places table Y 0) (one_place * at_least xs t)) (number_at xs t) (at_least xs (t + 1)) (at_least xs t) (at_split xs t))

-- A tally is one; its sums up to each entry can be taken apart, those from the top are C; and what the walk makes of them.
use Prim.Native.Nat.{ℕ, zero, suc, ◌+◌, ◌-◌, ◌≤◌, ◌<◌}
use native.Mathlib.Omega.{arith}
use native.Mathlib.Decide.{dec_lt}
use native.Mathlib.Numerals.{add-one}
use mathlib.Core.Path.{◌≡◌, refl, sym, ◌∙◌}
use mathlib.Core.List.{List}
use lib.ListN.{length, get_or, drop, get_or-eq_default}
use lib.Seq.{ext_get_or}
use Rattle.paper.specs.Limits.{top_band, most_tallied, tally_count}
use Rattle.paper.specs.Lists.{sum, sum_of}
use Rattle.paper.proofs.Listing.{sum_step, is-listed, length-listed, at-list, sum_of-end, sum_of-step, sum_of-back, sum_of-falls}
use Rattle.tally.specs.Counts.{at_least, number_at, Tallied, tally_of}
use Rattle.tally.specs.Places.{band_of}
use Rattle.tally.specs.Inner.{Aggregates}
use Rattle.tally.specs.InnerTally.{sums_to, previous, steps_of, Rising, sums_from, bands_by}
use Rattle.tally.proofs.Counting.{at-within, at_none, at_split}
use Rattle.tally.proofs.Reaching.{band-highest}

-- a sum up to an index, and from it on, are the sum of the list
pub sum-parts : (xs : List ℕ) (n : ℕ) → n ≤ length xs → sum n (λ j. get_or xs j 0) + sum_of (drop n xs) ≡ sum_of xs
unfolding sum
sum-parts xs zero l = omega arith
sum-parts xs (suc n) l =
    let e : n + 1 ≡ suc n = omega arith in
    omega (arith, sum-parts xs n (omega arith), rw e at (sum_of-step xs n (omega arith)))

pub sum-to_most : (xs : List ℕ) (n : ℕ) → n ≤ length xs → sum n (λ j. get_or xs j 0) ≤ sum_of xs
sum-to_most xs n l = omega (arith, sum-parts xs n l)

pub previous-next : (sums : List ℕ) (t : ℕ) → previous sums (t + 1) ≡ get_or sums t 0
previous-next sums t = rw add-one refl

-- the sums up to each entry, which rise
module _ (counts : List ℕ) where
  pub sums_to-long : length (sums_to counts) ≡ length counts
  unfolding sums_to
  sums_to-long = length-listed 0 (length counts) (λ t. sum (t + 1) (λ j. get_or counts j 0))

  pub sums_to-at : (t : ℕ) → t < length counts → get_or (sums_to counts) t 0 ≡ sum (t + 1) (λ j. get_or counts j 0)
  unfolding sums_to
  sums_to-at t l = at-list (length counts) (λ t. sum (t + 1) (λ j. get_or counts j 0)) t l

  -- each has its entry more than the one before it
  sums_to-step : (t : ℕ) → t < length counts → get_or (sums_to counts) t 0 ≡ previous (sums_to counts) t + get_or counts t 0
  unfolding sum
  sums_to-step zero l = sums_to-at zero l
  sums_to-step (suc t) l =
      let e : t + 1 ≡ suc t = omega arith in
      omega (arith, sums_to-at (suc t) l, sum_step (suc t) (λ j. get_or counts j 0), rw e at (sums_to-at t (omega arith)))

  pub sums_to-rising : Rising (sums_to counts)
  sums_to-rising t l = omega (arith, sums_to-step t (omega (arith, sums_to-long)))

  -- so that taken apart they are the counts
  pub parted_back : steps_of (sums_to counts) ≡ counts
  unfolding steps_of
  parted_back =
      sym (is-listed counts (length (sums_to counts)) (λ t. get_or (sums_to counts) t 0 - previous (sums_to counts) t) (sym sums_to-long)
      (λ t l. omega (arith, sums_to-step t (omega (arith, sums_to-long)))))

module _ (counts : List ℕ) where
  pub sums_long : length (sums_from counts) ≡ length counts
  unfolding sums_from
  sums_long = length-listed 0 (length counts) (λ t. sum_of (drop t counts))

  pub sums_at : (t : ℕ) → get_or (sums_from counts) t 0 ≡ sum_of (drop t counts)
  unfolding sums_from
  sums_at t = go (dec_lt t (length counts))
    where
      go : Dec (t < length counts) → get_or (sums_from counts) t 0 ≡ sum_of (drop t counts)
      go (yes l) = at-list (length counts) (λ t. sum_of (drop t counts)) t l
      go (no l) = let m : length (sums_from counts) ≤ t = omega (arith, sums_long) in get_or-eq_default (sums_from counts) 0 m ∙ sym (sum_of-end counts t (omega arith))

  -- from the top down each adds its entry, and none is over the total
  pub sums_back : (t : ℕ) → 0 < t → t ≤ length counts → get_or (sums_from counts) (t - 1) 0 ≡ get_or counts (t - 1) 0 + get_or (sums_from counts) t 0
  sums_back t l m = omega (arith, sums_at (t - 1), sums_at t, sum_of-back counts t l m)

  pub sums_most : (t : ℕ) → get_or (sums_from counts) t 0 ≤ sum_of counts
  sums_most t = omega (arith, sums_at t, sum_of-falls counts 0 t (omega arith))

module _ (table : List ℕ) (Y : ℕ) (cs : List ℕ) where
  pub walked_long : length (bands_by table Y cs) ≡ length cs
  unfolding bands_by
  walked_long = length-listed 0 (length cs) (λ t. band_of table Y (get_or cs t 0))

  pub walked_at : (t : ℕ) → t < length cs → get_or (bands_by table Y cs) t 0 ≡ band_of table Y (get_or cs t 0)
  unfolding bands_by
  walked_at t l = at-list (length cs) (λ t. band_of table Y (get_or cs t 0)) t l

  pub walked_within : (t : ℕ) → get_or (bands_by table Y cs) t 0 ≤ top_band
  walked_within t = go (dec_lt t (length cs))
    where
      go : Dec (t < length cs) → get_or (bands_by table Y cs) t 0 ≤ top_band
      go (yes l) = omega (arith, walked_at t l, (band-highest table Y (get_or cs t 0)).within)
      go (no l) = let m : length (bands_by table Y cs) ≤ t = omega (arith, walked_long) in omega (arith, get_or-eq_default (bands_by table Y cs) 0 m)

-- there is one tally
pub tally_exists : (aggregates : List ℕ) → Tallied aggregates (tally_of aggregates)
unfolding tally_of
tally_exists aggregates = record { long = length-listed 0 tally_count (number_at aggregates); each = λ t l. at-list tally_count (number_at aggregates) t l }

pub tally_once : (aggregates counts others : List ℕ) → Tallied aggregates counts → Tallied aggregates others → counts ≡ others
tally_once aggregates counts others a b =
    ext_get_or 0 counts others (a.long ∙ sym b.long) (λ t l. let m : t < tally_count = omega (arith, a.long) in a.each t m ∙ sym (b.each t m))

-- of a cohort
module _ (xs : List ℕ) (w : Aggregates xs) where
  -- the tally summed from the top is C
  total-from : (d t : ℕ) → tally_count ≤ t + d → sum_of (drop t (tally_of xs)) ≡ at_least xs t
  total-from zero t e = sum_of-end (tally_of xs) t (omega (arith, (tally_exists xs).long)) ∙ sym (at_none xs t (λ i m. omega (arith, w.each i)))
  total-from (suc d) t e = go (dec_lt t tally_count) (total-from d (t + 1) (omega arith))
    where
      go : Dec (t < tally_count) → sum_of (drop (t + 1) (tally_of xs)) ≡ at_least xs (t + 1) → sum_of (drop t (tally_of xs)) ≡ at_least xs t
      go (yes l) ih = omega (arith, sum_of-step (tally_of xs) t (omega (arith, (tally_exists xs).long)), (tally_exists xs).each t l, at_split xs t)
      go (no l) ih = sum_of-end (tally_of xs) t (omega (arith, (tally_exists xs).long)) ∙ sym (at_none xs t (λ i m. omega (arith, w.each i)))

  pub tally_sums : (t : ℕ) → get_or (sums_from (tally_of xs)) t 0 ≡ at_least xs t
  tally_sums t = sums_at (tally_of xs) t ∙ total-from tally_count t (omega arith)

  pub total-few : sum_of (tally_of xs) ≤ most_tallied
  total-few = omega (arith, total-from tally_count 0 (omega arith), at-within xs 0, w.few)

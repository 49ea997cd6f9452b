-- What a turn of each loop adds.
use Prim.Native.Nat.{ℕ, zero, suc, ◌+◌, ◌-◌, ◌*◌, ◌≤◌, ◌<◌}
use native.Mathlib.Nat.{le_refl}
use native.Mathlib.Omega.{arith}
use native.Mathlib.Decide.{ℕ_discrete}
use mathlib.Core.Path.{◌≡◌, refl, sym, ap, ◌∙◌}
use mathlib.Core.Bool.{true, false}
use mathlib.Core.List.{List}
use lib.ListN.{length, get_or, set, length-set, replicate}
use lib.Dec.{leb, eqb}
use lib.Seq.{get_or-set_same, get_or-set_other}
use borrow.Author.Tests.{eq-eqb, ne_eqb}
use Rattle.paper.specs.Limits.{most_population, top_band, tally_count}
use Rattle.paper.specs.Lists.{pick, sum, count, sum_of, listed}
use Rattle.paper.proofs.Filling.{Filled, none_filled, next_filled, all_filled}
use Rattle.paper.proofs.Listing.{sum-none, sum_step, sum_back, is-listed, sum_of-end}
use Rattle.tally.specs.Counts.{number_at, tally_of}
use Rattle.tally.specs.Places.{one_place, band_of}
use Rattle.tally.specs.Inner.{Sized}
use Rattle.tally.specs.InnerSearch.{Stands, SearchAt, Reaches}
use Rattle.tally.specs.InnerTally.{sums_to, previous, steps_of, Rising, sums_from, bands_by, left_at, remainder_by}
use Rattle.tally.proofs.Counting.{count_next}
use Rattle.tally.proofs.Reaching.{search_top, search_for, search_on, left_is}
use Rattle.tally.proofs.Tallies.{sum-to_most, previous-next, sums_long, sums_at, sums_back, sums_most}

-- one more student counted
pub tally_next : (xs counts : List ℕ) (i a : ℕ) → a ≡ get_or xs i 0 → a < length counts
    → ((t : ℕ) → get_or counts t 0 ≡ count i (λ j. eqb (get_or xs j 0) t)) → (t : ℕ) → get_or (set counts a (get_or counts a 0 + 1)) t 0 ≡ count (i + 1) (λ j. eqb (get_or xs j 0) t)
tally_next xs counts i a e l all t = go (ℕ_discrete t a)
  where
    go : Dec (t ≡ a) → get_or (set counts a (get_or counts a 0 + 1)) t 0 ≡ count (i + 1) (λ j. eqb (get_or xs j 0) t)
    go (yes q) =
        rw q
        (get_or-set_same counts a (get_or counts a 0 + 1) 0 l
        ∙ omega (arith, all a, count_next i (λ j. eqb (get_or xs j 0) a) true (eq-eqb (get_or xs i 0) a (sym e))))
    go (no q) =
        get_or-set_other counts a t (get_or counts a 0 + 1) 0 q
        ∙ omega (arith, all t, count_next i (λ j. eqb (get_or xs j 0) t) false (ne_eqb (get_or xs i 0) t (λ z. q (sym z ∙ sym e))))

-- all counted
pub tally_done : (xs counts : List ℕ) (i : ℕ) → i ≡ length xs → length counts ≡ tally_count → ((t : ℕ) → get_or counts t 0 ≡ count i (λ j. eqb (get_or xs j 0) t)) → counts ≡ tally_of xs
unfolding tally_of number_at
tally_done xs counts i e l all = is-listed counts tally_count (number_at xs) l (λ t m. rw e at (all t))

pub zeros-at : (n t : ℕ) → get_or (replicate {A = ℕ} n 0) t 0 ≡ 0
zeros-at zero t = refl
zeros-at (suc n) zero = refl
zeros-at (suc n) (suc t) = zeros-at n t

-- a list that a walk up has filled with f below t
pub record Up (before : List ℕ) (f : ℕ → ℕ) (t : ℕ) (xs : List ℕ) : Type 0 where
  pub filled : Filled (length before) f t xs
  pub rest : (j : ℕ) → t ≤ j → get_or xs j 0 ≡ get_or before j 0

up_start : (before : List ℕ) (f : ℕ → ℕ) → Up before f 0 before
up_start before f = record { filled = none_filled _ f before refl; rest = λ j l. refl }

up_next : {before : List ℕ} {f : ℕ → ℕ} {t : ℕ} {xs : List ℕ} (v : ℕ) → Up before f t xs → t < length before → v ≡ f t → Up before f (t + 1) (set xs t v)
up_next {t = t} {xs = xs} v w l e =
    record { filled = next_filled v w.filled l e; rest = λ j m. get_or-set_other xs t j v 0 (λ z. omega arith) ∙ w.rest j (omega arith) }

-- the sums up to each entry have come up to t, with s the sum below it
pub record Summed (counts : List ℕ) (t : ℕ) (sums : List ℕ) (s : ℕ) : Type 0 where
  pub up : Up counts (λ t. sum (t + 1) (λ j. get_or counts j 0)) t sums
  pub sum_is : s ≡ sum t (λ j. get_or counts j 0)

pub summed_start : (counts : List ℕ) → Summed counts 0 counts 0
summed_start counts = record { up = up_start counts _; sum_is = sym (sum-none (λ j. get_or counts j 0)) }

module _ {counts : List ℕ} {t : ℕ} {sums : List ℕ} {s : ℕ} (w : Summed counts t sums s) (l : t < length counts) where
  summed_here : s + get_or sums t 0 ≡ sum (t + 1) (λ j. get_or counts j 0)
  summed_here = omega (arith, w.sum_is, w.up.rest t (le_refl t), sum_step t (λ j. get_or counts j 0))

  pub summed_most : s + get_or sums t 0 ≤ sum_of counts
  summed_most = omega (arith, summed_here, sum-to_most counts (t + 1) (omega arith))

  pub summed_next : Summed counts (t + 1) (set sums t (s + get_or sums t 0)) (s + get_or sums t 0)
  summed_next = record { up = up_next _ w.up l summed_here; sum_is = summed_here }

pub summed_end : {counts : List ℕ} {t : ℕ} {sums : List ℕ} {s : ℕ} → Summed counts t sums s → length counts ≤ t → sums ≡ sums_to counts
unfolding sums_to
summed_end w l = all_filled w.up.filled l

-- sums are taken apart below t, with s the one before it
pub record Parted (sums : List ℕ) (t : ℕ) (counts : List ℕ) (s : ℕ) : Type 0 where
  pub up : Up sums (λ t. get_or sums t 0 - previous sums t) t counts
  pub previous-is : s ≡ previous sums t

pub parted_start : (sums : List ℕ) → Parted sums 0 sums 0
parted_start sums = record { up = up_start sums _; previous-is = refl }

module _ {sums : List ℕ} {t : ℕ} {counts : List ℕ} {s : ℕ} (w : Parted sums t counts s) (l : t < length sums) where
  pub parted_least : Rising sums → s ≤ get_or counts t 0
  parted_least h = omega (arith, w.previous-is, w.up.rest t (le_refl t), h t l)

  pub parted_next : Parted sums (t + 1) (set counts t (get_or counts t 0 - s)) (get_or counts t 0)
  parted_next =
      record {
        up = up_next _ w.up l (omega (arith, w.previous-is, w.up.rest t (le_refl t)));
        previous-is = w.up.rest t (le_refl t) ∙ sym (previous-next sums t);
      }

pub parted_end : {sums : List ℕ} {t : ℕ} {counts : List ℕ} {s : ℕ} → Parted sums t counts s → length sums ≤ t → counts ≡ steps_of sums
unfolding steps_of
parted_end w l = all_filled w.up.filled l

-- a list that a walk down has filled with f from t on
pub record Down (before : List ℕ) (f : ℕ → ℕ) (t : ℕ) (xs : List ℕ) : Type 0 where
  pub long : length xs ≡ length before
  pub within : t ≤ length before
  pub below : (j : ℕ) → j < t → get_or xs j 0 ≡ get_or before j 0
  pub from : (j : ℕ) → t ≤ j → j < length before → get_or xs j 0 ≡ f j

down_start : (before : List ℕ) (f : ℕ → ℕ) → Down before f (length before) before
down_start before f = record { long = refl; within = omega arith; below = λ j l. refl; from = λ j l m. absurd (omega arith) }

down_next : {before : List ℕ} {f : ℕ → ℕ} {t : ℕ} {xs : List ℕ} {v : ℕ} → 0 < t → Down before f t xs → v ≡ f (t - 1) → Down before f (t - 1) (set xs (t - 1) v)
down_next {before} {f} {t} {xs} {v} l d e = record {
  long = length-set xs (t - 1) v ∙ d.long;
  within = omega (arith, d.within);
  below = λ j m. get_or-set_other xs (t - 1) j v 0 (λ z. omega arith) ∙ d.below j (omega arith);
  from = λ j m n. go j m n (ℕ_discrete j (t - 1));
}
  where
    go : (j : ℕ) → t - 1 ≤ j → j < length before → Dec (j ≡ t - 1) → get_or (set xs (t - 1) v) j 0 ≡ f j
    go j m n (yes z) = rw z (get_or-set_same xs (t - 1) v 0 (omega (arith, d.long, d.within)) ∙ e)
    go j m n (no z) = get_or-set_other xs (t - 1) j v 0 z ∙ d.from j (omega arith) n

down_end : {before : List ℕ} {f : ℕ → ℕ} {t : ℕ} {xs : List ℕ} → t ≡ 0 → Down before f t xs → xs ≡ listed 0 (length before) f
down_end {before} {f} {t} {xs} z d = is-listed xs (length before) f d.long (λ i l. d.from i (omega arith) l)

-- the walk over a tally has come down to t: the band reached, C, and the students left over
pub record Walked (table : List ℕ) (Y : ℕ) (tally : List ℕ) (t : ℕ) (counts : List ℕ) (k s room c left : ℕ) : Type 0 where
  pub down : Down tally (λ t. band_of table Y (get_or (sums_from tally) t 0)) t counts
  pub at : SearchAt table Y c k s room
  pub c_is : c ≡ get_or (sums_from tally) t 0
  pub left-at : left + sum t (left_at table Y (sums_from tally)) ≡ sum (length tally) (left_at table Y (sums_from tally))
  pub few : left ≤ c

pub walk_start : {table : List ℕ} {Y : ℕ} (tally : List ℕ) {k s room : ℕ} → Sized table → Y ≤ most_population → k ≡ top_band → Stands table Y k s room
    → Walked table Y tally (length tally) tally k s room 0 0
walk_start tally z y e f = record {
  down = down_start tally _;
  at = search_top z y e f;
  c_is = omega (arith, sums_at tally (length tally), sum_of-end tally (length tally) (omega arith));
  left-at = omega arith;
  few = omega arith;
}

module _ {table : List ℕ} {Y : ℕ} {tally : List ℕ} {t : ℕ} {counts : List ℕ} {k s room c left : ℕ} (w : Walked table Y tally t counts k s room c left) where
  module _ (l : 0 < t) where
    -- C with the students here
    c_next : c + get_or counts (t - 1) 0 ≡ get_or (sums_from tally) (t - 1) 0
    c_next = omega (arith, w.c_is, w.down.below (t - 1) (omega arith), sums_back tally t l w.down.within)

    pub c_most : c + get_or counts (t - 1) 0 ≤ sum_of tally
    c_most = omega (arith, c_next, sums_most tally (t - 1))

    pub walk_from : SearchAt table Y (c + get_or counts (t - 1) 0) k s room
    walk_from = search_for w.at (c + get_or counts (t - 1) 0) (omega arith)

    pub walk_next : {band s' room' r : ℕ} → Reaches table Y (c + get_or counts (t - 1) 0) band s' room'
        → r ≡ pick (leb (one_place * (c + get_or counts (t - 1) 0)) room') 0 (get_or counts (t - 1) 0)
        → Walked table Y tally (t - 1) (set counts (t - 1) band) band s' room' (c + get_or counts (t - 1) 0) (left + r)
    walk_next {band} {s'} {room'} {r} h e = record {
      down = down_next l w.down (h.band_is ∙ ap (band_of table Y) c_next);
      at = search_on h w.at.sized w.at.people;
      c_is = c_next;
      left-at = omega (arith, here, sum_back t (left_at table Y (sums_from tally)) l, w.left-at);
      few = omega (arith, w.few, (left_is h (get_or counts (t - 1) 0) r e).1);
    }
      where
        next : t - 1 + 1 ≡ t
        next = omega arith

        gone : c + get_or counts (t - 1) 0 - c ≡ get_or counts (t - 1) 0
        gone = omega arith

        here : r ≡ left_at table Y (sums_from tally) (t - 1)
        here = rw (next, ← c_next, ← w.c_is, gone) (left_is h (get_or counts (t - 1) 0) r e).0

  pub walk_end : t ≡ 0 → (left ≡ remainder_by table Y (sums_from tally)) × (counts ≡ bands_by table Y (sums_from tally))
  unfolding remainder_by bands_by
  walk_end z =
      rw (sums_long tally)
      (omega (arith, w.left-at, sum-none (left_at table Y (sums_from tally)), rw z at w.left-at), down_end z w.down)

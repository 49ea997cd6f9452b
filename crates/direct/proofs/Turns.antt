-- What a turn of the direct count's loop adds.
use Prim.Native.Nat.{ℕ, ◌+◌, ◌*◌, ◌≤◌, ◌<◌}
use native.Mathlib.Omega.{arith}
use mathlib.Core.Path.{◌≡◌, sym, ap, ◌∙◌}
use mathlib.Core.List.{List}
use lib.ListN.{length, get_or, set}
use lib.Dec.{leb}
use Rattle.paper.specs.Lists.{pick, count}
use Rattle.paper.proofs.Filling.{Filled, none_filled, next_filled, all_filled}
use Rattle.paper.proofs.Listing.{count_none, count-step}
use Rattle.tally.specs.Counts.{at_least}
use Rattle.tally.specs.Places.{one_place, band_of}
use Rattle.tally.specs.InnerSearch.{Reaches}
use Rattle.tally.proofs.Reaching.{left_is}
use Rattle.placements.specs.Placing.{left_over, remainder}
use Rattle.placements.specs.Bands.{bands_of}

-- the first i students are placed, and those left over are counted
pub record Each (aggregates table : List ℕ) (Y i : ℕ) (bands : List ℕ) (left : ℕ) : Type 0 where
  pub filled : Filled (length aggregates) (λ j. band_of table Y (at_least aggregates (get_or aggregates j 0))) i bands
  pub left-at : left ≡ count i (left_over aggregates table Y)
  pub few : left ≤ i

pub each_start : (aggregates table : List ℕ) (Y : ℕ) (bands : List ℕ) → length bands ≡ length aggregates → Each aggregates table Y 0 bands 0
each_start aggregates table Y bands e =
    record { filled = none_filled _ _ bands e; left-at = sym (count_none (left_over aggregates table Y)); few = omega arith }

module _ {aggregates table : List ℕ} {Y i : ℕ} {bands : List ℕ} {left : ℕ} (w : Each aggregates table Y i bands left) where
  pub each_next : i < length aggregates → {c band sum room r : ℕ} → c ≡ at_least aggregates (get_or aggregates i 0) → Reaches table Y c band sum room
      → r ≡ pick (leb (one_place * c) room) 0 1 → Each aggregates table Y (i + 1) (set bands i band) (left + r)
  each_next l {c} {band} {sum} {room} {r} e h q = record {
    filled = next_filled band w.filled l (h.band_is ∙ ap (band_of table Y) e);
    left-at = omega (arith, w.left-at, here.0, count-step i (left_over aggregates table Y));
    few = omega (arith, w.few, here.1);
  }
    where
      here : (r ≡ pick (left_over aggregates table Y i) 1 0) × (r ≤ 1)
      here = rw e at (left_is h 1 r q)

  pub each-end : length aggregates ≤ i → (left ≡ remainder aggregates table Y) × (bands ≡ bands_of aggregates table Y)
  unfolding remainder bands_of
  each-end l =
      let e : i ≡ length aggregates = omega (arith, w.filled.within) in
      (rw e at w.left-at, all_filled w.filled l)

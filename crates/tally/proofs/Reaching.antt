-- Laws of places, of the highest band that fits, and of the search for it.
use Prim.Native.Nat.{ℕ, zero, suc, ◌+◌, ◌-◌, ◌*◌, ◌≤◌, ◌<◌}
use native.Mathlib.Nat.{mul-le-mul_left, le_refl, le_of_suc-le-suc, eq-or-lt_of_le}
use native.Mathlib.Omega.{arith}
use native.Mathlib.Decide.{dec_le, dec_lt}
use mathlib.Core.Path.{◌≡◌, refl, ap, subst, ◌∙◌}
use mathlib.Core.Bool.{Bool, true, false}
use mathlib.Core.Logic.{⊎_elim}
use mathlib.Core.List.{List}
use lib.ListN.{get_or}
use lib.Dec.{leb, ltb}
use borrow.Author.Tests.{leb-true, leb-false, le-ltb, lt-ltb}
use Rattle.paper.specs.Limits.{most_population, top_band, band_count, most_entry}
use Rattle.paper.specs.Lists.{pick}
use Rattle.paper.proofs.Listing.{sum_of-end, sum_of-step, sum_of-back, sum_of-falls, sum_of-most}
use Rattle.tally.specs.Places.{one_place, F, places, Fits, band_up_to, band_of}
use Rattle.tally.specs.Inner.{Sized}
use Rattle.tally.specs.InnerSearch.{Stands, SearchAt, Reaches}

pub places-falls : (table : List ℕ) (Y j k : ℕ) → j ≤ k → places table Y k ≤ places table Y j
unfolding places
places-falls table Y j k h = mul-le-mul_left Y (sum_of-falls table j k h)

-- of the bands up to top, r is the highest that c students fit, or 0 where they fit none
pub record Highest (table : List ℕ) (Y c top r : ℕ) : Type 0 where
  pub within : r ≤ top
  pub fit : 1 ≤ r → Fits table Y r c
  pub none : (k : ℕ) → r < k → k ≤ top → Fits table Y k c → ⊥

pub up_to-highest : (table : List ℕ) (Y c k : ℕ) → Highest table Y c k (band_up_to table Y c k)
unfolding band_up_to
up_to-highest table Y c zero = record { within = omega arith; fit = λ h. omega arith; none = λ k l h. omega arith }
up_to-highest table Y c (suc k) = go (leb (one_place * c) (places table Y (suc k))) refl (up_to-highest table Y c k)
  where
    above : Fits table Y (suc k) c → leb (one_place * c) (places table Y (suc k)) ≡ false → ⊥
    above f e = omega (arith, leb-false)

    go : (b : Bool) → leb (one_place * c) (places table Y (suc k)) ≡ b → Highest table Y c k (band_up_to table Y c k) → Highest table Y c (suc k) (pick b (suc k) (band_up_to table Y c k))
    go true e w = record { within = le_refl _; fit = λ _. leb-true _ _ e; none = λ j l h. omega arith }
    go false e w = record { within = omega arith; fit = w.fit; none = λ j l h f. ⊎_elim (λ q. above (subst (λ (m : ℕ). Fits table Y m c) q f) e) (λ q. w.none j l (le_of_suc-le-suc q) f) (eq-or-lt_of_le h) }

pub band-highest : (table : List ℕ) (Y c : ℕ) → Highest table Y c top_band (band_of table Y c)
band-highest table Y c = up_to-highest table Y c top_band

-- there is one such band
pub highest_once : (table : List ℕ) (Y c top r s : ℕ) → Highest table Y c top r → Highest table Y c top s → r ≡ s
highest_once table Y c top r s a b = go (dec_lt r s) (dec_lt s r)
  where
    go : Dec (r < s) → Dec (s < r) → r ≡ s
    go (yes l) m = absurd (a.none s l b.within (b.fit (omega arith)))
    go (no l) (yes m) = absurd (b.none r m a.within (a.fit (omega arith)))
    go (no l) (no m) = omega arith

-- c students who do not fit band 1 are in band 0
pub none-fit : (table : List ℕ) (Y c : ℕ) → places table Y 1 < one_place * c → band_of table Y c ≡ 0
none-fit table Y c h = go (dec_le 1 (band_of table Y c))
  where
    go : Dec (1 ≤ band_of table Y c) → band_of table Y c ≡ 0
    go (yes d) = absurd (omega (arith, (band-highest table Y c).fit d, places-falls table Y 1 (band_of table Y c) d))
    go (no d) = omega arith

-- a band stands with the sum from it on and the places of that sum
standing : {table : List ℕ} {Y k sum room : ℕ} → k ≤ top_band → sum ≡ F table k → room ≡ Y * sum → Stands table Y k sum room
unfolding places
standing {Y = Y} l e f = record { within = l; sum_is = e; room_is = f ∙ ap (◌*◌ Y) e }

-- at the top band the sum is its entry
pub top_stands : {table : List ℕ} {Y sum room : ℕ} → Sized table → sum ≡ get_or table top_band 0 → room ≡ Y * sum → Stands table Y top_band sum room
top_stands {table} s e f = standing (omega arith) (omega (arith, sum_of-step table top_band (omega arith), sum_of-end table band_count (omega arith))) f

pub search_top : {table : List ℕ} {Y c k sum room : ℕ} → Sized table → Y ≤ most_population → k ≡ top_band → Stands table Y k sum room → SearchAt table Y c k sum room
search_top s y e h = record { sized = s; people = y; stands = h; none_above = λ j a b g. omega arith }

module _ {table : List ℕ} {Y c k sum room : ℕ} (at : SearchAt table Y c k sum room) where
  -- it can go on for no fewer students
  pub search_for : (d : ℕ) → c ≤ d → SearchAt table Y d k sum room
  search_for d l = record { sized = at.sized; people = at.people; stands = at.stands; none_above = λ j a b f. at.none_above j a b (omega arith) }

  -- its places are those of the sum, which is not too large
  pub search_sum : SearchAt table Y c k sum (Y * sum)
  search_sum = record { sized = at.sized; people = at.people; stands = standing at.stands.within at.stands.sum_is refl; none_above = at.none_above }

  pub sum-most : sum ≤ band_count * most_entry
  sum-most = omega (arith, at.stands.sum_is, sum_of-falls table 0 k (omega arith), sum_of-most table most_entry at.sized.each, at.sized.long)

  -- a band that doesn't fit is left for the next below
  pub search_down : 1 ≤ k → leb (one_place * c) room ≡ false → {entry : ℕ} → entry ≡ get_or table (k - 1) 0 → SearchAt table Y c (k - 1) (sum + entry) (Y * (sum + entry))
  search_down l e {entry} g = record {
    sized = at.sized;
    people = at.people;
    stands = standing (omega (arith, at.stands.within)) (omega (arith, sum_of-back table k l (omega (arith, at.stands.within, at.sized.long)), at.stands.sum_is)) refl;
    none_above = λ j a b f. go j a b f (dec_lt k j);
  }
    where
      go : (j : ℕ) → k - 1 < j → j ≤ top_band → Fits table Y j c → Dec (k < j) → ⊥
      go j a b f (yes d) = at.none_above j d b f
      go j a b f (no d) =
          let n : j ≡ k = omega arith in
          omega (arith, rw n at f, leb-false (one_place * c) room e, at.stands.room_is)

  here : Highest table Y c top_band k → Reaches table Y c k sum room
  here h = record { band_is = highest_once table Y c top_band k (band_of table Y c) h (band-highest table Y c); stands = at.stands }

  -- the search ends at band 0, or at the band that fits
  pub search_bottom : k ≡ 0 → Reaches table Y c 0 sum room
  search_bottom e = rw e at (here (record { within = at.stands.within; fit = λ l. absurd (omega arith); none = at.none_above }))

  pub search_fits : leb (one_place * c) room ≡ true → Reaches table Y c k sum room
  search_fits e = here (record { within = at.stands.within; fit = λ l. omega (arith, leb-true (one_place * c) room e, at.stands.room_is); none = at.none_above })

module _ {table : List ℕ} {Y c band sum room : ℕ} (w : Reaches table Y c band sum room) where
  highest_here : Highest table Y c top_band band
  highest_here = rw w.band_is (band-highest table Y c)

  -- the search stands at the band reached
  pub search_on : Sized table → Y ≤ most_population → SearchAt table Y c band sum room
  search_on s y = record { sized = s; people = y; stands = w.stands; none_above = highest_here.none }

  -- what doesn't fit the band reached doesn't fit band 0
  pub left_is : (n r : ℕ) → r ≡ pick (leb (one_place * c) room) 0 n → (r ≡ pick (ltb (places table Y 0) (one_place * c)) n 0) × (r ≤ n)
  left_is n r q = go (leb (one_place * c) room) refl q
    where
      go : (b : Bool) → leb (one_place * c) room ≡ b → r ≡ pick b 0 n → (r ≡ pick (ltb (places table Y 0) (one_place * c)) n 0) × (r ≤ n)
      go true e q =
          rw (le-ltb (places table Y 0) (one_place * c) (omega (arith, leb-true (one_place * c) room e, w.stands.room_is, places-falls table Y 0 band (omega arith))))
          (q, omega arith)
      go false e q = bottom (dec_le 1 band)
        where
          short : places table Y band < one_place * c
          short = omega (arith, leb-false (one_place * c) room e, w.stands.room_is)

          bottom : Dec (1 ≤ band) → (r ≡ pick (ltb (places table Y 0) (one_place * c)) n 0) × (r ≤ n)
          bottom (yes l) = absurd (omega (arith, highest_here.fit l, short))
          bottom (no l) = let z : band ≡ 0 = omega arith in rw (lt-ltb (places table Y 0) (one_place * c) (rw z at short)) (q, omega arith)

-- The best placement: there is one, it gives each student the highest band that C fits, and lower students don't change it.
use Prim.Native.Nat.{ℕ, zero, suc, ◌*◌, ◌≤◌, ◌<◌}
use native.Mathlib.Nat.{le_refl, le_of_suc-le-suc, eq-or-lt_of_le}
use native.Mathlib.Omega.{arith}
use native.Mathlib.Decide.{dec_le}
use mathlib.Core.Path.{◌≡◌, sym, ap, subst, ◌∙◌}
use mathlib.Core.Logic.{◌⊎◌, inl, inr, ⊎_elim}
use mathlib.Core.List.{List}
use lib.ListN.{length, get_or}
use lib.Seq.{ext_get_or}
use Rattle.paper.specs.Limits.{top_band, band_count}
use Rattle.paper.specs.Lists.{sum, count}
use Rattle.paper.proofs.Listing.{sum_same, count-all, length-listed, at-list}
use Rattle.tally.specs.Counts.{at_least, number_at}
use Rattle.tally.specs.Places.{Fits, band_of}
use Rattle.tally.proofs.Counting.{at-le, at-falls, at_none, same_at, gathered}
use Rattle.tally.proofs.Reaching.{places-falls, Highest, band-highest}
use Rattle.placements.specs.Placing.{Keeps, BestPlacement}
use Rattle.placements.specs.Bands.{bands_of}

-- what holds below n and at n holds below suc n
upto : (P : ℕ → Type 0) (n : ℕ) → ((i : ℕ) → i < n → P i) → P n → (i : ℕ) → i < suc n → P i
upto P n all here i l = ⊎_elim (λ e. subst P (sym e) here) (λ h. all i h) (eq-or-lt_of_le (le_of_suc-le-suc l))

-- among the students below n at band k and higher, one with the lowest aggregate
record Lowest (bands aggregates : List ℕ) (k n s : ℕ) : Type 0 where
  pub here : s < n
  pub high : k ≤ get_or bands s 0
  pub low : (i : ℕ) → i < n → k ≤ get_or bands i 0 → get_or aggregates s 0 ≤ get_or aggregates i 0

-- there is one, if any student below n is at band k and higher
abbrev Some : List ℕ → List ℕ → ℕ → ℕ → Type 0
Some bands aggregates k n = ((i : ℕ) → i < n → k ≤ get_or bands i 0 → ⊥) ⊎ ((s : ℕ) × Lowest bands aggregates k n s)

lowest : (bands aggregates : List ℕ) (k n : ℕ) → Some bands aggregates k n
lowest bands aggregates k zero = inl (λ i l h. omega arith)
lowest bands aggregates k (suc n) = go (lowest bands aggregates k n) (dec_le k (get_or bands n 0))
  where
    pair : (s : ℕ) → Lowest bands aggregates k n s → k ≤ get_or bands n 0 → Dec (get_or aggregates s 0 ≤ get_or aggregates n 0) → (s : ℕ) × Lowest bands aggregates k (suc n) s
    pair s w h (yes d) = (s, record { here = omega arith; high = w.high; low = upto _ n w.low (λ _. d) })
    pair s w h (no d) = (n, record { here = omega arith; high = h; low = upto _ n (λ i l g. omega (arith, w.low i l g)) (λ _. le_refl _) })

    go : Some bands aggregates k n → Dec (k ≤ get_or bands n 0) → Some bands aggregates k (suc n)
    go (inl a) (no b) = inl (upto _ n a b)
    go (inl a) (yes b) = inr (n, record { here = omega arith; high = b; low = upto _ n (λ i l g. absurd (a i l g)) (λ _. le_refl _) })
    go (inr w) (no b) = inr (w.0, record { here = omega (arith, w.1.here); high = w.1.high; low = upto _ n w.1.low (λ g. absurd (b g)) })
    go (inr w) (yes b) = inr (pair w.0 w.1 b (dec_le (get_or aggregates w.0 0) (get_or aggregates n 0)))

-- a placement in which each student has the highest band that C fits
module _ (aggregates table : List ℕ) (Y : ℕ) (bands : List ℕ) (e : length bands ≡ length aggregates)
    (hi : (i : ℕ) → i < length aggregates → Highest table Y (at_least aggregates (get_or aggregates i 0)) top_band (get_or bands i 0)) where
  up : (i j : ℕ) → i < length aggregates → j < length aggregates → get_or aggregates i 0 ≤ get_or aggregates j 0 → get_or bands i 0 ≤ get_or bands j 0
  up i j li lj h = go (dec_le (get_or bands i 0) (get_or bands j 0))
    where
      go : Dec (get_or bands i 0 ≤ get_or bands j 0) → get_or bands i 0 ≤ get_or bands j 0
      go (yes d) = d
      go (no d) =
          let m = at-falls aggregates (get_or aggregates i 0) (get_or aggregates j 0) h in
          let f = (hi i li).fit (omega arith) in
          absurd ((hi j lj).none (get_or bands i 0) (omega arith) (hi i li).within (omega arith))

  room : (k : ℕ) → 1 ≤ k → k ≤ top_band → Fits table Y k (at_least bands k)
  room k h l = go (lowest bands aggregates k (length aggregates))
    where
      go : Some bands aggregates k (length aggregates) → Fits table Y k (at_least bands k)
      go (inl none) = omega (arith, at_none bands k (λ i m. below i m (dec_le k (get_or bands i 0))))
        where
          below : (i : ℕ) → i < length bands → Dec (k ≤ get_or bands i 0) → get_or bands i 0 < k
          below i m (yes d) = absurd (none i (omega arith) d)
          below i m (no d) = omega arith
      go (inr (s, w)) =
          let m = at-le bands aggregates k (get_or aggregates s 0) e (λ i m g. w.low i (omega arith) g) in
          let f = (hi s w.here).fit (omega (arith, w.high)) in
          omega (arith, places-falls table Y k (get_or bands s 0) w.high)

  highest_keeps : Keeps aggregates table Y bands
  highest_keeps = record {
    long = e;
    within = λ i l. (hi i l).within;
    order = λ i j li lj h. omega (arith, up i j li lj (omega arith));
    ties = λ i j li lj h. omega (arith, up i j li lj (omega arith), up j i lj li (omega arith));
    room = λ k h l. room k (omega arith) l;
  }

  under : (others : List ℕ) → Keeps aggregates table Y others → (i : ℕ) → i < length aggregates → get_or others i 0 ≤ get_or bands i 0
  under others w i l = go (dec_le (get_or others i 0) (get_or bands i 0))
    where
      same-or_up : (j : ℕ) → j < length aggregates → get_or aggregates i 0 ≤ get_or aggregates j 0 → get_or others i 0 ≤ get_or others j 0
      same-or_up j m h = ⊎_elim (λ g. omega (arith, w.ties i j l m g)) (λ g. omega (arith, w.order i j l m g)) (eq-or-lt_of_le h)

      go : Dec (get_or others i 0 ≤ get_or bands i 0) → get_or others i 0 ≤ get_or bands i 0
      go (yes d) = d
      go (no d) =
          let m = at-le aggregates others (get_or aggregates i 0) (get_or others i 0) (sym w.long) same-or_up in
          let r = w.room (get_or others i 0) (omega arith) (w.within i l) in
          absurd ((hi i l).none (get_or others i 0) (omega arith) (w.within i l) (omega arith))

  highest_best : BestPlacement aggregates table Y bands
  highest_best = record { keeps = highest_keeps; best = under }

-- the band of each student, computed
bands-at : (aggregates table : List ℕ) (Y i : ℕ) → i < length aggregates → get_or (bands_of aggregates table Y) i 0 ≡ band_of table Y (at_least aggregates (get_or aggregates i 0))
unfolding bands_of
bands-at aggregates table Y i l =
    at-list (length aggregates) (λ i. band_of table Y (at_least aggregates (get_or aggregates i 0))) i l

-- there is a best placement: the computed one
pub best-exists : (aggregates table : List ℕ) (Y : ℕ) → BestPlacement aggregates table Y (bands_of aggregates table Y)
unfolding bands_of
best-exists aggregates table Y =
    highest_best aggregates table Y (bands_of aggregates table Y) (length-listed 0 (length aggregates) _)
    (λ i l. rw (bands-at aggregates table Y i l) (band-highest table Y (at_least aggregates (get_or aggregates i 0))))

-- and it is one
pub best-once : (aggregates table : List ℕ) (Y : ℕ) (bands others : List ℕ) → BestPlacement aggregates table Y bands → BestPlacement aggregates table Y others → bands ≡ others
best-once aggregates table Y bands others a b =
    ext_get_or 0 bands others (a.keeps.long ∙ sym b.keeps.long)
    (λ i l. let m : i < length aggregates = omega (arith, a.keeps.long) in omega (arith, a.best others b.keeps i m, b.best bands a.keeps i m))

-- in it each student's band is the highest that C fits
pub best-band : (aggregates table : List ℕ) (Y : ℕ) (bands : List ℕ) → BestPlacement aggregates table Y bands
    → (i : ℕ) → i < length aggregates → get_or bands i 0 ≡ band_of table Y (at_least aggregates (get_or aggregates i 0))
best-band aggregates table Y bands b i l =
    ap (λ (p : List ℕ). get_or p i 0) (best-once aggregates table Y bands (bands_of aggregates table Y) b (best-exists aggregates table Y))
    ∙ bands-at aggregates table Y i l

-- with table and Y kept, a student's band stays where the students at and above agree in number for each aggregate
pub best-stable : (xs ys table : List ℕ) (Y : ℕ) (bands others : List ℕ) → BestPlacement xs table Y bands → BestPlacement ys table Y others
    → (i j : ℕ) → i < length xs → j < length ys → get_or xs i 0 ≡ get_or ys j 0
    → ((x : ℕ) → get_or xs i 0 ≤ x → number_at xs x ≡ number_at ys x) → get_or bands i 0 ≡ get_or others j 0
best-stable xs ys table Y bands others a b i j li lj e same =
    best-band xs table Y bands a i li
    ∙ ap (band_of table Y) (same_at xs ys (get_or xs i 0) same ∙ ap (at_least ys) e)
    ∙ sym (best-band ys table Y others b j lj)

-- every student is in one band, and the band totals add up to the cohort
pub keeps-totals : (aggregates table : List ℕ) (Y : ℕ) (bands : List ℕ) → Keeps aggregates table Y bands → sum band_count (number_at bands) ≡ length aggregates
unfolding number_at sum count
keeps-totals aggregates table Y bands w =
    sum_same band_count (number_at bands) (λ k. number_at bands k * 1) (λ k l. omega arith)
    ∙ gathered band_count (length bands) (λ i. get_or bands i 0) (λ k. 1) (λ i l. omega (arith, w.long, w.within i (omega (arith, w.long))))
    ∙ count-all (length bands)
    ∙ w.long

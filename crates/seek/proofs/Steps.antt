-- The steps of the search, over any scores and any clashes. The search goes down in the keys of the sets.
use Prim.Native.Nat.{ℕ, suc, ◌+◌, ◌-◌, ◌*◌, ◌/◌, ◌%◌, ◌^◌, ◌≤◌, ◌<◌}
use native.Mathlib.Nat.{mod-lt, le_refl}
use native.Mathlib.Decide.{dec_le}
use native.Mathlib.Numerals.{add-one}
use native.Mathlib.Omega.{arith}
use mathlib.Core.Path.{◌≡◌, sym, ap, ap₂, ◌∙◌, subst}
use mathlib.Core.Logic.{◌⊎◌, inl, inr, ⊎_elim}
use mathlib.Core.Bool.{false}
use lib.ListN.{length}
use lib.Pow.{pow_pos, pow_mono, split, shr_lt}
use lib.Bits.{bit_or, bit_xor, or_shifted_r, xor_block, xor_zero_r}
use lib.Count.{ones, ones-ones, ones_cat, ones-le}
use mathlib.Core.List.{List}
use Rattle.paper.specs.Limits.{members, most_results, top_score}
use Rattle.seek.specs.Sets.{bit, In, positions, comes_to}
use Rattle.seek.specs.InnerTest.{value_at, Counted, Allowed, Joins, MayJoin, Beats, Answers}
use Rattle.seek.specs.InnerSearch.{Sought, key, room, From, Tried, Before, Fits, Stands, with_result, Bettered}
use Rattle.seek.specs.declared.search.Test.{Test}
use Rattle.seek.specs.declared.search.Lead.{Lead}
use Rattle.std.proofs.Common.{Option, Some, None}
use Rattle.seek.proofs.Digits.{high_bit, no_high, all_below, in_lt, in_none, in_joined, low_bit, top_bit, one_shl, comes_most, comes_join, comes_none}
use Rattle.seek.proofs.Order.{key-lt, key-zero, key-join, key-within, earlier, grown}
use Rattle.seek.proofs.Meets.{length-set}
use Rattle.seek.proofs.Tops.{answers_iff, answers_more, answers_same}

-- ---- the allowed sets

-- a set that leads, with its total
abbrev leading : ℕ → ℕ → Option Lead
leading total set = Some (record { total = total; set = set })

-- what the search asks: at most so many results are held, and the kept ones are among them
pub record Among (mask held : ℕ) : Type 0 where
  pub few : held ≤ most_results
  pub among : (i : ℕ) → In i mask → i < held

pub held_in_lem : {mask held : ℕ} {scores : List ℕ} → Sought mask scores held → Among mask held
held_in_lem w = record { few = w.few; among = w.among }

-- ---- the sets whose key is at least m

under : (m n : ℕ) → (m ≤ n) ⊎ (n < m)
under m n = go (dec_le m n)
  where
    go : Dec (m ≤ n) → (m ≤ n) ⊎ (n < m)
    go (yes h) = inl h
    go (no h) = inr (omega arith)

module _ (Adm : ℕ → Type 0) (score : ℕ → ℕ) where
  -- at first no set has been tried
  tried-none : (m : ℕ) → 2 ^ most_results ≤ m → Tried Adm score m None
  tried-none m h t d = let k = key-lt most_results t in omega arith

  -- sets are passed of which none is admissible
  tried-lower : (m n : ℕ) (b : Option Lead) → n ≤ m → ((t : ℕ) → n ≤ key most_results t → key most_results t < m → Adm t → ⊥) → Tried Adm score m b → Tried Adm score n b
  tried-lower m n b h w =
      answers_iff (From Adm m) (From Adm n) score (λ t d. (omega arith, d.1))
      (λ t d. ⊎_elim (λ (q : m ≤ key most_results t). (q, d.1)) (λ (q : key most_results t < m). absurd (w t d.0 q d.1)) (under m (key most_results t))) b

  -- a set is tried
  module _ (m s : ℕ) (l : key most_results s < m) (w : (t : ℕ) → key most_results s ≤ key most_results t → key most_results t < m → Adm t → t ≡ s) where
    one_more : (t : ℕ) → From Adm (key most_results s) t → From Adm m t ⊎ (t ≡ s)
    one_more t d = ⊎_elim (λ (q : m ≤ key most_results t). inl (q, d.1)) (λ (q : key most_results t < m). inr (w t d.0 q d.1)) (under m (key most_results t))

    tried-beats : Adm s → (b : Option Lead) → Beats b (comes_to score s) → Tried Adm score m b → Tried Adm score (key most_results s) (leading (comes_to score s) s)
    tried-beats ok = answers_more (From Adm m) (From Adm (key most_results s)) score s one_more (le_refl (key most_results s), ok)

    tried-keeps : ((t : ℕ) → Adm t → length (positions t) ≡ members)
        → (b : Option Lead) → (Beats b (comes_to score s) → ⊥) → Tried Adm score m b → Tried Adm score (key most_results s) b
    tried-keeps five =
        answers_same (From Adm m) (From Adm (key most_results s)) score s one_more (λ t d. (omega arith, d.1))
        (λ y t c d e.
        let k = ap (key most_results) e in
        let g = c.0 in
        earlier most_results 0 y t (five y c.1 ∙ sym (five t d.1)) (omega arith))

  -- at last every set has been tried
  tried-all : (b : Option Lead) → Tried Adm score 0 b → Answers Adm score b
  tried-all = answers_iff (From Adm 0) Adm score (λ t d. d.1) (λ t d. (omega arith, d))

-- ---- where the search stands

pub left : ℕ → ℕ → ℕ
left at set = room at set * 32 + (most_results - at)

room-start : 2 ^ most_results ≤ room 0 0
unfolding room
room-start = let k = key-zero most_results in omega arith

room-more : (at set : ℕ) → key most_results set < room at set
unfolding room
room-more at set = let p = pow_pos (most_results - at) in omega arith

half_room : (at : ℕ) → at < most_results → 2 ^ (most_results - at) ≡ 2 ^ (most_results - suc at) + 2 ^ (most_results - suc at)
half_room at h =
    let e : 2 ^ (most_results - at) ≡ 2 ^ suc (most_results - suc at) = ap (λ (n : ℕ). 2 ^ n) (omega arith) in
    omega arith

pub next : (at set : ℕ) → at < most_results → set < 2 ^ at → bit_or set (1 * 2 ^ at % 65536) ≡ 1 * 2 ^ at + set
next at set h l =
    let o : 2 ^ at ≡ 1 * 2 ^ at = omega arith in
    ap (bit_or set) (one_shl at h ∙ o) ∙ or_shifted_r 1 at set l

ones-next : (at set : ℕ) → set < 2 ^ at → ones (1 * 2 ^ at + set) ≡ ones set + 1
ones-next at set l = let c = ones_cat at 1 set l in let o = ones-ones 1 in omega arith

-- the key of a set that a result joined
key-next : (at set : ℕ) → at < most_results → set < 2 ^ at → key most_results (1 * 2 ^ at + set) ≡ room (suc at) set
unfolding room
key-next at set h l =
    let o : 1 * 2 ^ at + set ≡ 2 ^ at + set = omega arith in
    ap (key most_results) o ∙ key-join at most_results set h l

-- every set of the keys that go on from a set with a result has that result
goes_on : (at set t : ℕ) → at < most_results → set < 2 ^ at → key most_results set + 2 ^ (most_results - suc at) ≤ key most_results t → key most_results t < key most_results set + 2 ^ (most_results - at) → In at t
goes_on at set t h l p q =
    let k = key-join at most_results set h l in
    let e = half_room at h in
    let m : t % 2 ^ suc at ≡ 2 ^ at + set = key-within (suc at) most_results (2 ^ at + set) t h (omega arith) (omega arith) (omega arith) in
    let b : bit at t ≡ bit at (t % 2 ^ suc at) =
    ap (bit at) (sym (split t (suc at))) ∙ low_bit at (suc at) (t / 2 ^ suc at) (t % 2 ^ suc at) (omega arith)
    in
    let o : 2 ^ at + set ≡ 1 * 2 ^ at + set = omega arith in
    b ∙ ap (bit at) (m ∙ o) ∙ top_bit at 1 set l

-- and every member of the set
still_in : (at set t j : ℕ) → set < 2 ^ at → t % 2 ^ at ≡ set → In j set → In j t
still_in at set t j l e m =
    ap (bit j) (sym (split t at)) ∙ low_bit j at (t / 2 ^ at) (t % 2 ^ at) (in_lt at set j l m) ∙ ap (bit j) e ∙ m

-- a place after one more result, which is passed over, or joins
pass_at : {held at set : ℕ} → at < held → Before held at set → Before held (suc at) set
pass_at h a = let l = a.small in record { low = h; small = omega arith }

join_at : {held at set : ℕ} → at < held → Before held at set → Before held (suc at) (1 * 2 ^ at + set)
join_at h a = let l = a.small in record { low = h; small = omega arith }

-- members and a result that joins them
fits_more : {mask : ℕ} {clash : ℕ → ℕ} {at set : ℕ} → set < 2 ^ at → Fits mask clash set → Joins mask clash set at → Fits mask clash (1 * 2 ^ at + set)
fits_more {mask = mask} {clash = clash} {at = at} {set = set} l a b =
    record {
      kept = λ i p. ⊎_elim (λ (e : i ≡ at). subst (λ (n : ℕ). In n mask) (sym e) b.kept) (a.kept i) (in_joined at set i l p);
      apart = λ i j m p q. apart-at i j m (in_joined at set i l p) (in_joined at set j l q);
    }
  where
    apart-at : (i j : ℕ) → j < i → (i ≡ at) ⊎ In i set → (j ≡ at) ⊎ In j set → In j (clash i) → ⊥
    apart-at i j m (inl e) (inl f) = absurd (omega arith)
    apart-at i j m (inl e) (inr q) = λ x. b.apart j q (subst (λ (n : ℕ). In j (clash n)) e x)
    apart-at i j m (inr p) (inl f) = absurd (omega (arith, in_lt at set i l p))
    apart-at i j m (inr p) (inr q) = a.apart i j m p q

-- ---- among the results held

module _ {mask held : ℕ} (w : Among mask held) where
  small-most : (t : ℕ) → t < 2 ^ held → t < 2 ^ most_results
  small-most t l = let m : 2 ^ held ≤ 2 ^ most_results = pow_mono w.few in omega arith

  -- the sets that go on from a set
  ahead : {at set : ℕ} → Before held at set → (t : ℕ) → key most_results set ≤ key most_results t → key most_results t < room at set → t % 2 ^ at ≡ set
  unfolding room
  ahead {at} {set} place t p q = key-within at most_results set t (let f = w.few in let l = place.low in omega arith) place.small p q

module _ (test : Test) {held : ℕ} (w : Among test.kept held) where
  below : (clash : ℕ → ℕ) (t : ℕ) → Allowed test clash t → t < 2 ^ held
  below clash t d = all_below most_results held t d.small (λ i p. w.among i (d.kept i p))

  -- a set of five is tried
  module _ (clash : ℕ → ℕ) {at set : ℕ} (place : Before held at set) (z : members ≤ ones set) where
    leaf : (t : ℕ) → key most_results set ≤ key most_results t → key most_results t < room at set → Allowed test clash t → t ≡ set
    leaf t p q d =
        let f = d.counted.five in
        let o = length-set t (small-most w t (below clash t d)) in
        grown at set t (ahead w place t p q) (omega arith)

    module _ (score : ℕ → ℕ) (best : Option Lead) (before : Tried (Allowed test clash) score (room at set) best) where
      leads : Allowed test clash set → Beats best (comes_to score set) → Tried (Allowed test clash) score (key most_results set) (leading (comes_to score set) set)
      leads ok e = tried-beats (Allowed test clash) score (room at set) set (room-more at set) leaf ok best e before

      drops : (Allowed test clash set → ⊥) → Tried (Allowed test clash) score (key most_results set) best
      drops n =
          let m = room-more at set in
          tried-lower (Allowed test clash) score (room at set) (key most_results set) best (omega arith) (λ t p q d. n (subst (Allowed test clash) (leaf t p q d) d)) before

      stays : (Beats best (comes_to score set) → ⊥) → Tried (Allowed test clash) score (key most_results set) best
      stays n = tried-keeps (Allowed test clash) score (room at set) set (room-more at set) leaf (λ t d. d.counted.five) best n before

module _ {test : Test} {clash score : ℕ → ℕ} {held : ℕ} where
  pub starts : (ones 0 ≤ 3) × Stands test clash score held (room 0 0) None 0 0 0
  starts = (
    let z = ones-ones 0 in omega arith,
    record {
      place = record { low = omega arith; small = omega arith };
      fits = record { kept = λ i p. absurd (in_none i p); apart = λ i j l p. absurd (in_none i p) };
      worth = comes_none score;
      tried = tried-none (Allowed test clash) score (room 0 0) room-start;
    },
  )

  module _ (w : Among test.kept held) where
    module _ {best : Option Lead} {at set sum : ℕ} (s : Stands test clash score held (room at set) best at set sum) where
      -- too few results are left
      pub short : ones set + held < members + at → Tried (Allowed test clash) score (key most_results set) best
      short few =
          let m = room-more at set in
          tried-lower (Allowed test clash) score (room at set) (key most_results set) best (omega arith)
          (λ t p q d.
          let l = s.place.low in
          let k : held ≡ held - at + at = omega arith in
          let e = ap (λ (n : ℕ). 2 ^ n) k in
          let b = below test w clash t d in
          let more = ones-le (held - at) (t / 2 ^ at) (shr_lt (held - at) at (omega arith)) in
          let c = ones_cat at (t / 2 ^ at) (t % 2 ^ at) (mod-lt t (pow_pos at)) in
          let whole = ap ones (split t at) in
          let low = ap ones (ahead w s.place t p q) in
          let five = d.counted.five in
          let o = length-set t (small-most w t b) in
          omega arith) s.tried

      module _ (h : at < held) where
        pub under_most : at < most_results
        under_most = let f = w.few in omega arith

        -- past result `at`
        passed : {best' : Option Lead} → Tried (Allowed test clash) score (room (suc at) set) best' → Stands test clash score held (room (at + 1) set) best' (at + 1) set sum
        passed t = rw (add-one at) (record { place = pass_at h s.place; fits = s.fits; worth = s.worth; tried = t })

        -- result `at` is passed over: no allowed set has it beside the members
        pub passes_over : MayJoin test clash set at false → Stands test clash score held (room (at + 1) set) best (at + 1) set sum
        unfolding room
        passes_over never =
            let g = half_room at under_most in
            passed
            (tried-lower (Allowed test clash) score (room at set) (room (suc at) set) best (omega arith)
            (λ t p q a. never t a (λ j m. still_in at set t j s.place.small (ahead w s.place t (omega arith) q) m) (goes_on at set t under_most s.place.small p q)) s.tried)

        -- the set with it
        abbrev whole : ℕ
        whole = 1 * 2 ^ at + set

        tried-whole : Tried (Allowed test clash) score (room (suc at) whole) best
        unfolding room
        tried-whole =
            let k = key-next at set under_most s.place.small in
            let g = half_room at under_most in
            subst (λ (m : ℕ). Tried (Allowed test clash) score m best) (omega arith) s.tried

        worth-whole : comes_to score whole ≡ sum + score at
        worth-whole =
            let t = comes_join score at set under_most s.place.small in
            let v = s.worth in
            omega arith

        -- all that go on from the set with it have been tried
        after-whole : {best' : Option Lead} → Tried (Allowed test clash) score (key most_results whole) best' → Stands test clash score held (room (at + 1) set) best' (at + 1) set sum
        after-whole {best'} t = passed (subst (λ (m : ℕ). Tried (Allowed test clash) score m best') (key-next at set under_most s.place.small) t)

        -- a fifth result is tried
        pub fifth : {best' : Option Lead} {sum' : ℕ} → sum' ≡ sum + score at → ones set ≡ 4 → Bettered test clash best set at sum' best'
            → Stands test clash score held (room (at + 1) set) best' (at + 1) set sum
        fifth {best'} {sum'} f four b = go b
          where
            come : Before held (suc at) whole
            come = join_at h s.place

            five : members ≤ ones whole
            five = omega (arith, ones-next at set s.place.small)

            worth : sum' ≡ comes_to score whole
            worth = f ∙ sym worth-whole

            whole_is : with_result set at ≡ whole
            whole_is = next at set under_most s.place.small

            allowed : Joins test.kept clash set at → Counted test.general (with_result set at) → Allowed test clash whole
            allowed j c =
                let fit = fits_more s.place.small s.fits j in
                let top : suc at ≤ most_results = under_most in
                let m : 2 ^ suc at ≤ 2 ^ most_results = pow_mono top in
                record { small = omega (arith, come.small); kept = fit.kept; counted = subst (Counted test.general) whole_is c; apart = fit.apart }

            Then : Option Lead → Type 0
            Then b = Tried (Allowed test clash) score (key most_results whole) b

            go : Bettered test clash best set at sum' best' → Stands test clash score held (room (at + 1) set) best' (at + 1) set sum
            go (inl (e, more, joins, counts)) =
                let lead : best' ≡ leading (comes_to score whole) whole = e ∙ ap₂ leading worth whole_is in
                after-whole (subst Then (sym lead) (leads test w clash come five score best tried-whole (allowed joins counts) (subst (λ (x : ℕ). Beats best x) worth more)))
            go (inr (e, x)) =
                ⊎_elim
                (λ no. after-whole (subst Then (sym e) (stays test w clash come five score best tried-whole (subst (λ (x : ℕ). Beats best x → ⊥) worth no))))
                (⊎_elim
                (λ never. subst (λ (b : Option Lead). Stands test clash score held (room (at + 1) set) b (at + 1) set sum) (sym e) (passes_over never))
                (λ none. after-whole (subst Then (sym e) (drops test w clash come five score best tried-whole (λ d. none (subst (Counted test.general) (sym whole_is) d.counted))))))
                x

        module _ (d : Joins test.kept clash set at) {set' : ℕ} (e : set' ≡ with_result set at) where
          set_is : set' ≡ whole
          set_is = e ∙ next at set under_most s.place.small

          pub more : ones set' ≡ ones set + 1
          more = ap ones set_is ∙ ones-next at set s.place.small

          -- it joins
          pub joins : {sum' : ℕ} → sum' ≡ sum + score at → Stands test clash score held (room (at + 1) set') best (at + 1) set' sum'
          joins f = rw (set_is, add-one at) (record { place = join_at h s.place; fits = fits_more s.place.small s.fits d; worth = f ∙ sym worth-whole; tried = tried-whole })

          -- all that go on from it have been tried
          pub after : {best' : Option Lead} → Tried (Allowed test clash) score (key most_results set') best' → Stands test clash score held (room (at + 1) set) best' (at + 1) set sum
          after {best'} t = after-whole (subst (λ (m : ℕ). Tried (Allowed test clash) score m best') (ap (key most_results) set_is) t)

  -- ---- back to the last member

  module _ {best : Option Lead} {at set sum : ℕ} (s : Stands test clash score held (key most_results set) best at set sum) where
    module _ (few : held ≤ most_results) (n : at ≡ 0 → ⊥) where
      at-is : at ≡ suc (at - 1)
      at-is = omega arith

      small : set < 2 ^ suc (at - 1)
      small = subst (λ (k : ℕ). set < 2 ^ k) at-is s.place.small

      before : at - 1 < most_results
      before = let l = s.place.low in omega arith

      -- back past a result that is no member
      pub back : bit (at - 1) set ≡ 0 → Stands test clash score held (key most_results set) best (at - 1) set sum
      back z =
          let l = s.place.low in
          record {
            place = record { low = omega arith; small = no_high (at - 1) set small z };
            fits = s.fits;
            worth = s.worth;
            tried = s.tried;
          }

      -- the last member leaves
      module _ (b : In (at - 1) set) where
        cut : set ≡ 1 * 2 ^ (at - 1) + set % 2 ^ (at - 1)
        cut = sym (split set (at - 1)) ∙ ap (λ (x : ℕ). x * 2 ^ (at - 1) + set % 2 ^ (at - 1)) (high_bit (at - 1) set small ∙ b)

        lower : set % 2 ^ (at - 1) < 2 ^ (at - 1)
        lower = mod-lt set (pow_pos (at - 1))

        cut-xor : bit_xor set (1 * 2 ^ (at - 1) % 65536) ≡ set % 2 ^ (at - 1)
        cut-xor =
            let o : 2 ^ (at - 1) ≡ 1 * 2 ^ (at - 1) + 0 = omega arith in
            let p = pow_pos (at - 1) in
            ap₂ bit_xor cut (one_shl (at - 1) before ∙ o) ∙ xor_block (at - 1) 1 1 (set % 2 ^ (at - 1)) 0 lower (omega arith)
            ∙ ap (λ (x : ℕ). 0 * 2 ^ (at - 1) + x) (xor_zero_r (set % 2 ^ (at - 1))) ∙ omega arith

        out-total : comes_to score set ≡ comes_to score (set % 2 ^ (at - 1)) + score (at - 1)
        out-total = ap (comes_to score) cut ∙ comes_join score (at - 1) (set % 2 ^ (at - 1)) before lower

        pub out-most : score (at - 1) ≤ sum
        out-most = let t = out-total in let w = s.worth in omega arith

        out-room : room (suc (at - 1)) (set % 2 ^ (at - 1)) ≡ key most_results set
        out-room = sym (key-next (at - 1) (set % 2 ^ (at - 1)) before lower) ∙ ap (key most_results) (sym cut)

        pub out-fewer : ones (bit_xor set (1 * 2 ^ (at - 1) % 65536)) < ones set
        out-fewer = rw cut-xor (let o = ones-next (at - 1) (set % 2 ^ (at - 1)) lower in let c = ap ones cut in omega arith)

        -- who is a member without it is one with it
        still : (i : ℕ) → In i (set % 2 ^ (at - 1)) → In i set
        still i p = ap (bit i) cut ∙ low_bit i (at - 1) 1 (set % 2 ^ (at - 1)) (in_lt (at - 1) (set % 2 ^ (at - 1)) i lower p) ∙ p

        pub out : {sum' : ℕ} → sum' ≡ sum - score (at - 1)
            → Stands test clash score held (room (at - 1 + 1) (bit_xor set (1 * 2 ^ (at - 1) % 65536))) best (at - 1 + 1) (bit_xor set (1 * 2 ^ (at - 1) % 65536)) sum'
        out f =
            let t = out-total in
            let w = s.worth in
            let l = s.place.low in
            let p = lower in
            rw (cut-xor, add-one (at - 1)) (record {
              place = record { low = omega arith; small = omega arith };
              fits = record { kept = λ i p. s.fits.kept i (still i p); apart = λ i j l p q. s.fits.apart i j l (still i p) (still j q) };
              worth = omega arith;
              tried = subst (λ (m : ℕ). Tried (Allowed test clash) score m best) (sym out-room) s.tried;
            })

        -- less is left
        pub out-less : (at₀ set₀ : ℕ) → set ≡ set₀ → left (at - 1 + 1) (bit_xor set (1 * 2 ^ (at - 1) % 65536)) < left at₀ set₀
        unfolding left
        out-less at₀ set₀ e =
            rw (cut-xor, add-one (at - 1)) (let r = out-room in let m = room-more at₀ set₀ in let k = ap (key most_results) e in omega arith)

    -- back at the first result every set has been tried
    pub finish : at ≡ 0 → Answers (Allowed test clash) score best
    finish e =
        let l : set < 2 ^ 0 = rw e at s.place.small in
        let z : set ≡ 0 = omega arith in
        let k : key most_results set ≡ 0 = ap (key most_results) z ∙ key-zero most_results in
        tried-all (Allowed test clash) score best (subst (λ (m : ℕ). Tried (Allowed test clash) score m best) k s.tried)

-- a sum and a score more fit
pub sum_fits : {test : Test} {clash : ℕ → ℕ} {held m : ℕ} {scores : List ℕ} {best : Option Lead} {at set sum : ℕ} → Sought test.kept scores held
    → Stands test clash (value_at scores) held m best at set sum → (i : ℕ) → sum + value_at scores i ≤ most_results * top_score + top_score
sum_fits {scores = scores} {set = set} w s i = omega (arith, comes_most (value_at scores) top_score w.most set, w.most i, s.worth)

-- ---- less is left as results are passed over or join

pub skip_less : (at set : ℕ) → at < most_results → left (at + 1) set < left at set
unfolding left room
skip_less at set h = let g = half_room at h in let p = pow_pos (most_results - suc at) in rw (add-one at) (omega arith)

pub join_less : (at set : ℕ) {set' : ℕ} → at < most_results → set < 2 ^ at → set' ≡ with_result set at → left (at + 1) set' < left at set
unfolding left room
join_less at set h l e =
    let k = key-next at set h l in
    let g = half_room at h in
    rw (e ∙ next at set h l, add-one at) (omega arith)

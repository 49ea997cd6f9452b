-- What a loop over pairs of results builds: the clashes of a result, and the kept ones among those passed.
use Prim.Native.Nat.{ℕ, ◌+◌, ◌<◌}
use native.Mathlib.Decide.{ℕ_discrete}
use native.Mathlib.Omega.{arith}
use mathlib.Core.Path.{◌≡◌, refl, sym, ap, subst, ◌∙◌}
use mathlib.Core.Logic.{◌⊎◌, inl, inr, ⊎_elim}
use mathlib.Core.Bool.{Bool, true, false, not, ◌&&◌, ◌||◌, true≢false, or-true}
use mathlib.Core.List.{List}
use lib.Bits.{bit_or, xor_lt, and_le_l}
use lib.Dec.{eqb}
use lib.ListN.{length, set}
use lib.Seq.{get_or-set_same, get_or-set_other}
use borrow.Author.Count.{below_more}
use borrow.Author.Tests.{ltb-true, eqb-true, eqb-false, eq-eqb}
use Rattle.paper.specs.Limits.{most_results}
use Rattle.paper.specs.Words.{◌<?◌, ◌=?◌, when◌then◌else◌}
use Rattle.paper.proofs.Booleans.{both_true, true_both, first-false}
use Rattle.paper.proofs.Firsts.{some_at, none_has, some-not}
use Rattle.seek.specs.Sets.{In, has}
use Rattle.seek.specs.InnerTest.{value_at}
use Rattle.seek.proofs.Digits.{in_lt, in_none, in_or, or_in, in_without, without_in}
use Rattle.results.specs.Results.{subject_of, year_of}
use Rattle.clashes.specs.InnerMasks.{MaskOf, marked}
use Rattle.clashes.specs.InnerPairs.{later_in, earlier_in, same_year_in, kept_among, repeated_in, far_in, shared, clash_in, across, of_sorts, by_sorts, where_in, without, HoldsBelow}
use Rattle.clashes.specs.declared.masks.Masks.{Masks}
use Rattle.clashes.proofs.Masking.{one}
use Rattle.clashes.proofs.Masking.{mask_none, mask_some}

-- ---- masks that hold a test below a number

pub holds_mask : {f : ℕ → Bool} {n mask : ℕ} → MaskOf f n mask → HoldsBelow f n mask
holds_mask h = record { sound = λ j l. h.sound j; whole = h.whole }

either : (a b : Bool) → (a || b) ≡ true → (a ≡ true) ⊎ (b ≡ true)
either true b e = inl refl
either false b e = inr e

pub holds_or : {f g : ℕ → Bool} {n a b : ℕ} → HoldsBelow f n a → HoldsBelow g n b → HoldsBelow (λ j. f j || g j) n (bit_or a b)
holds_or {f} {g} {a = a} {b = b} p q =
    record {
      sound = λ j l i. ⊎_elim (λ (x : In j a). ap (λ (t : Bool). t || g j) (p.sound j l x)) (λ (x : In j b). ap (λ (t : Bool). f j || t) (q.sound j l x) ∙ or-true (f j)) (in_or j a b i);
      whole = λ j l e. or_in j a b (⊎_elim (λ (x : f j ≡ true). inl (p.whole j l x)) (λ (x : g j ≡ true). inr (q.whole j l x)) (either (f j) (g j) e));
    }

holds_where : (one other i n : ℕ) → HoldsBelow (across one other i) n (where_in one other i)
holds_where one other i n = go (has one i)
  where
    go : (b : Bool) → HoldsBelow (λ j. b && has other j) n (when b then other else 0)
    go true = record { sound = λ j l p. eq-eqb _ _ p; whole = λ j l e. eqb-true _ _ e }
    go false = record { sound = λ j l p. absurd (in_none j p); whole = λ j l e. absurd (true≢false (sym e)) }

-- those that clash with result i by their sorts
pub holds_sorts : (masks : Masks) (i n : ℕ) → HoldsBelow (of_sorts masks i) n (by_sorts masks i)
holds_sorts masks i n =
    holds_or (holds_where masks.general_english masks.applied_english i n)
    (holds_or (holds_where masks.applied_english masks.general_english i n)
    (holds_or (holds_where masks.general_maths masks.applied_maths i n)
    (holds_where masks.applied_maths masks.general_maths i n)))

-- ---- the kept among the results passed, with one result more

turn : (x y : ℕ) (u v w : Bool) → u ≡ true → ((v && x =? y) && w) ≡ true → ((u && y =? x) && w) ≡ true
turn x y u v w p e =
    let a = both_true (v && x =? y) w e in
    let b = both_true v (x =? y) a.0 in
    true_both (u && y =? x) w (true_both u (y =? x) p (eq-eqb y x (sym (eqb-true x y b.1)))) a.1

module _ (results : List ℕ) (usable : ℕ) where
  -- kept: usable, and none is later
  kept-yes : (n k : ℕ) → has usable k ≡ true → ((j : ℕ) → j < n → later_in results usable k j ≡ false) → kept_among results usable n k ≡ true
  unfolding kept_among
  kept-yes n k u h = true_both _ _ u (ap not (none_has n (later_in results usable k) h))

  kept-usable : (n k : ℕ) → kept_among results usable n k ≡ true → has usable k ≡ true
  unfolding kept_among
  kept-usable n k e = (both_true (has usable k) _ e).0

  kept-none : (n k : ℕ) → kept_among results usable n k ≡ true → (j : ℕ) → j < n → later_in results usable k j ≡ false
  unfolding kept_among
  kept-none n k e = some-not n (later_in results usable k) (untrue _ (both_true (has usable k) _ e).1)
    where
      untrue : (b : Bool) → not b ≡ true → b ≡ false
      untrue true e = absurd (true≢false (sym e))
      untrue false e = refl

  -- one that is later than result k has it for an earlier one, and the other way round
  turned : (k n : ℕ) → has usable k ≡ true → later_in results usable k n ≡ true → earlier_in results usable n k ≡ true
  turned k n u e = turn (subject_of results n) (subject_of results k) (has usable k) (has usable n) (year_of results k <? year_of results n) u e

  turned_back : (k n : ℕ) → has usable n ≡ true → earlier_in results usable n k ≡ true → later_in results usable k n ≡ true
  turned_back k n u e = turn (subject_of results k) (subject_of results n) (has usable n) (has usable k) (year_of results k <? year_of results n) u e

  not_true : (b : Bool) → (b ≡ true → ⊥) → b ≡ false
  not_true true n = absurd (n refl)
  not_true false n = refl

  -- none is later than itself
  itself : (n : ℕ) → later_in results usable n n ≡ false
  itself n = not_true _ (λ e. omega (arith, ltb-true (year_of results n) (year_of results n) (both_true (has usable n && subject_of results n =? subject_of results n) _ e).1))

  module _ (n mask : ℕ) (few : n < most_results) (h : MaskOf (kept_among results usable n) n mask) where
    -- of those below n + 1
    upto : (k : ℕ) → ((j : ℕ) → j < n → later_in results usable k j ≡ false) → later_in results usable k n ≡ false → (j : ℕ) → j < n + 1 → later_in results usable k j ≡ false
    upto k f e = below_more _ _ f e

    fewer : (k : ℕ) → kept_among results usable (n + 1) k ≡ true → kept_among results usable n k ≡ true
    fewer k e = kept-yes n k (kept-usable (n + 1) k e) (λ j l. kept-none (n + 1) k e j (omega arith))

    -- result n is not usable
    pub kept_same : has usable n ≡ false → MaskOf (kept_among results usable (n + 1)) (n + 1) mask
    kept_same u =
        one (kept_among results usable (n + 1)) n mask few
        (record {
          small = h.small;
          sound = λ k p.
              let e = h.sound k p in
              kept-yes (n + 1) k (kept-usable n k e) (upto k (kept-none n k e) (first-false _ _ (first-false _ _ u)));
          whole = λ k l e. h.whole k l (fewer k e);
        })
        false (not_true _ (λ e. true≢false (sym (kept-usable (n + 1) n e) ∙ u)))

    -- it is
    module _ (u : has usable n ≡ true) (later earlier : ℕ) (a : MaskOf (later_in results usable n) n later) (b : MaskOf (earlier_in results usable n) n earlier) where
      still : MaskOf (kept_among results usable (n + 1)) n (without mask earlier)
      still =
          record {
            small = xor_lt n mask _ h.small (omega (arith, h.small, and_le_l mask earlier));
            sound = λ k p.
                let w = in_without k mask earlier p in
                let e = h.sound k w.0 in
                kept-yes (n + 1) k (kept-usable n k e)
                (upto k (kept-none n k e) (not_true _ (λ t. w.1 (b.whole k (in_lt n mask k h.small w.0) (turned k n (kept-usable n k e) t)))));
            whole = λ k l e.
                without_in k mask earlier (h.whole k l (fewer k e))
                (λ p. true≢false (sym (turned_back k n u (b.sound k p)) ∙ kept-none (n + 1) k e n (omega arith)));
          }

      itself_kept : (later ≡ 0 → kept_among results usable (n + 1) n ≡ true) × ((later ≡ 0 → ⊥) → kept_among results usable (n + 1) n ≡ false)
      itself_kept = (
        λ z. kept-yes (n + 1) n u (upto n (some-not n _ (mask_none _ n later a z)) (itself n)),
        λ z.
            let s = some_at n _ (mask_some _ n later a z) in
            not_true _ (λ e. true≢false (sym s.2 ∙ kept-none (n + 1) n e s.0 (omega (arith, s.1)))),
      )

      pub kept_more : MaskOf (kept_among results usable (n + 1)) (n + 1) (marked (without mask earlier) n (eqb later 0))
      kept_more = one (kept_among results usable (n + 1)) n (without mask earlier) few still (eqb later 0) (go (eqb later 0) refl)
        where
          go : (t : Bool) → eqb later 0 ≡ t → kept_among results usable (n + 1) n ≡ t
          go true e = itself_kept.0 (eqb-true _ _ e)
          go false e = itself_kept.1 (eqb-false _ _ e)

-- ---- the results passed, of which none is repeated

module _ (results : List ℕ) (usable i again : ℕ) (h : MaskOf (same_year_in results usable i) i again) where
  pub repeated-yes : has usable i ≡ true → (again ≡ 0 → ⊥) → repeated_in results usable i ≡ true
  unfolding repeated_in
  repeated-yes u n = true_both _ _ u (mask_some (same_year_in results usable i) i again h n)

  pub repeated-no : again ≡ 0 → repeated_in results usable i ≡ false
  unfolding repeated_in
  repeated-no z = rw (mask_none (same_year_in results usable i) i again h z) (no_both (has usable i))
    where
      no_both : (b : Bool) → (b && false) ≡ false
      no_both true = refl
      no_both false = refl

pub unused-no : (results : List ℕ) (usable i : ℕ) → has usable i ≡ false → repeated_in results usable i ≡ false
unfolding repeated_in
unused-no results usable i u = first-false _ _ u

-- ---- the clashes by position

-- those of result i, by sorts, and by years and identities
pub clash_at_lem : (masks : Masks) (identities results : List ℕ) (i apart : ℕ) → MaskOf (λ j. far_in results i j || shared identities i j) i apart
    → HoldsBelow (clash_in masks identities results i) i (bit_or (by_sorts masks i) apart)
unfolding clash_in
clash_at_lem masks identities results i apart h = holds_or (holds_sorts masks i i) (holds_mask h)

-- one result more
pub clash_more : (f : ℕ → ℕ → Bool) (clashes : List ℕ) (i v : ℕ) → i < length clashes → ((k : ℕ) → k < i → HoldsBelow (f k) k (value_at clashes k))
    → HoldsBelow (f i) i v → (k : ℕ) → k < i + 1 → HoldsBelow (f k) k (value_at (set clashes i v) k)
clash_more f clashes i v l h here k m = go (ℕ_discrete k i)
  where
    go : Dec (k ≡ i) → HoldsBelow (f k) k (value_at (set clashes i v) k)
    go (yes e) = subst (λ (n : ℕ). HoldsBelow (f n) n (value_at (set clashes i v) n)) (sym e) (subst (HoldsBelow (f i) i) (sym (get_or-set_same clashes i v 0 l)) here)
    go (no n) = subst (HoldsBelow (f k) k) (sym (get_or-set_other clashes i k v 0 n)) (h k (omega arith))

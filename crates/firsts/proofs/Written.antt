-- The row that is written, slot by slot.
use Prim.Native.Nat.{ℕ, ◌*◌, ◌<◌, ◌≤◌}
use native.Mathlib.Omega.{arith}
use native.Mathlib.Decide.{dec_lt}
use mathlib.Core.Path.{◌≡◌, refl, ap, ◌∙◌}
use mathlib.Core.Bool.{Bool, true, false}
use mathlib.Core.Logic.{◌⊎◌, inl, inr}
use mathlib.Core.List.{List}
use lib.ListN.{length}
use borrow.Author.Tests.{eqb-true, ne_eqb, lt-ltb, le-ltb}
use Rattle.paper.specs.Limits.{row_bytes, missing, score_parts, top_score}
use Rattle.paper.specs.Lists.{pick, first}
use Rattle.paper.specs.Words.{◌<?◌, ◌=?◌, when◌then◌else◌}
use Rattle.catalogue.specs.Kinds.{vet, is_vet}
use Rattle.scores.specs.Rows.{row_of, missing_row}
use Rattle.scores.proofs.Slotted.{length-row, missing-row}
use Rattle.firsts.specs.Counts.{total, score}
use Rattle.firsts.specs.Row.{asked, slot_for, vet_in, score_in, row_for}
use Rattle.firsts.specs.InnerAmong.{score_among}
use Rattle.firsts.proofs.Rising.{score-most}
use Rattle.firsts.proofs.Slotting.{in_own}

module _ (kind : ℕ) (counts : List ℕ) where
  -- what a slot of the row holds
  unfoldable pub in_slot : ℕ → ℕ
  in_slot slot = when is_vet kind then vet_in slot else when total counts =? 0 then missing else score_among kind counts (length counts) slot

  pub row_is : row_for kind counts ≡ row_of in_slot
  unfolding row_for in_slot score_in score_among
  row_is = go (is_vet kind) (total counts =? 0)
    where
      go : (v z : Bool) → pick v (row_of vet_in) (pick z missing_row (row_of (score_among kind counts (length counts)))) ≡ row_of (λ slot. pick v (vet_in slot) (pick z missing (score_among kind counts (length counts) slot)))
      go true z = refl
      go false true = missing-row
      go false false = refl

  pub length-for : length (row_for kind counts) ≡ row_bytes
  length-for = ap length row_is ∙ length-row in_slot

  -- it is missing, or a score
  abbrev Within : ℕ → Type 0
  Within v = (v ≡ missing) ⊎ (v ≤ top_score)

  score-within : (slot : ℕ) → Within (score_among kind counts (length counts) slot)
  unfolding score_among
  score-within slot = go (dec_lt j n)
    where
      n : ℕ
      n = length counts

      j : ℕ
      j = first n (λ i. slot_for kind i =? slot)

      go : Dec (j < n) → Within (pick (j <? n) (score counts j) missing)
      go (yes l) = inr (rw (lt-ltb j n l) (score-most counts j l))
      go (no l) = inl (rw (le-ltb j n (omega arith)) refl)

  vet-within : (slot : ℕ) → Within (vet_in slot)
  vet-within slot = go (slot =? 1)
    where
      go : (b : Bool) → Within (pick b (50 * score_parts) missing)
      go true = inr (omega arith)
      go false = inl refl

  pub slot_score : (slot : ℕ) → Within (in_slot slot)
  unfolding in_slot
  slot_score slot = go (is_vet kind) (total counts =? 0)
    where
      go : (v z : Bool) → Within (pick v (vet_in slot) (pick z missing (score_among kind counts (length counts) slot)))
      go true z = vet-within slot
      go false true = inl refl
      go false false = score-within slot

  -- with a total result j has its score in its slot
  pub slot_scored : (j : ℕ) → length counts ≡ asked kind → j < length counts → 1 ≤ total counts → in_slot (slot_for kind j) ≡ score counts j
  unfolding in_slot
  slot_scored j l h some = go (is_vet kind) refl
    where
      own : score_among kind counts (length counts) (slot_for kind j) ≡ score counts j
      own = in_own kind counts (length counts) j (omega arith) h

      go : (v : Bool) → is_vet kind ≡ v → pick v (vet_in (slot_for kind j)) (pick (total counts =? 0) missing (score_among kind counts (length counts) (slot_for kind j))) ≡ score counts j
      go true e = let none : asked kind ≡ 0 = ap asked (eqb-true kind vet e) in absurd (omega arith)
      go false e = rw (ne_eqb (total counts) 0 (λ z. omega arith)) own

  -- without one all are missing
  pub slot_own : (j : ℕ) → length counts ≡ asked kind → j < length counts → (in_slot (slot_for kind j) ≡ missing) ⊎ (in_slot (slot_for kind j) ≡ score counts j)
  unfolding in_slot
  slot_own j l h = go (is_vet kind) refl (total counts =? 0)
    where
      own : score_among kind counts (length counts) (slot_for kind j) ≡ score counts j
      own = in_own kind counts (length counts) j (omega arith) h

      go : (v : Bool) → is_vet kind ≡ v → (z : Bool)
          → (pick v (vet_in (slot_for kind j)) (pick z missing (score_among kind counts (length counts) (slot_for kind j))) ≡ missing)
          ⊎ (pick v (vet_in (slot_for kind j)) (pick z missing (score_among kind counts (length counts) (slot_for kind j))) ≡ score counts j)
      go true e z = let none : asked kind ≡ 0 = ap asked (eqb-true kind vet e) in absurd (omega arith)
      go false e true = inl refl
      go false e false = inr own

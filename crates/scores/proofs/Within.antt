-- Tables with no number over the greatest score in a slot.
use Prim.Native.Nat.{ℕ, ◌+◌, ◌*◌, ◌<◌, ◌≤◌}
use native.Mathlib.Omega.{arith}
use native.Mathlib.Decide.{dec_lt, ℕ_discrete}
use mathlib.Core.Path.{◌≡◌, refl, sym, ap, subst, ◌∙◌}
use mathlib.Core.Bool.{Bool, true, false, ◌&&◌, true≢false}
use mathlib.Core.List.{List, [], ◌++◌}
use lib.ListN.{length, length-append}
use borrow.Author.Tests.{le-ltb}
use Rattle.paper.specs.Limits.{slots, row_bytes, top_score}
use Rattle.paper.specs.Ranges.{within}
use Rattle.paper.specs.Bytes.{long}
use Rattle.paper.proofs.Written.{long-before, long_after}
use Rattle.scores.specs.Scores.{has_slot, in_row, slot_at, Found, scaled, absent, too_high, valued, found}
use Rattle.scores.specs.Rows.{missing_row, stored}
use Rattle.scores.specs.Meaning.{NoneOver}
use Rattle.scores.proofs.Rowed.{slot_there, there-slot, length-missing, stored-none}
use Rattle.scores.proofs.Filling.{found-there, found_none, missing-long, found-stored, stored_other}

-- what is missing, or a score, is not over
pub absent-over : (f : Found) → f ≡ absent → f ≡ too_high → ⊥
absent-over f a b = let z : ◌≡◌ {A = ℕ} 0 1 = cc in omega arith

pub scaled-over : (f : Found) (v : ℕ) → f ≡ scaled v → f ≡ too_high → ⊥
scaled-over f v a b = let z : ◌≡◌ {A = ℕ} 0 1 = cc in omega arith

-- a table with no row
pub found-empty : (subject slot : ℕ) → found [] subject slot ≡ absent
found-empty subject slot = found_none [] subject slot (ap (λ (b : Bool). b && within 1 slots slot) (le-ltb subject 0 (omega arith)))

pub none-over_empty : NoneOver []
none-over_empty subject slot = absent-over _ (found-empty subject slot)

-- with a row more, every slot missing, the same is found in each slot: those of the row were not there
pub found-more : (table : List ℕ) (n : ℕ) → length table ≡ row_bytes * n → (subject slot : ℕ) → found (table ++ missing_row) subject slot ≡ found table subject slot
found-more table n l subject slot = go (has_slot table subject slot) (has_slot more subject slot) refl refl (dec_lt subject n)
  where
    more : List ℕ
    more = table ++ missing_row

    more_rows : length more ≡ row_bytes * n + row_bytes
    more_rows = omega (arith, length-append table missing_row, length-missing)

    go : (a b : Bool) → has_slot table subject slot ≡ a → has_slot more subject slot ≡ b → Dec (subject < n) → found more subject slot ≡ found table subject slot
    go true b e f d =
        let h = slot_there table subject slot e in
        found-there more subject slot (there-slot more subject slot (omega (arith, more_rows)) h.1 h.2)
        ∙ ap valued (long-before table missing_row (slot_at subject slot) (omega arith))
        ∙ sym (found-there table subject slot e)
    go false false e f d = found_none more subject slot f ∙ sym (found_none table subject slot e)
    go false true e f (yes p) =
        let h = slot_there more subject slot f in
        absurd (true≢false (sym (there-slot table subject slot (omega arith) h.1 h.2) ∙ e))
    go false true e f (no p) =
        let h = slot_there more subject slot f in
        let own : subject ≡ n = omega (arith, more_rows) in
        let at : slot_at subject slot ≡ length table + in_row slot = omega arith in
        found-there more subject slot f
        ∙ ap valued (ap (long more) at ∙ long_after table missing_row (in_row slot) ∙ missing-long (in_row slot) (omega arith))
        ∙ sym (found_none table subject slot e)

pub none-over_row : (table : List ℕ) (n : ℕ) → length table ≡ row_bytes * n → NoneOver table → NoneOver (table ++ missing_row)
none-over_row table n l none subject slot o = none subject slot (sym (found-more table n l subject slot) ∙ o)

-- a score in a slot
pub none-over_stored : (table : List ℕ) (subject slot score : ℕ) → score ≤ top_score → NoneOver table → NoneOver (stored table subject slot score)
none-over_stored table subject slot score h none other number = go (has_slot table subject slot) refl (ℕ_discrete other subject) (ℕ_discrete number slot)
  where
    after : List ℕ
    after = stored table subject slot score

    go : (b : Bool) → has_slot table subject slot ≡ b → Dec (other ≡ subject) → Dec (number ≡ slot) → found after other number ≡ too_high → ⊥
    go false e p q = subst NoneOver (sym (stored-none table subject slot score e)) none other number
    go true e (yes p) (yes q) = scaled-over _ score (ap (λ (s : ℕ). found after s number) p ∙ ap (found after subject) q ∙ found-stored table subject slot score e h)
    go true e (no p) q = λ o. none other number (sym (stored_other table subject slot score other number (λ z. p z.0)) ∙ o)
    go true e (yes p) (no q) = λ o. none other number (sym (stored_other table subject slot score other number (λ z. q z.1)) ∙ o)

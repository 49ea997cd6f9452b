-- Laws of clearing a row and storing a score, by what is found in the slots.
use Prim.Native.Nat.{ℕ, ◌+◌, ◌*◌, ◌<◌, ◌≤◌}
use native.Mathlib.Omega.{arith}
use native.Mathlib.Decide.{dec_lt}
use mathlib.Core.Path.{◌≡◌, refl, sym, ap, ◌∙◌}
use mathlib.Core.Bool.{Bool, true, false}
use mathlib.Core.Logic.{◌⊎◌, inl, inr, ⊎_elim}
use mathlib.Core.List.{List}
use lib.ListN.{length, get_or-replicate}
use lib.Dec.{ltb, eqb}
use borrow.Author.Tests.{ltb-false, ne_eqb, le-ltb}
use Rattle.paper.specs.Limits.{slot_bytes, row_bytes, missing, top_score, missing_byte}
use Rattle.paper.specs.Lists.{pick}
use Rattle.paper.specs.Bytes.{byte, word, long, long_bytes}
use Rattle.paper.proofs.Parted.{length-laid, laid-off, length-put, put-there, put-none}
use Rattle.paper.proofs.Written.{length-long, long-laid, long-in, long-off}
use Rattle.scores.specs.Scores.{rows, has_slot, in_row, slot_at, slot_value, scaled, absent, too_high, valued, found}
use Rattle.scores.specs.Rows.{missing_row, with_row, cleared, stored}
use Rattle.scores.specs.Meaning.{OffRow}
use Rattle.scores.proofs.Rowed.{slot_there, slot_same, length-missing, cleared-row, cleared-none, stored-slot, stored-none, off_row, off_slot}

-- what is found where there is a slot, and where there is none
module _ (table : List ℕ) (subject slot : ℕ) where
  pub found-there : has_slot table subject slot ≡ true → found table subject slot ≡ valued (long table (slot_at subject slot))
  unfolding found
  found-there e = ap (λ (b : Bool). valued (pick b (long table (slot_at subject slot)) missing)) e

  pub found_none : has_slot table subject slot ≡ false → found table subject slot ≡ absent
  unfolding found
  found_none e = ap (λ (b : Bool). valued (pick b (long table (slot_at subject slot)) missing)) e

-- a number that is at most the greatest score is a score, and what is found as one is at most that
pub valued-score : (v : ℕ) → v ≤ top_score → valued v ≡ scaled v
valued-score v h = simp (ne_eqb v missing (λ e. omega arith), le-ltb top_score v h) refl

valued-within : (value v : ℕ) → valued value ≡ scaled v → v ≤ top_score
valued-within value v = go (eqb value missing) (ltb top_score value) (ltb-false top_score value)
  where
    go : (a b : Bool) → (b ≡ false → value ≤ top_score) → pick a absent (pick b too_high (scaled value)) ≡ scaled v → v ≤ top_score
    go true b f e = absurd (let z : ◌≡◌ {A = ℕ} 0 1 = cc in omega arith)
    go false true f e = absurd (let z : ◌≡◌ {A = ℕ} 0 1 = cc in omega arith)
    go false false f e = let z : value ≡ v = cc in omega (arith, f refl)

pub found_within : (table : List ℕ) (subject slot v : ℕ) → found table subject slot ≡ scaled v → v ≤ top_score
unfolding found
found_within table subject slot v e = valued-within (slot_value table subject slot) v e

-- tables of one length, with the same bytes in a slot
found-same : (t u : List ℕ) (subject slot : ℕ) → length t ≡ length u
    → (has_slot u subject slot ≡ true → long t (slot_at subject slot) ≡ long u (slot_at subject slot)) → found t subject slot ≡ found u subject slot
found-same t u subject slot l w = go (has_slot u subject slot) refl (slot_same t u subject slot l)
  where
    go : (b : Bool) → has_slot u subject slot ≡ b → has_slot t subject slot ≡ has_slot u subject slot → found t subject slot ≡ found u subject slot
    go true e same = found-there t subject slot (same ∙ e) ∙ ap valued (w e) ∙ sym (found-there u subject slot e)
    go false e same = found_none t subject slot (same ∙ e) ∙ sym (found_none u subject slot e)

-- a table with another row in place of a subject's: every other subject's slots are as they were
pub row_other : (table : List ℕ) (subject : ℕ) (row : List ℕ) (other slot : ℕ) → length row ≡ row_bytes → (other ≡ subject → ⊥)
    → found (with_row table subject row) other slot ≡ found table other slot
row_other table subject row other slot l n = go (dec_lt subject (rows table))
  where
    go : Dec (subject < rows table) → found (with_row table subject row) other slot ≡ found table other slot
    go (no h) = ap (λ (z : List ℕ). found z other slot) (put-none table (row_bytes * subject) row (omega arith))
    go (yes r) =
        found-same (with_row table subject row) table other slot (length-put table (row_bytes * subject) row)
        (λ e.
        let h = slot_there table other slot e in
        ap (λ (z : List ℕ). long z (slot_at other slot)) (put-there table (row_bytes * subject) row (omega arith))
        ∙ long-off table (row_bytes * subject) row (slot_at other slot) (omega arith)
        (⊎_elim inl (λ g. inr (omega arith)) (off_row subject other slot n h.1 h.2)))

-- a cleared row: the length stays, and no byte outside the row changes
pub length-cleared : (table : List ℕ) (subject : ℕ) → length (cleared table subject) ≡ length table
length-cleared table subject = go (dec_lt subject (rows table))
  where
    go : Dec (subject < rows table) → length (cleared table subject) ≡ length table
    go (yes h) = ap length (cleared-row table subject h) ∙ length-laid table (row_bytes * subject) missing_row (omega (arith, length-missing))
    go (no h) = ap length (cleared-none table subject (omega arith))

pub cleared-off : (table : List ℕ) (subject k : ℕ) → OffRow subject k → byte (cleared table subject) k ≡ byte table k
cleared-off table subject k u = go (dec_lt subject (rows table))
  where
    go : Dec (subject < rows table) → byte (cleared table subject) k ≡ byte table k
    go (yes h) =
        ap (λ (z : List ℕ). byte z k) (cleared-row table subject h)
        ∙ laid-off table (row_bytes * subject) missing_row (omega arith) k (⊎_elim inl (λ g. inr (omega (arith, length-missing))) u)
    go (no h) = ap (λ (z : List ℕ). byte z k) (cleared-none table subject (omega arith))

-- a slot of a row with every slot missing
pub missing-long : (k : ℕ) → k + slot_bytes ≤ row_bytes → long missing_row k ≡ missing
unfolding word long
missing-long k h =
    let missing_at : (i : ℕ) → i < row_bytes → byte missing_row i ≡ missing_byte = λ i l. get_or-replicate {A = ℕ} row_bytes i missing_byte 0 l in
    omega (arith, missing_at k (omega arith), missing_at (k + 1) (omega arith), missing_at (k + 2) (omega arith), missing_at (k + 2 + 1) (omega arith))

-- every slot of the row is missing, and every other slot is as it was
pub found-cleared : (table : List ℕ) (subject slot : ℕ) → found (cleared table subject) subject slot ≡ absent
found-cleared table subject slot = go (has_slot (cleared table subject) subject slot) refl
  where
    go : (b : Bool) → has_slot (cleared table subject) subject slot ≡ b → found (cleared table subject) subject slot ≡ absent
    go false e = found_none (cleared table subject) subject slot e
    go true e =
        let h = slot_there (cleared table subject) subject slot e in
        let r : subject < rows table = omega (arith, length-cleared table subject) in
        let w =
        ap (λ (z : List ℕ). long z (slot_at subject slot)) (cleared-row table subject r)
        ∙ long-in table (row_bytes * subject) missing_row (in_row slot) (omega arith) (omega (arith, length-missing))
        ∙ missing-long (in_row slot) (omega arith) in
        found-there (cleared table subject) subject slot e ∙ ap valued w

pub cleared-other : (table : List ℕ) (subject other slot : ℕ) → (other ≡ subject → ⊥) → found (cleared table subject) other slot ≡ found table other slot
unfolding cleared
cleared-other table subject other slot n = row_other table subject missing_row other slot length-missing n

-- a stored score: the length stays, and no byte but the slot's changes
module _ (table : List ℕ) (subject slot score : ℕ) where
  pub length-stored : length (stored table subject slot score) ≡ length table
  length-stored = go (has_slot table subject slot) refl
    where
      go : (b : Bool) → has_slot table subject slot ≡ b → length (stored table subject slot score) ≡ length table
      go true e =
          let h = slot_there table subject slot e in
          ap length (stored-slot table subject slot score e) ∙ length-laid table (slot_at subject slot) (long_bytes score) (omega (arith, length-long score))
      go false e = ap length (stored-none table subject slot score e)

  pub stored-byte : (k : ℕ) → (k < slot_at subject slot) ⊎ (slot_at subject slot + slot_bytes ≤ k) → byte (stored table subject slot score) k ≡ byte table k
  stored-byte k u = go (has_slot table subject slot) refl
    where
      go : (b : Bool) → has_slot table subject slot ≡ b → byte (stored table subject slot score) k ≡ byte table k
      go true e =
          let h = slot_there table subject slot e in
          ap (λ (z : List ℕ). byte z k) (stored-slot table subject slot score e)
          ∙ laid-off table (slot_at subject slot) (long_bytes score) (omega arith) k (⊎_elim inl (λ g. inr (omega (arith, length-long score))) u)
      go false e = ap (λ (z : List ℕ). byte z k) (stored-none table subject slot score e)

  pub stored-off : (k : ℕ) → OffRow subject k → byte (stored table subject slot score) k ≡ byte table k
  stored-off k u = go (has_slot table subject slot) refl
    where
      go : (b : Bool) → has_slot table subject slot ≡ b → byte (stored table subject slot score) k ≡ byte table k
      go true e = let h = slot_there table subject slot e in stored-byte k (⊎_elim (λ g. inl (omega arith)) (λ g. inr (omega arith)) u)
      go false e = ap (λ (z : List ℕ). byte z k) (stored-none table subject slot score e)

  -- the slot holds the score
  pub stored-long : has_slot table subject slot ≡ true → long (stored table subject slot score) (slot_at subject slot) ≡ score
  stored-long e =
      let h = slot_there table subject slot e in
      ap (λ (z : List ℕ). long z (slot_at subject slot)) (stored-slot table subject slot score e) ∙ long-laid table (slot_at subject slot) score (omega arith)

  pub found-stored : has_slot table subject slot ≡ true → score ≤ top_score → found (stored table subject slot score) subject slot ≡ scaled score
  found-stored e g =
      let there = slot_same (stored table subject slot score) table subject slot length-stored ∙ e in
      found-there (stored table subject slot score) subject slot there ∙ ap valued (stored-long e) ∙ valued-score score g

  -- and every other slot of any row is as it was
  pub stored_other : (other number : ℕ) → ((other ≡ subject) × (number ≡ slot) → ⊥) → found (stored table subject slot score) other number ≡ found table other number
  stored_other other number n = go (has_slot table subject slot) refl
    where
      go : (b : Bool) → has_slot table subject slot ≡ b → found (stored table subject slot score) other number ≡ found table other number
      go false e = ap (λ (z : List ℕ). found z other number) (stored-none table subject slot score e)
      go true e =
          let g = slot_there table subject slot e in
          found-same (stored table subject slot score) table other number length-stored
          (λ f.
          let h = slot_there table other number f in
          ap (λ (z : List ℕ). long z (slot_at other number)) (stored-slot table subject slot score e)
          ∙ long-off table (slot_at subject slot) (long_bytes score) (slot_at other number) (omega arith)
          (⊎_elim inl (λ k. inr (omega (arith, length-long score))) (off_slot subject other slot number n g.1 g.2 h.1 h.2)))

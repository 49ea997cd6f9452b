-- Rows and slots of a table: where they are, and what clearing and storing put there.
use Prim.Native.Nat.{ℕ, ◌+◌, ◌-◌, ◌*◌, ◌/◌, ◌<◌, ◌≤◌}
use native.Mathlib.Omega.{arith}
use native.Mathlib.Decide.{dec_lt}
use mathlib.Core.Path.{◌≡◌, sym, ap, ◌∙◌}
use mathlib.Core.Bool.{Bool, true, false, ◌&&◌}
use mathlib.Core.Logic.{◌⊎◌, inl, inr}
use mathlib.Core.List.{List}
use lib.ListN.{length, take, drop, length-take, length-drop, replicate, length-replicate}
use lib.Dec.{ltb}
use borrow.Author.Tests.{ltb-true, lt-ltb, le-leb}
use borrow.Rule.Slice.PartMut.{put_mid}
use Rattle.paper.specs.Limits.{slots, slot_bytes, row_bytes, missing_byte}
use Rattle.paper.specs.Lists.{pick}
use Rattle.paper.specs.Ranges.{within}
use Rattle.paper.specs.Bytes.{long_bytes}
use Rattle.paper.specs.Parts.{laid, put}
use Rattle.paper.proofs.Booleans.{both_true}
use Rattle.paper.proofs.Ranging.{within-true}
use Rattle.paper.proofs.Parted.{put-there, put-none, length-put, put-laid, laid-inside}
use Rattle.paper.proofs.Written.{length-long}
use Rattle.scores.specs.Scores.{rows, has_slot, in_row, slot_at}
use Rattle.scores.specs.Rows.{missing_row, with_row, cleared, stored}

-- a slot of a table
pub slot_there : (table : List ℕ) (subject slot : ℕ) → has_slot table subject slot ≡ true → (subject < rows table) × (1 ≤ slot) × (slot ≤ slots)
slot_there table subject slot e =
    let p = both_true (ltb subject (rows table)) (within 1 slots slot) e in
    let q = within-true 1 slots slot p.1 in
    (ltb-true subject (rows table) p.0, q.0, q.1)

pub there-slot : (table : List ℕ) (subject slot : ℕ) → subject < rows table → 1 ≤ slot → slot ≤ slots → has_slot table subject slot ≡ true
there-slot table subject slot h g l = simp (lt-ltb _ _ h, le-leb _ _ g, le-leb _ _ l)

pub slot_same : (t u : List ℕ) (subject slot : ℕ) → length t ≡ length u → has_slot t subject slot ≡ has_slot u subject slot
slot_same t u subject slot l = ap (λ (n : ℕ). ltb subject (n / row_bytes) && within 1 slots slot) l

-- the bytes of a row with every slot missing
pub length-missing : length missing_row ≡ row_bytes
length-missing = length-replicate {A = ℕ} row_bytes missing_byte

-- and of the row of a subject
pub row-length : (table : List ℕ) (subject : ℕ) → subject < rows table → length (take row_bytes (drop (row_bytes * subject) table)) ≡ row_bytes
row-length table subject h = simp (length-take, length-drop) (omega arith)

-- what clearing and storing do, where there is a row or a slot and where there is none
pub cleared-row : (table : List ℕ) (subject : ℕ) → subject < rows table → cleared table subject ≡ laid table (row_bytes * subject) missing_row
unfolding cleared
cleared-row table subject h = put-there table (row_bytes * subject) missing_row (omega (arith, length-missing))

pub cleared-none : (table : List ℕ) (subject : ℕ) → rows table ≤ subject → cleared table subject ≡ table
unfolding cleared
cleared-none table subject h = put-none table (row_bytes * subject) missing_row (omega (arith, length-missing))

module _ (table : List ℕ) (subject slot score : ℕ) where
  pub stored-slot : has_slot table subject slot ≡ true → stored table subject slot score ≡ laid table (slot_at subject slot) (long_bytes score)
  unfolding stored
  stored-slot e = ap (λ (b : Bool). pick b (laid table (slot_at subject slot) (long_bytes score)) table) e

  pub stored-none : has_slot table subject slot ≡ false → stored table subject slot score ≡ table
  unfolding stored
  stored-none e = ap (λ (b : Bool). pick b (laid table (slot_at subject slot) (long_bytes score)) table) e

  -- a slot has room in its row, and a score put there is stored in the table
  pub stored_row : has_slot table subject slot ≡ true
      → laid table (row_bytes * subject) (put (take row_bytes (drop (row_bytes * subject) table)) (in_row slot) (long_bytes score)) ≡ stored table subject slot score
  stored_row e =
      let h = slot_there table subject slot e in
      let row = take row_bytes (drop (row_bytes * subject) table) in
      let l : length row ≡ row_bytes = row-length table subject h.0 in
      let w : length (long_bytes score) ≡ slot_bytes = length-long score in
      ap (laid table (row_bytes * subject)) (put-there row (in_row slot) (long_bytes score) (omega arith))
      ∙ laid-inside table (row_bytes * subject) row_bytes (in_row slot) (long_bytes score) (omega arith) (omega arith)
      ∙ sym (stored-slot e)

-- a row that was lent on: filled, it is cleared; with a score put into it, the score is stored
module _ (table : List ℕ) (subject : ℕ) (row : List ℕ) where
  lent_row : take (row_bytes * subject + row_bytes - row_bytes * subject) (drop (row_bytes * subject) table) ≡ take row_bytes (drop (row_bytes * subject) table)
  lent_row = let e : row_bytes * subject + row_bytes - row_bytes * subject ≡ row_bytes = omega arith in ap (λ (n : ℕ). take n (drop (row_bytes * subject) table)) e

  pub lent_length : subject < rows table → length (take (row_bytes * subject + row_bytes - row_bytes * subject) (drop (row_bytes * subject) table)) ≡ row_bytes
  lent_length h = ap length lent_row ∙ row-length table subject h

  -- put back, it stands in place of the subject's
  pub row_put : subject < rows table → length row ≡ row_bytes
      → put_mid (row_bytes * subject) (row_bytes * subject + row_bytes - row_bytes * subject) table row ≡ with_row table subject row
  row_put h l = put-laid (row_bytes * subject) row_bytes table row l ∙ sym (put-there table (row_bytes * subject) row (omega arith))

  pub row-filled : subject < rows table → row ≡ replicate (length (take (row_bytes * subject + row_bytes - row_bytes * subject) (drop (row_bytes * subject) table))) missing_byte
      → put_mid (row_bytes * subject) (row_bytes * subject + row_bytes - row_bytes * subject) table row ≡ cleared table subject
  unfolding cleared
  row-filled h e =
      let f : row ≡ missing_row = e ∙ ap (λ (n : ℕ). replicate n missing_byte) (lent_length h) in
      row_put h (ap length f ∙ length-missing) ∙ ap (with_row table subject) f

  pub row-scored : (slot score : ℕ) → has_slot table subject slot ≡ true
      → row ≡ put (take (row_bytes * subject + row_bytes - row_bytes * subject) (drop (row_bytes * subject) table)) (in_row slot) (long_bytes score)
      → put_mid (row_bytes * subject) (row_bytes * subject + row_bytes - row_bytes * subject) table row ≡ stored table subject slot score
  row-scored slot score t e =
      let f = e ∙ ap (λ (z : List ℕ). put z (in_row slot) (long_bytes score)) lent_row in
      let l = ap length f ∙ length-put (take row_bytes (drop (row_bytes * subject) table)) (in_row slot) (long_bytes score) ∙ row-length table subject (slot_there table subject slot t).0 in
      put-laid (row_bytes * subject) row_bytes table row l ∙ ap (laid table (row_bytes * subject)) f ∙ stored_row table subject slot score t

-- another row is before the row or after it
pub off_row : (subject other slot : ℕ) → (other ≡ subject → ⊥) → 1 ≤ slot → slot ≤ slots
    → (slot_at other slot + slot_bytes ≤ row_bytes * subject) ⊎ (row_bytes * subject + row_bytes ≤ slot_at other slot)
off_row subject other slot n g l = go (dec_lt other subject)
  where
    go : Dec (other < subject) → (slot_at other slot + slot_bytes ≤ row_bytes * subject) ⊎ (row_bytes * subject + row_bytes ≤ slot_at other slot)
    go (yes h) = inl (omega arith)
    go (no h) = inr (omega arith)

-- another slot is before the slot or after it
pub off_slot : (subject other slot number : ℕ) → ((other ≡ subject) × (number ≡ slot) → ⊥) → 1 ≤ slot → slot ≤ slots → 1 ≤ number → number ≤ slots
    → (slot_at other number + slot_bytes ≤ slot_at subject slot) ⊎ (slot_at subject slot + slot_bytes ≤ slot_at other number)
off_slot subject other slot number n a b c d = go (dec_lt (slot_at other number) (slot_at subject slot)) (dec_lt (slot_at subject slot) (slot_at other number))
  where
    go : Dec (slot_at other number < slot_at subject slot) → Dec (slot_at subject slot < slot_at other number)
        → (slot_at other number + slot_bytes ≤ slot_at subject slot) ⊎ (slot_at subject slot + slot_bytes ≤ slot_at other number)
    go (yes h) g = inl (omega arith)
    go (no h) (yes g) = inr (omega arith)
    go (no h) (no g) = let z : other ≡ subject = omega arith in absurd (n (z, omega arith))

-- Laws of a row by what each slot holds: its bytes, a score stored in it, and what is found in a table that has it.
use Prim.Native.Nat.{ℕ, zero, suc, ◌+◌, ◌*◌, ◌-◌, ◌<◌, ◌≤◌}
use native.Mathlib.Omega.{arith}
use mathlib.Core.Path.{◌≡◌, refl, sym, ap, ◌∙◌}
use mathlib.Core.List.{List, ◌++◌}
use lib.ListN.{length, length-append}
use borrow.Author.Tests.{eq-eqb, ne_eqb}
use Rattle.paper.specs.Limits.{slots, slot_bytes, row_bytes, missing}
use Rattle.paper.specs.Words.{◌=?◌, when◌then◌else◌}
use Rattle.paper.specs.Bytes.{long, word_bytes, long_bytes}
use Rattle.paper.specs.Parts.{laid}
use Rattle.paper.proofs.Parted.{laid-start, laid-all, laid-past, length-put, put-there}
use Rattle.paper.proofs.Written.{length-long, long-written, long-before, long_after, long-in}
use Rattle.scores.specs.Scores.{rows, in_row, slot_at, valued, found}
use Rattle.scores.specs.Rows.{slots_from, row_of, missing_row, with_row, cleared, stored}
use Rattle.scores.proofs.Rowed.{there-slot, stored-slot, length-missing, cleared-row}
use Rattle.scores.proofs.Filling.{found-there}

-- the bytes of a slot to each
length-slots : (k n : ℕ) (holds : ℕ → ℕ) → length (slots_from k n holds) ≡ slot_bytes * n
unfolding slots_from
length-slots k zero holds = refl
length-slots k (suc n) holds =
    length-append (long_bytes (holds k)) (slots_from (suc k) n holds) ∙ omega (arith, length-long (holds k), length-slots (suc k) n holds)

pub length-row : (holds : ℕ → ℕ) → length (row_of holds) ≡ row_bytes
length-row holds = length-slots 1 slots holds

-- slots that hold the same
slots_same : (k n : ℕ) (f g : ℕ → ℕ) → ((slot : ℕ) → k ≤ slot → slot < k + n → f slot ≡ g slot) → slots_from k n f ≡ slots_from k n g
unfolding slots_from
slots_same k zero f g h = refl
slots_same k (suc n) f g h =
    ap (λ (v : ℕ). long_bytes v ++ slots_from (suc k) n f) (h k (omega arith) (omega arith))
    ∙ ap (λ (z : List ℕ). long_bytes (g k) ++ z) (slots_same (suc k) n f g (λ slot a b. h slot (omega arith) (omega arith)))

pub row_same : (f g : ℕ → ℕ) → ((slot : ℕ) → 1 ≤ slot → slot ≤ slots → f slot ≡ g slot) → row_of f ≡ row_of g
row_same f g h = slots_same 1 slots f g (λ slot a b. h slot a (omega arith))

-- what a slot holds
long-slots : (k n : ℕ) (holds : ℕ → ℕ) (i : ℕ) → i < n → long (slots_from k n holds) (slot_bytes * i) ≡ holds (k + i)
unfolding slots_from
long-slots k zero holds i h = absurd (omega arith)
long-slots k (suc n) holds zero h =
    let e : k ≡ k + 0 = omega arith in
    long-before (long_bytes (holds k)) (slots_from (suc k) n holds) 0 (omega (arith, length-long (holds k))) ∙ long-written (holds k) ∙ ap holds e
long-slots k (suc n) holds (suc i) h =
    let rest = slots_from (suc k) n holds in
    let e : slot_bytes * suc i ≡ length (long_bytes (holds k)) + slot_bytes * i = omega (arith, length-long (holds k)) in
    let f : suc k + i ≡ k + suc i = omega arith in
    ap (long (long_bytes (holds k) ++ rest)) e ∙ long_after (long_bytes (holds k)) rest (slot_bytes * i) ∙ long-slots (suc k) n holds i (omega arith) ∙ ap holds f

pub long-row : (holds : ℕ → ℕ) (slot : ℕ) → 1 ≤ slot → slot ≤ slots → long (row_of holds) (in_row slot) ≡ holds slot
long-row holds slot a b =
    let e : 1 + (slot - 1) ≡ slot = omega arith in
    long-slots 1 slots holds (slot - 1) (omega arith) ∙ ap holds e

-- a score laid in a slot
abbrev pub with : (ℕ → ℕ) → ℕ → ℕ → ℕ → ℕ
with holds at score slot = when slot =? at then score else holds slot

laid-slots : (k n : ℕ) (holds : ℕ → ℕ) (i score : ℕ) → i < n → laid (slots_from k n holds) (slot_bytes * i) (long_bytes score) ≡ slots_from k n (with holds (k + i) score)
unfolding slots_from word_bytes long_bytes
laid-slots k zero holds i score h = absurd (omega arith)
laid-slots k (suc n) holds zero score h =
    let e : k ≡ k + 0 = omega arith in
    laid-start (long_bytes (holds k) ++ slots_from (suc k) n holds) (long_bytes score)
    ∙ ap (λ (z : List ℕ). long_bytes score ++ z) (slots_same (suc k) n holds (with holds (k + 0) score) (λ slot a b. sym (simp (ne_eqb slot (k + 0) (λ x. omega arith)) refl)))
    ∙ ap (λ (v : ℕ). long_bytes v ++ slots_from (suc k) n (with holds (k + 0) score)) (sym (simp (eq-eqb k (k + 0) e) refl))
laid-slots k (suc n) holds (suc i) score h =
    let rest = slots_from (suc k) n holds in
    let e : slot_bytes * suc i ≡ length (long_bytes (holds k)) + slot_bytes * i = omega (arith, length-long (holds k)) in
    let f : suc k + i ≡ k + suc i = omega arith in
    ap (λ (a : ℕ). laid (long_bytes (holds k) ++ rest) a (long_bytes score)) e
    ∙ laid-past (long_bytes (holds k)) rest (slot_bytes * i) (long_bytes score)
    ∙ ap (λ (z : List ℕ). long_bytes (holds k) ++ z) (laid-slots (suc k) n holds i score (omega arith) ∙ ap (λ (at : ℕ). slots_from (suc k) n (with holds at score)) f)
    ∙ ap (λ (v : ℕ). long_bytes v ++ slots_from (suc k) n (with holds (k + suc i) score)) (sym (simp (ne_eqb k (k + suc i) (λ x. omega arith)) refl))

-- a row with every slot missing
pub missing-row : missing_row ≡ row_of (λ slot. missing)
unfolding slots_from word_bytes long_bytes
missing-row = refl

-- a row by itself is a table of one: cleared, and with a score stored
pub row-cleared : (row : List ℕ) → length row ≡ row_bytes → cleared row 0 ≡ missing_row
row-cleared row l = cleared-row row 0 (omega arith) ∙ laid-all row missing_row (omega (arith, length-missing))

pub row-stored : (holds : ℕ → ℕ) (slot score : ℕ) → 1 ≤ slot → slot ≤ slots → stored (row_of holds) 0 slot score ≡ row_of (with holds slot score)
row-stored holds slot score a b =
    let l = length-row holds in
    let e : slot_at 0 slot ≡ slot_bytes * (slot - 1) = omega arith in
    let f : 1 + (slot - 1) ≡ slot = omega arith in
    stored-slot (row_of holds) 0 slot score (there-slot (row_of holds) 0 slot (omega arith) a b)
    ∙ ap (λ (p : ℕ). laid (row_of holds) p (long_bytes score)) e
    ∙ laid-slots 1 slots holds (slot - 1) score (omega arith)
    ∙ ap (λ (at : ℕ). row_of (with holds at score)) f

-- the table with a row: its slots are found there
pub found-row : (table : List ℕ) (subject : ℕ) (holds : ℕ → ℕ) (slot : ℕ) → subject < rows table → 1 ≤ slot → slot ≤ slots
    → found (with_row table subject (row_of holds)) subject slot ≡ valued (holds slot)
found-row table subject holds slot h a b =
    let row = row_of holds in
    let l = length-row holds in
    let there = there-slot (with_row table subject row) subject slot (omega (arith, length-put table (row_bytes * subject) row)) a b in
    let w =
    ap (λ (z : List ℕ). long z (slot_at subject slot)) (put-there table (row_bytes * subject) row (omega arith))
    ∙ long-in table (row_bytes * subject) row (in_row slot) (omega arith) (omega arith)
    ∙ long-row holds slot a b in
    found-there (with_row table subject row) subject slot there ∙ ap valued w

-- The scores of a row, read field by field into a row of which every slot is missing.
use Prim.Native.Nat.{ℕ, zero, suc, ◌+◌, ◌*◌, ◌≤◌, ◌<◌}
use native.Mathlib.Omega.{arith}
use mathlib.Core.Path.{◌≡◌, refl, sym, ap, ◌∙◌}
use mathlib.Core.Bool.{true, not}
use mathlib.Core.List.{List, [], ◌∷◌, ◌++◌, append_assoc}
use lib.ListN.{length, length-append}
use lib.Seq.{take-append_seam, drop-append-add}
use borrow.Author.Tests.{lt-ltb}
use Rattle.paper.specs.Limits.{slot_bytes, row_bytes, slots as slotCount, top_score, missing}
use Rattle.paper.specs.Ranges.{within}
use Rattle.paper.specs.Bytes.{word, long, word_bytes, long_bytes}
use Rattle.paper.specs.Parts.{laid}
use Rattle.paper.specs.Rulings.{accepted}
use Rattle.paper.proofs.Booleans.{true_both}
use Rattle.paper.proofs.Ranging.{true_within}
use Rattle.paper.proofs.Ruled.{unbroken_all}
use Rattle.paper.proofs.Written.{length-long, long-written, long_after}
use Rattle.catalogue.specs.Catalogue.{subjects}
use Rattle.scores.specs.Scores.{rows, has_slot, slot_at, valued, absent, found}
use Rattle.scores.specs.Rows.{slots_from, stored}
use Rattle.scores.proofs.Filling.{found-there}
use Rattle.scores.proofs.Rowed.{stored-slot}
use Rattle.fields.specs.Fields.{Field, Piece, whole}
use Rattle.held.proofs.Accepts.{score-accepted}
use Rattle.held.specs.Reading.{Reader, passed, field_rules, after, read_all}

-- subject, slot, score: the value of a field, and the field
abbrev value : ℕ → ℕ → ℕ → List ℕ
value subject slot v = 0 ∷ subject ∷ slot ∷ long_bytes v

abbrev pub score : ℕ → ℕ → ℕ → Field
score subject slot v = record { tag = 3; value = value subject slot v }

-- the scores f, the subject, n, the slot, p: the fields of n scores from a slot on, the first at offset p
unfoldable pub scores : (ℕ → ℕ) → ℕ → ℕ → ℕ → ℕ → List Piece
scores f subject zero slot p = []
scores f subject (suc n) slot p = whole p (score subject slot (f slot)) ∷ scores f subject n (suc slot) (p + 10)

-- n slots, all missing
unfoldable pub blank : ℕ → List ℕ
blank zero = []
blank (suc n) = long_bytes missing ++ blank n

length-blank : (n : ℕ) → length (blank n) ≡ slot_bytes * n
unfolding blank word_bytes long_bytes
length-blank zero = refl
length-blank (suc n) = let e = length-blank n in omega (arith, e)

module _ (year : ℕ) (catalogue : List ℕ) where
  -- the reader before the figures, by the last tag and the table
  abbrev pub at : ℕ → List ℕ → Reader
  at last table = record {
    far = record { last = last; subjects = subjects catalogue; students = 0; latest = 0 };
    held = record { year = year; catalogue = catalogue; table = table; figures = []; students = [] };
  }

  -- one score, into a slot that is missing
  module _ (subject slot v : ℕ) (before rest : List ℕ) (known : subject < subjects catalogue) (low : 1 ≤ slot) (high : slot ≤ slotCount) (top : v ≤ top_score)
      (here : length before ≡ slot_at subject slot) (room : row_bytes * subject + row_bytes ≤ length (before ++ (long_bytes missing ++ rest))) where
    abbrev table : List ℕ
    table = before ++ (long_bytes missing ++ rest)

    subject-is : word (value subject slot v) 0 ≡ subject
    unfolding word
    subject-is = omega arith

    score-is : long (value subject slot v) 3 ≡ v
    score-is = long_after (0 ∷ subject ∷ slot ∷ []) (long_bytes v) 0 ∙ long-written v

    has : has_slot table subject slot ≡ true
    has = true_both _ _ (lt-ltb subject (rows table) (omega (arith, room))) (true_within 1 slotCount slot low high)

    missing-there : long table (length before) ≡ missing
    unfolding word long word_bytes long_bytes
    missing-there =
        let e : length before ≡ length before + 0 = omega arith in
        ap (long table) e ∙ long_after before (long_bytes missing ++ rest) 0

    unscored : found table subject slot ≡ absent
    unscored = found-there table subject slot has ∙ ap (λ (i : ℕ). valued (long table i)) (sym here) ∙ ap valued missing-there

    stored_there : stored table subject slot v ≡ before ++ (long_bytes v ++ rest)
    unfolding laid word_bytes long_bytes
    stored_there =
        stored-slot table subject slot v has ∙ ap (λ (i : ℕ). laid table i (long_bytes v)) (sym here)
        ∙ rw (take-append_seam before (long_bytes missing ++ rest), drop-append-add before (long_bytes missing ++ rest) slot_bytes) refl

    one : (last p : ℕ) → within 1 3 last ≡ true → after (accepted (at last table)) (whole p (score subject slot v)) ≡ accepted (at 3 (before ++ (long_bytes v ++ rest)))
    unfolding word_bytes long_bytes
    one last p l =
        unbroken_all (field_rules (at last table) (score subject slot v) p) (passed (at last table) (score subject slot v)) (
          refl,
          (
            refl,
            (
              ap not l,
              (
                refl,
                score-accepted (at last table).held (value subject slot v) p (rw subject-is known) low high (rw score-is top) (rw subject-is unscored),
              ),
            ),
          ),
        )
        ∙ ap (λ (t : List ℕ). accepted (at 3 t)) (ap (λ (w : ℕ). stored table w slot (long (value subject slot v) 3)) subject-is ∙ ap (stored table subject slot) score-is ∙ stored_there)

  module _ (f : ℕ → ℕ) (subject : ℕ) (post : List ℕ) (known : subject < subjects catalogue) (top : (slot : ℕ) → slot ≤ slotCount → f slot ≤ top_score) where
    -- the scores from a slot to the row's last are read
    abbrev Fills : ℕ → ℕ → Type 0
    Fills n slot = (p last : ℕ) (before : List ℕ) → within 1 3 last ≡ true → length before ≡ slot_at subject slot
        → read_all (scores f subject n slot p) (accepted (at last (before ++ (blank n ++ post)))) ≡ accepted (at 3 (before ++ (slots_from slot n f ++ post)))

    -- one score, and those after it
    next : (n slot : ℕ) → 1 ≤ slot → slot + suc n ≡ suc slotCount
        → ((p : ℕ) (before : List ℕ) → length before ≡ slot_at subject (suc slot)
        → read_all (scores f subject n (suc slot) p) (accepted (at 3 (before ++ (blank n ++ post)))) ≡ accepted (at 3 (before ++ (slots_from (suc slot) n f ++ post))))
        → Fills (suc n) slot
    unfolding scores blank slots_from word_bytes long_bytes
    next n slot low e on p last before l here =
        let v : ℕ = f slot in
        let rest : List ℕ = blank n ++ post in
        let four : List ℕ = long_bytes v in
        let high : slot ≤ slotCount = omega arith in
        let room : row_bytes * subject + row_bytes ≤ length (before ++ (long_bytes missing ++ rest)) =
        omega (arith, here, length-append before (long_bytes missing ++ rest), length-append (long_bytes missing) rest, length-long missing, length-append (blank n) post, length-blank n) in
        let there : length (before ++ four) ≡ slot_at subject (suc slot) = omega (arith, here, length-append before four, length-long v) in
        ap (read_all (scores f subject n (suc slot) (p + 10))) (one subject slot v before rest known low high (top slot high) here room last p l
        ∙ ap (λ (t : List ℕ). accepted (at 3 t)) (sym (append_assoc before four rest)))
        ∙ on (p + 10) (before ++ four) there
        ∙ ap (λ (t : List ℕ). accepted (at 3 t)) (append_assoc before four (slots_from (suc slot) n f ++ post))

    others : (n slot : ℕ) → 1 ≤ slot → slot + n ≡ suc slotCount → (p : ℕ) (before : List ℕ) → length before ≡ slot_at subject slot
        → read_all (scores f subject n slot p) (accepted (at 3 (before ++ (blank n ++ post)))) ≡ accepted (at 3 (before ++ (slots_from slot n f ++ post)))
    unfolding scores blank slots_from word_bytes long_bytes
    others zero slot low e p before here = refl
    others (suc n) slot low e p before here = next n slot low e (others n (suc slot) (omega arith) (omega arith)) p 3 before refl here

    -- a whole row
    pub row_read : Fills slotCount 1
    row_read = next 99 1 (omega arith) refl (others 99 2 (omega arith) refl)

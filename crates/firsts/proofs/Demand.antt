-- What follows from the promise, for every answer and table that it permits.
use Rattle.std.proofs.Common.{Result, Ok}
use Prim.Native.Nat.{ℕ, ◌-◌, ◌*◌, ◌<◌, ◌≤◌}
use native.Mathlib.Omega.{arith}
use native.Mathlib.Decide.{ℕ_discrete}
use mathlib.Core.Path.{◌≡◌, refl, sym, ap, subst, ◌∙◌}
use mathlib.Core.Bool.{Bool, true, false}
use mathlib.Core.Logic.{◌⊎◌, inl, inr, ⊎_elim}
use mathlib.Core.List.{List}
use lib.ListN.{length}
use borrow.Author.Tests.{leb-false, eqb-true, not-false}
use Rattle.paper.specs.Limits.{slots, row_bytes}
use Rattle.paper.specs.Letters.{letter_a, letter_e}
use Rattle.paper.specs.Lists.{pick}
use Rattle.paper.specs.Rulings.{Outcome, accepted, refused}
use Rattle.paper.specs.Promises.{answer}
use Rattle.paper.specs.declared.refusal.Refusal.{Refusal}
use Rattle.paper.proofs.Parted.{length-put, put-again}
use Rattle.paper.proofs.Ruled.{Unbroken, all_unbroken}
use Rattle.catalogue.specs.Kinds.{is_general, is_applied}
use Rattle.scores.specs.Scores.{rows, has_slot, Found, scaled, absent, too_high, valued, found, slot_of}
use Rattle.scores.specs.Rows.{with_row}
use Rattle.scores.specs.Meaning.{NoneOver}
use Rattle.scores.proofs.Rowed.{slot_there}
use Rattle.scores.proofs.Filling.{found_none, valued-score, row_other}
use Rattle.scores.proofs.Slotted.{found-row}
use Rattle.scores.proofs.Within.{absent-over, scaled-over}
use Rattle.firsts.specs.Counts.{total, score}
use Rattle.firsts.specs.Row.{asked, slot_for, row_for}
use Rattle.firsts.specs.Promise.{count_rules, ruling, written, Promise, left}
use Rattle.firsts.proofs.Rising.{rising, score-most}
use Rattle.firsts.proofs.Slotting.{slot_within, applied-asked, number-slot, letter_slot_lem}
use Rattle.firsts.proofs.Written.{in_slot, row_is, length-for, slot_score, slot_scored, slot_own}
use Rattle.firsts.proofs.Promised.{only}

absent-scaled : (f : Found) (v : ℕ) → f ≡ absent → f ≡ scaled v → ⊥
absent-scaled f v a b = let z : ◌≡◌ {A = ℕ} 0 1 = cc in omega arith

scaled-once : (v w : ℕ) → scaled v ≡ scaled w → v ≡ w
scaled-once v w e = cc

-- the ruling asks of the table only how long it is
ruled-alike : (kind subject : ℕ) (counts t u : List ℕ) → length t ≡ length u → ruling kind subject counts t ≡ ruling kind subject counts u
ruled-alike kind subject counts t u l = rw l refl

module _ (kind subject : ℕ) (counts before : List ℕ) where
  -- what an accepted call leaves
  module _ (after : List ℕ) (p : Promise kind subject counts before (Ok tt) after) where
    unbroken : Unbroken (count_rules kind subject counts before)
    unbroken = all_unbroken (count_rules kind subject counts before) tt tt (sym p.says)

    pub has-row : subject < rows before
    has-row = leb-false (rows before) subject unbroken.1.1.0

    pub all_counts : length counts ≡ asked kind
    all_counts = eqb-true (length counts) (asked kind) (not-false _ unbroken.1.1.1.0)

    -- in each slot of the subject's row
    found_after : (slot : ℕ) → 1 ≤ slot → slot ≤ slots → found after subject slot ≡ valued (in_slot kind counts slot)
    found_after slot a b =
        ap (λ (t : List ℕ). found t subject slot) (p.leaves ∙ ap (with_row before subject) (row_is kind counts))
        ∙ found-row before subject (in_slot kind counts) slot has-row a b

    -- with a total every result has its score
    pub each-scored : 1 ≤ total counts → (j : ℕ) → j < length counts → found after subject (slot_for kind j) ≡ scaled (score counts j)
    each-scored some j h =
        let w = slot_within kind j (omega (arith, all_counts)) in
        found_after (slot_for kind j) w.0 w.1 ∙ ap valued (slot_scored kind counts j all_counts h some) ∙ valued-score (score counts j) (score-most counts j h)

    -- the score of result j, where it has one
    found-score : (j v : ℕ) → j < length counts → found after subject (slot_for kind j) ≡ scaled v → v ≡ score counts j
    found-score j v h e =
        let w = slot_within kind j (omega (arith, all_counts)) in
        let f = found_after (slot_for kind j) w.0 w.1 in
        ⊎_elim
        (λ m. absurd (absent-scaled _ v (f ∙ ap valued m) e))
        (λ m. scaled-once v (score counts j) (sym e ∙ f ∙ ap valued m ∙ valued-score (score counts j) (score-most counts j h)))
        (slot_own kind counts j all_counts h)

    -- a better raw result never gets a lower score, of General and of Applied: results are counted from the worst
    pub better : (i j v w : ℕ) → i ≤ j → j < length counts → found after subject (slot_for kind i) ≡ scaled v → found after subject (slot_for kind j) ≡ scaled w → v ≤ w
    better i j v w l h e f = omega (arith, found-score i v (omega arith) e, found-score j w h f, rising counts i j l)

    -- the same of raw results as the best set looks them up: of two numbers the greater is better, of two letters the earlier
    pub better-number : is_general kind ≡ true → (m n l k v w : ℕ) → 1 ≤ m → m ≤ n → n ≤ slots
        → found after subject (slot_of kind l m) ≡ scaled v → found after subject (slot_of kind k n) ≡ scaled w → v ≤ w
    better-number g m n l k v w a b c e f =
        let s = all_counts ∙ ap (λ (t : Bool). pick t slots (pick (is_applied kind) 5 0)) g in
        better (m - 1) (n - 1) v w (omega arith) (omega arith)
        (ap (found after subject) (sym (number-slot kind l m g a)) ∙ e)
        (ap (found after subject) (sym (number-slot kind k n g (omega arith))) ∙ f)

    pub better-letter : is_applied kind ≡ true → (l k m n v w : ℕ) → letter_a ≤ l → l ≤ k → k ≤ letter_e
        → found after subject (slot_of kind k m) ≡ scaled v → found after subject (slot_of kind l n) ≡ scaled w → v ≤ w
    better-letter g l k m n v w a b c e f =
        let s = all_counts ∙ applied-asked kind g in
        better (letter_e - k) (letter_e - l) v w (omega arith) (omega arith)
        (ap (found after subject) (sym (letter_slot_lem kind k m g (omega arith) c)) ∙ e)
        (ap (found after subject) (sym (letter_slot_lem kind l n g a (omega arith))) ∙ f)

    -- every slot written is missing or at most the greatest score
    pub none_over : (slot : ℕ) → found after subject slot ≡ too_high → ⊥
    none_over slot e = go (has_slot after subject slot) refl
      where
        go : (b : Bool) → has_slot after subject slot ≡ b → ⊥
        go false s = absent-over _ (found_none after subject slot s) e
        go true s =
            let t = slot_there after subject slot s in
            let f = found_after slot t.1 t.2 in
            ⊎_elim
            (λ m. absent-over _ (f ∙ ap valued m) e)
            (λ m. scaled-over _ (in_slot kind counts slot) (f ∙ valued-score (in_slot kind counts slot) m) e)
            (slot_score kind counts slot)

  -- the table after a call that is accepted or refused
  kept-or_written : (o : Outcome (Unit {0})) → (left kind subject counts before o ≡ before) ⊎ (left kind subject counts before o ≡ written kind subject counts before)
  kept-or_written (accepted u) = inr refl
  kept-or_written (refused f) = inl refl

  -- no other subject's lookups change
  pub others_stay : (r : Result (Unit {0}) Refusal) (after : List ℕ) → Promise kind subject counts before r after → (other slot : ℕ) → (other ≡ subject → ⊥)
      → found after other slot ≡ found before other slot
  others_stay r after p other slot n =
      ap (λ (t : List ℕ). found t other slot) (only kind subject counts before p).1
      ∙ ⊎_elim
      (λ e. ap (λ (t : List ℕ). found t other slot) e)
      (λ e. ap (λ (t : List ℕ). found t other slot) e ∙ row_other before subject (row_for kind counts) other slot (length-for kind counts) n)
      (kept-or_written (ruling kind subject counts before))

  -- so that a table with no number over the greatest score has none after
  pub none-over_after : (after : List ℕ) → Promise kind subject counts before (Ok tt) after → NoneOver before → NoneOver after
  none-over_after after p h other slot e = go (ℕ_discrete other subject)
    where
      go : Dec (other ≡ subject) → ⊥
      go (yes s) = none_over after p slot (subst (λ (o : ℕ). found after o slot ≡ too_high) s e)
      go (no s) = h other slot (sym (others_stay (Ok tt) after p other slot s) ∙ e)

  -- the table keeps its length
  length-left : (o : Outcome (Unit {0})) → length (left kind subject counts before o) ≡ length before
  length-left (accepted u) = length-put before (row_bytes * subject) (row_for kind counts)
  length-left (refused f) = refl

  -- a row written twice from the same counts is the row written once
  pub again : (r s : Result (Unit {0}) Refusal) (after last : List ℕ) → Promise kind subject counts before r after → Promise kind subject counts after s last → (s ≡ r) × (last ≡ after)
  again r s after last p q =
      let a = only kind subject counts before p in
      let b = only kind subject counts after q in
      let o = ruling kind subject counts before in
      let l = ap length a.1 ∙ length-left o in
      let same : ruling kind subject counts after ≡ o = ruled-alike kind subject counts after before l in
      (b.0 ∙ ap answer same ∙ sym a.0, b.1 ∙ ap (left kind subject counts after) same ∙ settled o after a.1)
    where
      settled : (o : Outcome (Unit {0})) (after : List ℕ) → after ≡ left kind subject counts before o → left kind subject counts after o ≡ after
      settled (refused f) after e = refl
      settled (accepted u) after e = ap (written kind subject counts) e ∙ put-again before (row_bytes * subject) (row_for kind counts) ∙ sym e

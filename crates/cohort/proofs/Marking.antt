-- Laws of the marks of the slots that have their score, by what a field puts into the table.
use Prim.Native.Nat.{ℕ, ◌*◌, ◌<◌, ◌≤◌}
use native.Mathlib.Omega.{arith}
use native.Mathlib.Decide.{dec_lt, ℕ_discrete}
use mathlib.Core.Path.{◌≡◌, sym, ap, ◌∙◌}
use mathlib.Core.List.{List, [], ◌++◌}
use lib.ListN.{length, get_or, set, replicate, length-replicate, length-set, get_or-replicate, get_or-eq_default}
use lib.Seq.{get_or-set_same, get_or-set_other}
use Rattle.paper.specs.Limits.{slots, row_bytes, most_slots, top_score}
use Rattle.paper.specs.Words.{◌≠?◌}
use Rattle.scores.specs.Scores.{scaled, found}
use Rattle.scores.specs.Rows.{stored}
use Rattle.scores.proofs.Rowed.{there-slot}
use Rattle.scores.proofs.Filling.{found-stored, stored_other}
use Rattle.scores.proofs.Within.{found-empty, found-more}
use Rattle.held.specs.Taking.{new_row}
use Rattle.held.specs.Judging.{given}
use Rattle.cohort.specs.Inner.{Marked}
use Rattle.cohort.specs.InnerValues.{slot_place, is_marked}

-- no slot is marked, and there is no row
unmarked : (n i : ℕ) → ◌≡◌ {A = ℕ} (get_or (replicate n 0) i 0) 0
unmarked n i = go (dec_lt i n)
  where
    go : Dec (i < n) → ◌≡◌ {A = ℕ} (get_or (replicate n 0) i 0) 0
    go (yes h) = get_or-replicate {A = ℕ} n i 0 0 h
    go (no h) = get_or-eq_default (replicate n 0) 0 (omega (arith, length-replicate {A = ℕ} n 0))

pub marked_start : Marked [] (replicate most_slots 0)
marked_start =
    record {
      long = length-replicate {A = ℕ} most_slots 0;
      scores = λ subject slot a b. ap (λ (k : ℕ). k ≠? 0) (unmarked most_slots (slot_place subject slot)) ∙ sym (ap given (found-empty subject slot));
    }

module _ (table marks : List ℕ) (n : ℕ) (rows_are : length table ≡ n * row_bytes) (marked : Marked table marks) where
  -- a row more, with every slot missing
  pub marked_row : Marked (table ++ new_row) marks
  unfolding new_row
  marked_row = record { long = marked.long; scores = λ subject slot a b. marked.scores subject slot a b ∙ sym (ap given (found-more table n (omega arith) subject slot)) }

  -- a score in a slot: it is marked there, and every other slot has the mark that it had
  pub marked-score : (subject slot score : ℕ) → subject < n → n * slots ≤ most_slots → 1 ≤ slot → slot ≤ slots → score ≤ top_score
      → Marked (stored table subject slot score) (set marks (slot_place subject slot) 1)
  marked-score subject slot score h few from to top =
      record { long = length-set marks at 1 ∙ marked.long; scores = λ other number a b. go other number a b (ℕ_discrete (slot_place other number) at) }
    where
      at : ℕ
      at = slot_place subject slot

      after : List ℕ
      after = stored table subject slot score

      there : found after subject slot ≡ scaled score
      there = found-stored table subject slot score (there-slot table subject slot (omega arith) from to) top

      go : (other number : ℕ) → 1 ≤ number → number ≤ slots → Dec (slot_place other number ≡ at) → is_marked (set marks at 1) other number ≡ given (found after other number)
      go other number a b (yes e) =
          let own : other ≡ subject = omega arith in
          let same : number ≡ slot = omega arith in
          ap (λ (k : ℕ). get_or (set marks at 1) k 0 ≠? 0) e
          ∙ ap (λ (k : ℕ). k ≠? 0) (get_or-set_same marks at 1 0 (omega (arith, marked.long)))
          ∙ sym (ap (λ (s : ℕ). given (found after s number)) own ∙ ap (λ (k : ℕ). given (found after subject k)) same ∙ ap given there)
      go other number a b (no e) =
          ap (λ (k : ℕ). k ≠? 0) (get_or-set_other marks at (slot_place other number) 1 0 e)
          ∙ marked.scores other number a b
          ∙ sym (ap given (stored_other table subject slot score other number (λ z. e (omega (arith, z.0, z.1)))))

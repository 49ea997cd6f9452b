-- Filling a subject's row, which is its own part of the lent table.
use Rattle.std.specs.Prelude.{ℕ, zero, suc, ◌*◌, List, [], ◌++◌, replicate}
use Rattle.paper.specs.Limits.{slots, row_bytes, missing_byte}
use Rattle.paper.specs.Words.{when◌then◌else◌}
use Rattle.paper.specs.Bytes.{long_bytes}
use Rattle.paper.specs.Parts.{laid, put}
use Rattle.scores.specs.Scores.{has_slot, slot_at}

-- a row by what each slot holds, slot 1 first: n slots from k on, and all of them
unfoldable pub slots_from : ℕ → ℕ → (ℕ → ℕ) → List ℕ
slots_from k zero holds = []
slots_from k (suc n) holds = long_bytes (holds k) ++ slots_from (suc k) n holds

abbrev pub row_of : (ℕ → ℕ) → List ℕ
row_of holds = slots_from 1 slots holds

-- a row with every slot missing
abbrev pub missing_row : List ℕ
missing_row = replicate row_bytes missing_byte

-- table, subject, row: the table with the row in place of the subject's; as it was where there is no such row
abbrev pub with_row : List ℕ → ℕ → List ℕ → List ℕ
with_row table subject row = put table (row_bytes * subject) row

-- table, subject: the table after the subject's row is filled, all missing; as it was where there is no such row
unfoldable pub cleared : List ℕ → ℕ → List ℕ
cleared table subject = with_row table subject missing_row

-- table, subject, slot, score: the table after a score is stored; as it was where there is no such row or slot
unfoldable pub stored : List ℕ → ℕ → ℕ → ℕ → List ℕ
stored table subject slot score = when has_slot table subject slot then laid table (slot_at subject slot) (long_bytes score) else table

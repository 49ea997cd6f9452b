-- The lent score table: a row of 100 slots to a subject, in catalogue order, slot 1 first; scores are in ten-thousandths.
use Rattle.std.specs.Prelude.{ℕ, ◌+◌, ◌-◌, ◌*◌, ◌/◌, Bool, ◌&&◌, List, length}
use Rattle.paper.specs.Limits.{slots, slot_bytes, row_bytes, missing, top_score}
use Rattle.paper.specs.Letters.{letter_a, letter_b, letter_c, letter_d, letter_e}
use Rattle.paper.specs.Words.{◌<?◌, ◌=?◌, when◌then◌else◌}
use Rattle.paper.specs.Ranges.{within}
use Rattle.paper.specs.Bytes.{long, records}
use Rattle.catalogue.specs.Kinds.{is_general, is_applied, is_vet}

-- the whole rows of a table
abbrev pub rows : List ℕ → ℕ
rows table = records row_bytes table

-- bytes of a table, subject, slot: there is a slot of this number in the subject's row
abbrev pub slot_in : ℕ → ℕ → ℕ → Bool
slot_in bytes subject slot = subject <? bytes / row_bytes && within 1 slots slot

-- table, subject, slot: the same of a table
abbrev pub has_slot : List ℕ → ℕ → ℕ → Bool
has_slot table subject slot = slot_in (length table) subject slot

-- where it begins, in its row and in the table
abbrev pub in_row : ℕ → ℕ
in_row slot = slot_bytes * (slot - 1)

abbrev pub slot_at : ℕ → ℕ → ℕ
slot_at subject slot = row_bytes * subject + in_row slot

-- what it holds; past the table it is missing
abbrev pub slot_value : List ℕ → ℕ → ℕ → ℕ
slot_value table subject slot = when has_slot table subject slot then long table (slot_at subject slot) else missing

-- what is found in a slot: a score; nothing; or a number over the greatest score
pub data Found : Type 0 where
  scaled : ℕ → Found
  absent : Found
  too_high : Found

abbrev pub valued : ℕ → Found
valued value = when value =? missing then absent else when top_score <? value then too_high else scaled value

unfoldable pub found : List ℕ → ℕ → ℕ → Found
found table subject slot = valued (slot_value table subject slot)

-- the slot of an Applied letter; another letter has none, which is 0
abbrev pub letter_slot : ℕ → ℕ
letter_slot letter =
    when letter =? letter_a then 90
    else when letter =? letter_b then 70
    else when letter =? letter_c then 50
    else when letter =? letter_d then 30
    else when letter =? letter_e then 10
    else 0

-- kind, letter, number: the slot of a result. General has that of its number, Applied that of its letter, VET slot 1; a short course has none
unfoldable pub slot_of : ℕ → ℕ → ℕ → ℕ
slot_of kind letter number =
    when is_general kind then number
    else when is_applied kind then letter_slot letter
    else when is_vet kind then 1
    else 0

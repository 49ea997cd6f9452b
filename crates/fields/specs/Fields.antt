-- The fields of a cohort file: a tag of one byte, a length of two, a value of that length.
use Rattle.std.specs.Prelude.{ℕ, zero, suc, ◌+◌, ◌*◌, List, [], ◌∷◌, ◌++◌, length, take, drop}
use Rattle.paper.specs.Limits.{entry_bytes, result_bytes, figure_bytes, figure_count, slot_bytes}
use Rattle.paper.specs.Words.{◌≤?◌, ◌<?◌, ◌=?◌, when◌then◌else◌}
use Rattle.paper.specs.Bytes.{byte, word, word_bytes}

pub record Field : Type 0 where
  pub tag : ℕ
  pub value : List ℕ

-- the bytes of a field: its tag, its length in two bytes, its value; and of fields, one after another
abbrev pub field_bytes : Field → List ℕ
field_bytes f = f.tag ∷ (word_bytes (length f.value) ++ f.value)

unfoldable pub file_of : List Field → List ℕ
file_of [] = []
file_of (f ∷ fs) = field_bytes f ++ file_of fs

-- what stands in a file, beside the offset of its tag: a whole field, or one that the file's end cuts short
pub data Piece : Type 0 where
  whole : ℕ → Field → Piece
  cut : ℕ → Piece

-- the bytes of a tag and a length
abbrev pub head_bytes : ℕ
head_bytes = 3

-- the field at offset p, and the offset past it
abbrev pub value_at : List ℕ → ℕ → List ℕ
value_at file p = take (word file (p + 1)) (drop (p + head_bytes) file)

abbrev pub field_at : List ℕ → ℕ → Field
field_at file p = record { tag = byte file p; value = value_at file p }

abbrev pub past : List ℕ → ℕ → ℕ
past file p = p + head_bytes + word file (p + 1)

-- what stands from offset p on, n pieces at most
unfoldable pub pieces : ℕ → List ℕ → ℕ → List Piece
pieces zero file p = []
pieces (suc n) file p = when length file ≤? p then [] else when length file <? past file p then cut p ∷ [] else whole p (field_at file p) ∷ pieces n file (past file p)

-- all that stands in a file: no more pieces than it has bytes
abbrev pub pieces_of : List ℕ → List Piece
pieces_of file = pieces (length file) file 0

-- the fields that are whole
abbrev pub fields_in : List Piece → List Field
fields_in [] = []
fields_in (whole p f ∷ ps) = f ∷ fields_in ps
fields_in (cut p ∷ ps) = fields_in ps

-- no field is cut short
abbrev pub Uncut : List Piece → Type 0
Uncut [] = Unit {0}
Uncut (whole p f ∷ ps) = Uncut ps
Uncut (cut p ∷ ps) = ⊥

-- fields from offset p on, each beside its own offset
abbrev pub beside_offsets : ℕ → List Field → List Piece
beside_offsets p [] = []
beside_offsets p (f ∷ fs) = whole p f ∷ beside_offsets (p + length (field_bytes f)) fs

-- the bytes of a year, of a score (subject, slot, score), of a student's id
abbrev pub year_bytes : ℕ
year_bytes = 2

abbrev pub score_bytes : ℕ
score_bytes = 2 + 1 + slot_bytes

abbrev pub id_bytes : ℕ
id_bytes = 4

-- the bytes that the value of a tag has: year, catalogue entry, score, figures, student, result; of another tag 0, which is refused for itself
abbrev pub length_of : ℕ → ℕ
length_of tag =
    when tag =? 1 then year_bytes
    else when tag =? 2 then entry_bytes
    else when tag =? 3 then score_bytes
    else when tag =? 4 then figure_count * figure_bytes
    else when tag =? 5 then id_bytes
    else when tag =? 6 then result_bytes
    else 0

-- The definitions on small examples, computed.
use Prim.Native.Nat.{ℕ, ◌*◌}
use mathlib.Core.Path.{◌≡◌, refl}
use mathlib.Core.List.{List, [], ◌∷◌, ◌++◌}
use lib.ListN.{take, drop, replicate}
use Rattle.paper.specs.Letters.{letter_a, letter_b, letter_c, letter_d, letter_e, letter_y}
use Rattle.paper.specs.Bytes.{word, long, word_bytes, long_bytes}
use Rattle.paper.specs.Parts.{laid, put}
use Rattle.catalogue.specs.Kinds.{general, extension, external_examination, applied, short_course, vet}
use Rattle.scores.specs.Scores.{scaled, absent, too_high, found, slot_of}
use Rattle.scores.specs.Rows.{slots_from, row_of, cleared, stored}

-- the slot of 85 in each kind of General; of Applied A to E, and F; of a certificate; of a short course
pub slots : (slot_of general letter_a 85 ≡ 85) × (slot_of extension letter_a 85 ≡ 85) × (slot_of external_examination letter_a 85 ≡ 85) × (slot_of applied letter_a 0 ≡ 90) × (slot_of applied letter_b 0 ≡ 70)
    × (slot_of applied letter_c 0 ≡ 50) × (slot_of applied letter_d 0 ≡ 30) × (slot_of applied letter_e 0 ≡ 10) × (slot_of applied 70 0 ≡ 0) × (slot_of vet letter_y 0 ≡ 1) × (slot_of short_course letter_a 0 ≡ 0)
unfolding slot_of
slots = (refl, refl, refl, refl, refl, refl, refl, refl, refl, refl, refl)

-- a table of two rows: 100.0000, 100.0001 and missing begin the first, and 99.9999 ends the second
abbrev pub table : List ℕ
table = 0 ∷ 15 ∷ 66 ∷ 64 ∷ 0 ∷ 15 ∷ 66 ∷ 65 ∷ 255 ∷ 255 ∷ 255 ∷ 255 ∷ (replicate 784 0 ++ (0 ∷ 15 ∷ 66 ∷ 63 ∷ []))

pub scores : (found table 0 1 ≡ scaled 1000000) × (found table 0 2 ≡ too_high) × (found table 0 3 ≡ absent) × (found table 0 4 ≡ scaled 0) × (found table 0 0 ≡ absent) × (found table 0 101 ≡ absent)
    × (found table 1 100 ≡ scaled 999999) × (found table 2 1 ≡ absent)
unfolding found word long
scores = (refl, refl, refl, refl, refl, refl, refl, refl)

-- a row by what each slot holds: slot 1 first, four bytes to each
pub in_a_row : take 8 (row_of (λ j. j * 65536)) ≡ 0 ∷ 1 ∷ 0 ∷ 0 ∷ 0 ∷ 2 ∷ 0 ∷ 0 ∷ []
unfolding slots_from word_bytes long_bytes
in_a_row = refl

-- the first row cleared; 6.6051 stored in the second, the highest of its four bytes first; no row 2, no slots 0 and 101; what is stored is not judged
pub filling : (found (cleared table 0) 0 1 ≡ absent) × (found (cleared table 0) 0 100 ≡ absent) × (found (cleared table 0) 1 100 ≡ scaled 999999) × (cleared table 2 ≡ table)
    × (found (stored table 1 1 66051) 1 1 ≡ scaled 66051) × (take 5 (drop 399 (stored table 1 1 66051)) ≡ 0 ∷ 0 ∷ 1 ∷ 2 ∷ 3 ∷ []) × (found (stored table 1 1 66051) 0 1 ≡ scaled 1000000)
    × (stored table 2 1 66051 ≡ table) × (stored table 0 0 66051 ≡ table) × (stored table 0 101 66051 ≡ table) × (found (stored table 1 1 1000001) 1 1 ≡ too_high)
unfolding found word long cleared stored put laid word_bytes long_bytes
filling = (refl, refl, refl, refl, refl, refl, refl, refl, refl, refl, refl)

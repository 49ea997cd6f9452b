-- The score table's slots, computed.
use Prim.Native.Nat.{ℕ}
use mathlib.Core.Path.{◌≡◌, refl}
use mathlib.Core.List.{List, [], ◌∷◌, ◌++◌}
use lib.ListN.{replicate}
use Rattle.paper.specs.Bytes.{word, long}
use Rattle.paper.specs.Lists.{listed}
use Rattle.paper.specs.Letters.{letter_a, letter_e, letter_n, letter_y}
use Rattle.catalogue.specs.Kinds.{general, extension, external_examination, vet}
use Rattle.catalogue.proofs.ByHandEntries.{bytes}
use Rattle.scores.specs.Scores.{slot_in, slot_at, scaled, absent, too_high, valued, found, slot_of}

-- 100 slots to a subject, from 1 on; 400 bytes to a row: with two of them there are subjects 0 and 1
pub slots : (bytes (slot_in 800 1) ≡ listed 1 100 (λ i. i)) × (bytes (λ subject. slot_in 800 subject 1) ≡ 0 ∷ 1 ∷ []) × (bytes (λ subject. slot_in 799 subject 1) ≡ 0 ∷ [])
    × (bytes (λ subject. slot_in 400 subject 1) ≡ 0 ∷ []) × (bytes (λ subject. slot_in 399 subject 1) ≡ [])
unfolding listed
slots = (refl, refl, refl, refl, refl)

-- of 32 bits, in catalogue order, slot 1 first
pub places : (slot_at 0 1 ≡ 0) × (slot_at 0 2 ≡ 4) × (slot_at 0 100 ≡ 396) × (slot_at 1 1 ≡ 400) × (slot_at 63 100 ≡ 25596)
places = (refl, refl, refl, refl, refl)

-- in ten-thousandths, 0 to 1000000; 4294967295 means missing; what were the top, one more than it and missing in hundredths are scores
pub values : (valued 0 ≡ scaled 0) × (valued 1 ≡ scaled 1) × (valued 10000 ≡ scaled 10000) × (valued 10001 ≡ scaled 10001) × (valued 65535 ≡ scaled 65535) × (valued 999999 ≡ scaled 999999)
    × (valued 1000000 ≡ scaled 1000000) × (valued 1000001 ≡ too_high) × (valued 4294967294 ≡ too_high) × (valued 4294967295 ≡ absent)
values = (refl, refl, refl, refl, refl, refl, refl, refl, refl, refl)

-- a table of one row, with three slots missing: any slot may be, the first, the last and one between; the highest byte first; a slot of which not all
-- bytes are 255 is not missing
abbrev pub gaps : List ℕ
gaps = 255 ∷ 255 ∷ 255 ∷ 255 ∷ 0 ∷ 1 ∷ 2 ∷ 3 ∷ 255 ∷ 255 ∷ 255 ∷ 255 ∷ 0 ∷ 0 ∷ 255 ∷ 255 ∷ 255 ∷ 255 ∷ 0 ∷ 0 ∷ (replicate 376 0 ++ (255 ∷ 255 ∷ 255 ∷ 255 ∷ []))

pub missings : (found gaps 0 1 ≡ absent) × (found gaps 0 2 ≡ scaled 66051) × (found gaps 0 3 ≡ absent) × (found gaps 0 4 ≡ scaled 65535) × (found gaps 0 5 ≡ too_high) × (found gaps 0 6 ≡ scaled 0)
    × (found gaps 0 99 ≡ scaled 0) × (found gaps 0 100 ≡ absent)
unfolding found word long
missings = (refl, refl, refl, refl, refl, refl, refl, refl)

-- General uses the slot of its number (1 to 100), whatever its letter
pub numbers : (slot_of general letter_a 1 ≡ 1) × (slot_of general letter_a 100 ≡ 100) × (slot_of general letter_e 85 ≡ 85) × (slot_of extension letter_a 1 ≡ 1) × (slot_of extension letter_e 100 ≡ 100)
    × (slot_of external_examination letter_a 1 ≡ 1) × (slot_of external_examination letter_e 100 ≡ 100)
unfolding slot_of
numbers = (refl, refl, refl, refl, refl, refl, refl)

-- VET uses slot 1, whatever its letter
pub certificates : (slot_of vet letter_y 0 ≡ 1) × (slot_of vet letter_n 0 ≡ 1)
unfolding slot_of
certificates = (refl, refl)

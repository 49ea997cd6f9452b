-- The order in which a file is judged: size, then fields in order, each for 1, then 2, then its values, then the end; by computing.
use Prim.Native.Nat.{ℕ}
use mathlib.Core.Path.{◌≡◌, refl}
use mathlib.Core.List.{List, [], ◌∷◌, ◌++◌}
use lib.ListN.{replicate}
use Rattle.paper.specs.Lists.{sum, first, listed}
use Rattle.paper.specs.Bytes.{word, long, word_bytes, long_bytes}
use Rattle.paper.specs.Parts.{laid}
use Rattle.paper.specs.Rounding.{nearest}
use Rattle.paper.specs.Rulings.{Outcome, accepted, refused, ◌at◌, judged, number_in, values_or}
use Rattle.catalogue.specs.Catalogue.{outside}
use Rattle.scores.specs.Scores.{found}
use Rattle.scores.specs.Rows.{stored}
use Rattle.curve.specs.Population.{S, E}
use Rattle.fields.specs.Fields.{pieces}
use Rattle.held.specs.Held.{nothing, ids_of, counts_of}
use Rattle.held.specs.Taking.{new_row}
use Rattle.held.specs.Judging.{holds_id}
use Rattle.held.specs.Reading.{Reader, field_rules, body, reading}
use Rattle.held.proofs.ByHand.{field, year, english, score, people, student, other, result}

-- a field at offset 8, where so far a file is read (last tag, subjects, students, results of the latest) with nothing held
abbrev read_to : ℕ → ℕ → ℕ → ℕ → Reader
read_to last subjects students latest = record { far = record { last = last; subjects = subjects; students = students; latest = latest }; held = nothing }

abbrev judged_at : Reader → ℕ → List ℕ → Outcome (Unit {0})
judged_at so tag v = judged (field_rules so (record { tag = tag; value = v }) 8) tt

abbrev refuses : ℕ → Outcome (Unit {0})
refuses number = refused (number at 8)

-- each for 1, then its values: a year of 1983 that is too long; a tag 2 of kind 0 after a tag 3; a tag 3 of no subject after
-- the tag 4, and one that is too short, of six bytes and of an old score's five; a second tag 4 with E zero
pub one-before_values :
    (judged_at (read_to 0 0 0 0) 1 (7 ∷ 191 ∷ 0 ∷ []) ≡ refuses 1)
    × (judged_at (read_to 0 0 0 0) 1 (7 ∷ 191 ∷ []) ≡ refuses 14)
    × (judged_at (read_to 3 1 0 0) 2 (0 ∷ 0 ∷ 0 ∷ 0 ∷ 0 ∷ []) ≡ refuses 1)
    × (judged_at (read_to 2 1 0 0) 2 (0 ∷ 0 ∷ 0 ∷ 0 ∷ 0 ∷ []) ≡ refuses 3)
    × (judged_at (read_to 4 1 0 0) 3 (replicate 7 0) ≡ refuses 1)
    × (judged_at (read_to 3 1 0 0) 3 (replicate 6 0) ≡ refuses 1)
    × (judged_at (read_to 3 1 0 0) 3 (replicate 5 0) ≡ refuses 1)
    × (judged_at (read_to 3 1 0 0) 3 (replicate 7 0) ≡ refuses 3)
    × (judged_at (read_to 4 1 0 0) 4 (replicate 40 0) ≡ refuses 1)
    × (judged_at (read_to 3 1 0 0) 4 (replicate 40 0) ≡ refuses 9)
unfolding word long listed sum first nearest S E outside
one-before_values = (refl, refl, refl, refl, refl, refl, refl, refl, refl, refl)

-- then 2, then its values: a 65th subject of kind 0, and a 64th; a 513th student whose id comes again, and a 512th
abbrev again : ℕ → Reader
again students = record {
  far = record { last = 6; subjects = 1; students = students; latest = 1 };
  held = record { year = 2021; catalogue = []; table = []; figures = []; students = record { id = 260; results = [] } ∷ [] };
}

pub two-before_values :
    (judged_at (read_to 2 64 0 0) 2 (0 ∷ 0 ∷ 0 ∷ 0 ∷ 0 ∷ []) ≡ refuses 2)
    × (judged_at (read_to 2 63 0 0) 2 (0 ∷ 0 ∷ 0 ∷ 0 ∷ 0 ∷ []) ≡ refuses 3)
    × (judged_at (again 512) 5 (0 ∷ 0 ∷ 1 ∷ 4 ∷ []) ≡ refuses 2)
    × (judged_at (again 511) 5 (0 ∷ 0 ∷ 1 ∷ 4 ∷ []) ≡ refuses 6)
unfolding word long first outside holds_id
two-before_values = (refl, refl, refl, refl)

-- a student's 16th tag 6 is taken
pub sixteenth : judged_at (read_to 6 1 1 15) 6 (replicate 6 0) ≡ accepted tt
sixteenth = refl

-- fields in order: of two that are wrong the first decides, its values before the 1 of the next, and before the file's end
pub first-decides :
    (reading (year ++ field 2 (0 ∷ 0 ∷ 0 ∷ 0 ∷ 0 ∷ []) ++ field 7 []) ≡ refused (3 at 5))
    × (reading (year ++ field 7 [] ++ field 2 (0 ∷ 0 ∷ 0 ∷ 0 ∷ 0 ∷ [])) ≡ refused (1 at 5))
    × (reading (year ++ people 40 8 ++ (5 ∷ [])) ≡ refused (10 at 5))
unfolding word long nearest sum first listed outside found laid word_bytes long_bytes stored S E pieces new_row body reading
first-decides = (refl, refl, refl)

-- a file that ends before its tag 1 or 4 is 1 at the file's length: after a tag 2, after a tag 3
pub ends-early : (reading (year ++ english) ≡ refused (1 at 13)) × (reading (year ++ english ++ score) ≡ refused (1 at 23))
unfolding word long first outside found laid word_bytes long_bytes stored pieces new_row body reading
ends-early = (refl, refl)

-- a file may end after its tag 4, after a tag 5 and after a tag 6: no subject, no student; a student with no result
abbrev enrolled : List ℕ → List (List ℕ)
enrolled file = let held = values_or nothing (reading file) in (number_in (reading file) ∷ []) ∷ ids_of held.students ∷ counts_of held.students ∷ []

pub may_end :
    (enrolled (year ++ people 40 20) ≡ (0 ∷ []) ∷ [] ∷ [] ∷ [])
    × (enrolled (year ++ people 40 20 ++ student) ≡ (0 ∷ []) ∷ (260 ∷ []) ∷ (0 ∷ []) ∷ [])
    × (enrolled (year ++ people 40 20 ++ student ++ result) ≡ (0 ∷ []) ∷ (260 ∷ []) ∷ (1 ∷ []) ∷ [])
    × (enrolled (year ++ people 40 20 ++ student ++ other ++ result) ≡ (0 ∷ []) ∷ (260 ∷ 261 ∷ []) ∷ (0 ∷ 1 ∷ []) ∷ [])
unfolding word long nearest sum first listed S E pieces holds_id body reading
may_end = (refl, refl, refl, refl)

-- a field cut short is 1 at its tag, and not at the file's length: in its tag's length, in its value; the last field of a file that could have ended before it
pub cut-fields :
    (reading (1 ∷ []) ≡ refused (1 at 0))
    × (reading (1 ∷ 0 ∷ 2 ∷ 7 ∷ []) ≡ refused (1 at 0))
    × (reading (year ++ (4 ∷ 0 ∷ [])) ≡ refused (1 at 5))
    × (reading (year ++ people 40 20 ++ (5 ∷ 0 ∷ 4 ∷ 0 ∷ 0 ∷ 0 ∷ [])) ≡ refused (1 at 48))
    × (reading (year ++ people 40 20 ++ student ++ (6 ∷ [])) ≡ refused (1 at 55))
unfolding word long nearest sum first listed S E pieces holds_id body reading
cut-fields = (refl, refl, refl, refl, refl)

-- size is tested first: 65537 bytes that are one field cut short, and 65536
pub size : (reading (replicate 65537 255) ≡ refused (2 at 65536)) × (reading (replicate 65536 255) ≡ refused (1 at 0))
unfolding word pieces body reading
size = (refl, refl)

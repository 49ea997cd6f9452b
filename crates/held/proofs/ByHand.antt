-- Small files, read by computing.
use Prim.Native.Nat.{ℕ}
use mathlib.Core.Path.{◌≡◌, refl}
use mathlib.Core.List.{List, [], ◌∷◌, ◌++◌}
use lib.ListN.{length, replicate}
use Rattle.paper.specs.Letters.{letter_a}
use Rattle.paper.specs.Lists.{sum, first, listed}
use Rattle.paper.specs.Bytes.{word, long, word_bytes, long_bytes}
use Rattle.paper.specs.Parts.{laid}
use Rattle.paper.specs.Rounding.{nearest}
use Rattle.paper.specs.Rulings.{Outcome, accepted, refused, ◌at◌, place_of, number_of}
use Rattle.catalogue.specs.Catalogue.{outside}
use Rattle.scores.specs.Scores.{slot_value, found}
use Rattle.scores.specs.Rows.{stored}
use Rattle.curve.specs.Population.{S, E}
use Rattle.fields.specs.Fields.{pieces}
use Rattle.held.specs.Held.{Held, results_of, ids_of, counts_of}
use Rattle.held.specs.Taking.{new_row}
use Rattle.held.specs.Judging.{holds_id}
use Rattle.held.specs.Reading.{body, reading}
use Rattle.held.specs.Promise.{summary_of}

-- a field of at most 255 bytes
abbrev pub field : ℕ → List ℕ → List ℕ
field tag v = tag ∷ 0 ∷ length v ∷ v

-- 2021; English; its slot 2 is 50.0000
abbrev pub year : List ℕ
year = field 1 (7 ∷ 229 ∷ [])

abbrev pub english : List ℕ
english = field 2 (1 ∷ 1 ∷ 0 ∷ 0 ∷ 9 ∷ [])

abbrev pub score : List ℕ
score = field 3 (0 ∷ 0 ∷ 2 ∷ 0 ∷ 7 ∷ 161 ∷ 32 ∷ [])

-- Q17 is q and E17 is e; the other figures are 0
abbrev pub people : ℕ → ℕ → List ℕ
people q e = field 4 (replicate 7 0 ++ (q ∷ replicate 19 0) ++ (e ∷ replicate 12 0))

-- the students 260 and 261, and a result
abbrev pub student : List ℕ
student = field 5 (0 ∷ 0 ∷ 1 ∷ 4 ∷ [])

abbrev pub other : List ℕ
other = field 5 (0 ∷ 0 ∷ 1 ∷ 5 ∷ [])

abbrev pub grade : List ℕ
grade = 0 ∷ 0 ∷ letter_a ∷ 2 ∷ 7 ∷ 229 ∷ []

abbrev pub result : List ℕ
result = field 6 grade

-- what is held, the table by its length and three slots; or the number and the place
abbrev shown : Outcome Held → List (List ℕ)
shown (accepted h) =
    ((summary_of h).year ∷ (summary_of h).subjects ∷ (summary_of h).students ∷ (summary_of h).population ∷ (summary_of h).rate ∷ [])
    ∷ h.catalogue
    ∷ (length h.table ∷ slot_value h.table 0 1 ∷ slot_value h.table 0 2 ∷ slot_value h.table 0 3 ∷ [])
    ∷ h.figures
    ∷ ids_of h.students
    ∷ counts_of h.students
    ∷ results_of h.students
    ∷ []
shown (refused f) = (number_of f ∷ place_of f ∷ []) ∷ []

-- 1 subject, 2 students
pub whole-file : shown (reading (year ++ english ++ score ++ people 40 20 ++ student ++ result ++ result ++ other ++ result))
    ≡ (2021 ∷ 1 ∷ 2 ∷ 40 ∷ 5000 ∷ []) ∷ (1 ∷ 1 ∷ 0 ∷ 0 ∷ 9 ∷ []) ∷ (400 ∷ 4294967295 ∷ 500000 ∷ 4294967295 ∷ []) ∷ (0 ∷ 40 ∷ 0 ∷ 0 ∷ 0 ∷ 0 ∷ 20 ∷ 0 ∷ 0 ∷ 0 ∷ [])
    ∷ (260 ∷ 261 ∷ []) ∷ (2 ∷ 1 ∷ []) ∷ (grade ++ grade ++ grade) ∷ []
unfolding word long nearest sum first listed outside found laid word_bytes long_bytes stored S E pieces results_of holds_id new_row body reading
whole-file = refl

-- 1: the empty file, a year only; a second tag 1, a tag 2 before it, a tag 5 before the tag 4, a tag 2 after a tag 3, a tag 6 with no student;
-- a field cut short, an unknown tag, a wrong length, and the five bytes of a score in hundredths
pub malformed :
    (reading [] ≡ refused (1 at 0))
    × (reading year ≡ refused (1 at 5))
    × (reading (year ++ year) ≡ refused (1 at 5))
    × (reading english ≡ refused (1 at 0))
    × (reading (year ++ student) ≡ refused (1 at 5))
    × (reading (year ++ english ++ score ++ english) ≡ refused (1 at 23))
    × (reading (year ++ people 40 20 ++ result) ≡ refused (1 at 48))
    × (reading (year ++ (2 ∷ 0 ∷ 5 ∷ 1 ∷ [])) ≡ refused (1 at 5))
    × (reading (year ++ field 7 []) ≡ refused (1 at 5))
    × (reading (year ++ field 2 (1 ∷ 1 ∷ 0 ∷ 9 ∷ [])) ≡ refused (1 at 5))
    × (reading (year ++ english ++ field 3 (0 ∷ 0 ∷ 2 ∷ 19 ∷ 136 ∷ [])) ≡ refused (1 at 13))
unfolding word long nearest sum first listed outside found laid word_bytes long_bytes stored S E pieces results_of holds_id new_row body reading
malformed = (refl, refl, refl, refl, refl, refl, refl, refl, refl, refl, refl)

-- 14: 1983, though the file is cut later; 3: strand 3, a subject that is not there; 5: slot 0, value 1000001, but not 1000000, after which the file
-- ends too early; 6: a slot again, an id again; 9: E zero; 10: r = 2000; a wrong value is answered after its 1; 2: a 17th result
pub values-judged :
    (reading (field 1 (7 ∷ 191 ∷ []) ++ (2 ∷ [])) ≡ refused (14 at 0))
    × (reading (year ++ field 2 (1 ∷ 3 ∷ 0 ∷ 0 ∷ 9 ∷ [])) ≡ refused (3 at 5))
    × (reading (year ++ score) ≡ refused (3 at 5))
    × (reading (year ++ english ++ field 3 (0 ∷ 0 ∷ 0 ∷ 0 ∷ 0 ∷ 0 ∷ 0 ∷ [])) ≡ refused (5 at 13))
    × (reading (year ++ english ++ field 3 (0 ∷ 0 ∷ 1 ∷ 0 ∷ 15 ∷ 66 ∷ 65 ∷ [])) ≡ refused (5 at 13))
    × (reading (year ++ english ++ field 3 (0 ∷ 0 ∷ 1 ∷ 0 ∷ 15 ∷ 66 ∷ 64 ∷ [])) ≡ refused (1 at 23))
    × (reading (year ++ english ++ score ++ score) ≡ refused (6 at 23))
    × (reading (year ++ people 40 20 ++ student ++ other ++ student) ≡ refused (6 at 62))
    × (reading (year ++ people 40 0) ≡ refused (9 at 5))
    × (reading (year ++ people 40 8) ≡ refused (10 at 5))
    × (reading (year ++ field 1 (7 ∷ 191 ∷ [])) ≡ refused (1 at 5))
    × (reading (year ++ people 40 20 ++ student ++ result ++ result ++ result ++ result ++ result ++ result ++ result ++ result ++ result ++ result ++ result ++ result ++ result ++ result ++ result ++ result ++ result) ≡ refused (2 at 199))
unfolding word long nearest sum first listed outside found laid word_bytes long_bytes stored S E pieces results_of holds_id new_row body reading
values-judged = (refl, refl, refl, refl, refl, refl, refl, refl, refl, refl, refl, refl)

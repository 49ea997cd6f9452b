-- What each tag adds to what is held, and what the buffers then show, by computing.
use Prim.Native.Nat.{ℕ, ◌+◌}
use mathlib.Core.Path.{◌≡◌, refl}
use mathlib.Core.Bool.{false}
use mathlib.Core.List.{List, [], ◌∷◌, ◌++◌}
use lib.ListN.{replicate}
use Rattle.paper.specs.Limits.{slots}
use Rattle.paper.specs.Lists.{first, some, listed}
use Rattle.paper.specs.Bytes.{word, long, word_bytes, long_bytes}
use Rattle.paper.specs.Parts.{laid}
use Rattle.scores.specs.Scores.{found}
use Rattle.scores.specs.Rows.{stored}
use Rattle.held.specs.Held.{Enrolled, Held, results_of}
use Rattle.held.specs.Taking.{new_row, taken}
use Rattle.held.specs.Judging.{given}
use Rattle.held.specs.Promise.{lent, written}

abbrev enrolled : ℕ → List ℕ → Enrolled
enrolled id results = record { id = id; results = results }

abbrev holding : ℕ → List ℕ → List ℕ → List ℕ → List Enrolled → Held
holding year catalogue table figures students = record { year = year; catalogue = catalogue; table = table; figures = figures; students = students }

-- two students, of whom the first has a result
abbrev two : List Enrolled
two = enrolled 7 (1 ∷ 2 ∷ 3 ∷ 4 ∷ 5 ∷ 6 ∷ []) ∷ enrolled 8 [] ∷ []

-- something of each kind is held; with a field more
abbrev plus : ℕ → List ℕ → Held
plus tag v = taken (holding 2000 (31 ∷ []) (32 ∷ []) (33 ∷ []) two) (record { tag = tag; value = v })

-- the year, 2021; and nothing else
pub year-added : plus 1 (7 ∷ 229 ∷ []) ≡ holding 2021 (31 ∷ []) (32 ∷ []) (33 ∷ []) two
unfolding word
year-added = refl

-- a catalogue entry, and the subject's row, after those that are held
pub subject-added : plus 2 (1 ∷ 2 ∷ 0 ∷ 4 ∷ 5 ∷ []) ≡ holding 2000 (31 ∷ 1 ∷ 2 ∷ 0 ∷ 4 ∷ 5 ∷ []) (32 ∷ replicate 400 255) (33 ∷ []) two
unfolding new_row
subject-added = refl

-- slots not given are missing, all hundred of a new row
pub slots-missing : some slots (λ i. given (found new_row 0 (i + 1))) ≡ false
unfolding new_row first found word long
slots-missing = refl

-- a score in its subject's slot: slot 2 of the first of two, and slot 100 of the second; every other byte as it was
abbrev with_score : List ℕ → Held
with_score v = taken (holding 2000 (31 ∷ []) (replicate 800 255) (33 ∷ []) two) (record { tag = 3; value = v })

pub score-added :
    (with_score (0 ∷ 0 ∷ 2 ∷ 0 ∷ 1 ∷ 2 ∷ 3 ∷ []) ≡ holding 2000 (31 ∷ []) (255 ∷ 255 ∷ 255 ∷ 255 ∷ 0 ∷ 1 ∷ 2 ∷ 3 ∷ replicate 792 255) (33 ∷ []) two)
    × (with_score (0 ∷ 1 ∷ 100 ∷ 0 ∷ 1 ∷ 2 ∷ 3 ∷ []) ≡ holding 2000 (31 ∷ []) (replicate 796 255 ++ (0 ∷ 1 ∷ 2 ∷ 3 ∷ [])) (33 ∷ []) two)
    × (with_score (0 ∷ 1 ∷ 1 ∷ 0 ∷ 0 ∷ 0 ∷ 0 ∷ []) ≡ holding 2000 (31 ∷ []) (replicate 400 255 ++ (0 ∷ 0 ∷ 0 ∷ 0 ∷ replicate 396 255)) (33 ∷ []) two)
unfolding word long word_bytes long_bytes stored laid
score-added = (refl, refl, refl)

-- Q then E, 40, four bytes each: ten that differ, each with a byte in another place
pub figures-added :
    plus 4 (0 ∷ 0 ∷ 0 ∷ 1 ∷ 0 ∷ 0 ∷ 2 ∷ 0 ∷ 0 ∷ 3 ∷ 0 ∷ 0 ∷ 4 ∷ 0 ∷ 0 ∷ 0 ∷ 0 ∷ 0 ∷ 0 ∷ 5 ∷ 0 ∷ 0 ∷ 0 ∷ 6 ∷ 0 ∷ 0 ∷ 0 ∷ 7 ∷ 0 ∷ 0 ∷ 0 ∷ 8 ∷ 0 ∷ 0 ∷ 0 ∷ 9 ∷ 0 ∷ 0 ∷ 1 ∷ 10 ∷ [])
    ≡ holding 2000 (31 ∷ []) (32 ∷ []) (1 ∷ 512 ∷ 196608 ∷ 67108864 ∷ 5 ∷ 6 ∷ 7 ∷ 8 ∷ 9 ∷ 266 ∷ []) two
unfolding word long listed
figures-added = refl

-- a student with no result, after the others; the id of four bytes
pub student-added : plus 5 (1 ∷ 2 ∷ 3 ∷ 4 ∷ []) ≡ holding 2000 (31 ∷ []) (32 ∷ []) (33 ∷ []) (two ++ (enrolled 16909060 [] ∷ []))
unfolding word long
student-added = refl

-- a result joins those of the latest student, after them
abbrev nine : List ℕ
nine = 9 ∷ 8 ∷ 7 ∷ 6 ∷ 5 ∷ 4 ∷ []

abbrev three : List ℕ
three = 3 ∷ 3 ∷ 3 ∷ 3 ∷ 3 ∷ 3 ∷ []

pub result-added :
    (plus 6 nine ≡ holding 2000 (31 ∷ []) (32 ∷ []) (33 ∷ []) (enrolled 7 (1 ∷ 2 ∷ 3 ∷ 4 ∷ 5 ∷ 6 ∷ []) ∷ enrolled 8 nine ∷ []))
    × (taken (plus 6 nine) (record { tag = 6; value = three })
    ≡ holding 2000 (31 ∷ []) (32 ∷ []) (33 ∷ []) (enrolled 7 (1 ∷ 2 ∷ 3 ∷ 4 ∷ 5 ∷ 6 ∷ []) ∷ enrolled 8 (nine ++ three) ∷ []))
result-added = (refl, refl)

-- what is held, at the front of each of six buffers, and the rest as it was: ids, numbers of results, and all results, one student's after another's
pub buffers :
    written (plus 6 nine)
    (lent (40 ∷ 40 ∷ []) (41 ∷ 41 ∷ []) (42 ∷ 42 ∷ []) (43 ∷ 43 ∷ 43 ∷ []) (44 ∷ 44 ∷ 44 ∷ []) (replicate 13 45))
    ≡ lent (31 ∷ 40 ∷ []) (32 ∷ 41 ∷ []) (33 ∷ 42 ∷ []) (7 ∷ 8 ∷ 43 ∷ []) (1 ∷ 1 ∷ 44 ∷ []) (1 ∷ 2 ∷ 3 ∷ 4 ∷ 5 ∷ 6 ∷ 9 ∷ 8 ∷ 7 ∷ 6 ∷ 5 ∷ 4 ∷ 45 ∷ [])
unfolding laid results_of
buffers = refl

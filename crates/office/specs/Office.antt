-- The office's example file, and its listing.
use Rattle.std.specs.Prelude.{ℕ, zero, suc, ◌*◌, List, [], ◌∷◌, ◌++◌}
use Rattle.paper.specs.Limits.{score_parts}
use Rattle.paper.specs.Letters.{letter_a, letter_b}
use Rattle.paper.specs.Bytes.{long_bytes}
use Rattle.results.specs.Results.{Student}
use Rattle.sets.specs.Examples.{catalogue, table, seven, eight, nine, eleven}
use Rattle.curve.specs.Examples.{aged17}
use Rattle.fields.specs.Fields.{field_bytes}
use Rattle.held.specs.Held.{Enrolled, Held}

-- the bytes of a field, before the rest
abbrev pub field : ℕ → List ℕ → List ℕ → List ℕ
field tag value rest = field_bytes (record { tag = tag; value = value }) ++ rest

-- a catalogue subject, of level 0; a score; a student; a result of 2021
abbrev pub subject : ℕ → ℕ → ℕ → List ℕ → List ℕ
subject kind strand identity rest = field 2 (kind ∷ strand ∷ 0 ∷ 0 ∷ identity ∷ []) rest

abbrev pub given : ℕ → ℕ → ℕ → List ℕ → List ℕ
given place slot value rest = field 3 (0 ∷ place ∷ slot ∷ long_bytes value) rest

abbrev pub student : ℕ → List ℕ → List ℕ
student id rest = field 5 (0 ∷ 0 ∷ 0 ∷ id ∷ []) rest

abbrev pub result : ℕ → ℕ → ℕ → List ℕ → List ℕ
result place letter number rest = field 6 (0 ∷ place ∷ letter ∷ number ∷ 7 ∷ 229 ∷ []) rest

-- a General row: slot j scores j.00
unfoldable pub row : ℕ → ℕ → ℕ → List ℕ → List ℕ
row place zero slot rest = rest
row place (suc n) slot rest = given place slot (slot * score_parts) (row place n (suc slot) rest)

abbrev pub general : ℕ → List ℕ → List ℕ
general place rest = row place 100 1 rest

-- Q17=40, E17=20
abbrev pub figures : List ℕ
figures =
    0 ∷ 0 ∷ 0 ∷ 0 ∷ 0 ∷ 0 ∷ 0 ∷ 40 ∷ 0 ∷ 0 ∷ 0 ∷ 0 ∷ 0 ∷ 0 ∷ 0 ∷ 0 ∷ 0 ∷ 0 ∷ 0 ∷ 0
    ∷ 0 ∷ 0 ∷ 0 ∷ 0 ∷ 0 ∷ 0 ∷ 0 ∷ 20 ∷ 0 ∷ 0 ∷ 0 ∷ 0 ∷ 0 ∷ 0 ∷ 0 ∷ 0 ∷ 0 ∷ 0 ∷ 0 ∷ 0 ∷ []

abbrev pub four : ℕ → ℕ → ℕ → ℕ → List ℕ → List ℕ
four e m b c rest = result 0 letter_b e (result 1 letter_b m (result 2 letter_b b (result 3 letter_b c rest)))

-- year 2021; English, Methods, Biology, Chemistry, Essential Mathematics, Physics, Hospitality
abbrev pub opening : List ℕ → List ℕ
opening rest =
    field 1 (7 ∷ 229 ∷ [])
    (subject 1 1 1 (subject 1 2 2 (subject 1 0 3 (subject 1 0 4 (subject 4 2 0 (subject 1 0 5 (subject 4 0 0 rest)))))))

-- the figures; students 7, 8, 9, 11
abbrev pub closing : List ℕ
closing =
    field 4 figures
    (student 7 (four 70 90 80 75 (result 4 letter_a 0 (result 5 letter_b 40
    (student 8 (four 50 90 80 75 (result 4 letter_a 0 (result 6 letter_b 0
    (student 9 (four 70 60 80 75 (result 4 letter_a 0
    (student 11 (four 70 90 80 75 (result 5 letter_b 40 []))))))))))))))

-- the scores stand between
abbrev pub office : List ℕ
office = opening (general 0 (general 1 (general 2 (general 3 (given 4 90 (95 * score_parts) (general 5 (given 6 70 (60 * score_parts) closing)))))))

-- what the file holds
abbrev pub enrolled : ℕ → Student → Enrolled
enrolled id s = record { id = id; results = s.results }

abbrev pub held : Held
held = record {
  year = 2021;
  catalogue = catalogue;
  table = table;
  figures = aged17 40 20;
  students = enrolled 7 seven ∷ enrolled 8 eight ∷ enrolled 9 nine ∷ enrolled 11 eleven ∷ [];
}

-- the paper's listing
abbrev pub listing : List ℕ
listing =
    99 ∷ 111 ∷ 104 ∷ 111 ∷ 114 ∷ 116 ∷ 32 ∷ 52 ∷ 32 ∷ 101 ∷ 108 ∷ 105 ∷ 103 ∷ 105 ∷ 98 ∷ 108 ∷ 101 ∷ 32 ∷ 51 ∷ 32 ∷ 114 ∷ 101 ∷ 109 ∷ 97 ∷ 105 ∷ 110 ∷ 100 ∷ 101 ∷ 114 ∷ 32 ∷ 48 ∷ 10
    ∷ 55 ∷ 32 ∷ 51 ∷ 54 ∷ 48 ∷ 46 ∷ 48 ∷ 48 ∷ 32 ∷ 51 ∷ 32 ∷ 49 ∷ 48 ∷ 48 ∷ 46 ∷ 48 ∷ 48 ∷ 48 ∷ 32 ∷ 57 ∷ 55 ∷ 46 ∷ 52 ∷ 53 ∷ 10
    ∷ 56 ∷ 32 ∷ 51 ∷ 53 ∷ 53 ∷ 46 ∷ 48 ∷ 48 ∷ 32 ∷ 50 ∷ 32 ∷ 54 ∷ 54 ∷ 46 ∷ 54 ∷ 54 ∷ 55 ∷ 32 ∷ 57 ∷ 50 ∷ 46 ∷ 52 ∷ 53 ∷ 10
    ∷ 57 ∷ 32 ∷ 114 ∷ 101 ∷ 102 ∷ 117 ∷ 115 ∷ 101 ∷ 100 ∷ 32 ∷ 56 ∷ 32 ∷ 48 ∷ 10
    ∷ 49 ∷ 49 ∷ 32 ∷ 51 ∷ 53 ∷ 53 ∷ 46 ∷ 48 ∷ 48 ∷ 32 ∷ 50 ∷ 32 ∷ 54 ∷ 54 ∷ 46 ∷ 54 ∷ 54 ∷ 55 ∷ 32 ∷ 57 ∷ 50 ∷ 46 ∷ 52 ∷ 53 ∷ 10
    ∷ []

-- Students worked by hand: their catalogues, score tables and results.
use Rattle.std.specs.Prelude.{ℕ, ◌+◌, ◌-◌, ◌*◌, ◌/◌, ◌%◌, List, [], ◌∷◌, ◌++◌}
use Rattle.paper.specs.Words.{◌=?◌, when◌then◌else◌}
use Rattle.paper.specs.Letters.{letter_a, letter_b, letter_c}
use Rattle.paper.specs.Limits.{missing, score_parts, top_score}
use Rattle.scores.specs.Rows.{row_of}
use Rattle.results.specs.Results.{Student, student}

-- General slot j scores j.00; an Applied row has one score, the others are missing
abbrev pub general_row : List ℕ
general_row = row_of (λ j. j * score_parts)

abbrev pub one_score : ℕ → ℕ → List ℕ
one_score slot score = row_of (λ j. when j =? slot then score else missing)

-- English, Methods, Biology, Chemistry, Essential Mathematics (Applied), Physics, Hospitality (Applied)
abbrev pub catalogue : List ℕ
catalogue =
    1 ∷ 1 ∷ 0 ∷ 0 ∷ 1
    ∷ 1 ∷ 2 ∷ 0 ∷ 0 ∷ 2
    ∷ 1 ∷ 0 ∷ 0 ∷ 0 ∷ 3
    ∷ 1 ∷ 0 ∷ 0 ∷ 0 ∷ 4
    ∷ 4 ∷ 2 ∷ 0 ∷ 0 ∷ 0
    ∷ 1 ∷ 0 ∷ 0 ∷ 0 ∷ 5
    ∷ 4 ∷ 0 ∷ 0 ∷ 0 ∷ 0
    ∷ []

abbrev pub table : List ℕ
table =
    general_row
    ++ (general_row
    ++ (general_row
    ++ (general_row
    ++ (one_score 90 (95 * score_parts)
    ++ (general_row
    ++ one_score 70 (60 * score_parts))))))

-- a result of 2021: letter B and a number for a General, a letter for an Applied
abbrev pub result : ℕ → ℕ → ℕ → List ℕ → List ℕ
result subject letter number rest = 0 ∷ subject ∷ letter ∷ number ∷ 7 ∷ 229 ∷ rest

-- English, Methods, Biology, Chemistry, Essential Mathematics A, and more
abbrev pub with : ℕ → ℕ → ℕ → ℕ → List ℕ → List ℕ
with e m b c more = result 0 letter_b e (result 1 letter_b m (result 2 letter_b b (result 3 letter_b c (result 4 letter_a 0 more))))

-- student 7 has Physics 40, student 8 Hospitality B, student 11 Physics 40 and no Essential Mathematics
abbrev pub seven : Student
seven = student catalogue 2021 (with 70 90 80 75 (result 5 letter_b 40 []))

abbrev pub eight : Student
eight = student catalogue 2021 (with 50 90 80 75 (result 6 letter_b 0 []))

abbrev pub nine : Student
nine = student catalogue 2021 (with 70 60 80 75 [])

abbrev pub eleven : Student
eleven = student catalogue 2021 (result 0 letter_b 70 (result 1 letter_b 90 (result 2 letter_b 80 (result 3 letter_b 75 (result 5 letter_b 40 [])))))

-- English, Biology, its external examination, Chemistry, Physics, Geography, a Certificate III, a Certificate II, and History
abbrev pub catalogue2 : List ℕ
catalogue2 =
    1 ∷ 1 ∷ 0 ∷ 0 ∷ 1
    ∷ 1 ∷ 0 ∷ 0 ∷ 0 ∷ 2
    ∷ 3 ∷ 0 ∷ 0 ∷ 0 ∷ 2
    ∷ 1 ∷ 0 ∷ 0 ∷ 0 ∷ 3
    ∷ 1 ∷ 0 ∷ 0 ∷ 0 ∷ 4
    ∷ 1 ∷ 0 ∷ 0 ∷ 0 ∷ 5
    ∷ 6 ∷ 0 ∷ 3 ∷ 0 ∷ 0
    ∷ 6 ∷ 0 ∷ 2 ∷ 0 ∷ 0
    ∷ 1 ∷ 0 ∷ 0 ∷ 0 ∷ 6
    ∷ []

abbrev pub table2 : List ℕ
table2 =
    general_row
    ++ (general_row
    ++ (general_row
    ++ (general_row
    ++ (general_row
    ++ (general_row
    ++ (one_score 1 (70 * score_parts)
    ++ (one_score 1 (70 * score_parts)
    ++ general_row)))))))

-- a General result with its letter, number and year
abbrev pub dated : ℕ → ℕ → ℕ → ℕ → List ℕ → List ℕ
dated subject letter number year rest = 0 ∷ subject ∷ letter ∷ number ∷ year / 256 ∷ year % 256 ∷ rest

-- Chemistry, Physics and Geography at 50, and more
abbrev pub three : List ℕ → List ℕ
three more = result 3 letter_b 50 (result 4 letter_b 50 (result 5 letter_b 50 more))

-- English 10, and five better Generals: it needn't be in the five
abbrev pub english10 : List ℕ
english10 = result 0 letter_c 10 (result 1 letter_b 50 (three (result 8 letter_b 50 [])))

-- one who passed everything between two years: the first in English, the last in Geography, the others 2013 to 2015; and more
abbrev pub mature : ℕ → ℕ → List ℕ → List ℕ
mature first last more = dated 0 letter_c 50 first (dated 1 letter_b 50 2013 (dated 3 letter_b 50 2014 (dated 4 letter_b 50 2015 (dated 5 letter_b 50 last more))))

-- of 2012 to 2016, with English again, better, in another year
abbrev pub renewed : ℕ → List ℕ
renewed year = mature 2012 2016 (dated 0 letter_b 90 year [])

-- five Generals of 2021 at 50, and English of 1990 with a letter
abbrev pub long_ago : ℕ → List ℕ
long_ago letter = dated 0 letter 90 1990 (result 1 letter_b 50 (three (result 8 letter_b 50 [])))

-- scores to four decimals: English and five other Generals, of which slot j scores 50.0000 and j ten-thousandths more; and one whose slot 99 has the
-- greatest score, and slot 100 one more
abbrev pub catalogue3 : List ℕ
catalogue3 =
    1 ∷ 1 ∷ 0 ∷ 0 ∷ 1
    ∷ 1 ∷ 0 ∷ 0 ∷ 0 ∷ 2
    ∷ 1 ∷ 0 ∷ 0 ∷ 0 ∷ 3
    ∷ 1 ∷ 0 ∷ 0 ∷ 0 ∷ 4
    ∷ 1 ∷ 0 ∷ 0 ∷ 0 ∷ 5
    ∷ 1 ∷ 0 ∷ 0 ∷ 0 ∷ 6
    ∷ 1 ∷ 0 ∷ 0 ∷ 0 ∷ 7
    ∷ []

abbrev pub fine_row : List ℕ
fine_row = row_of (λ j. 50 * score_parts + j)

abbrev pub top_row : List ℕ
top_row = row_of (λ j. top_score - 99 + j)

abbrev pub table3 : List ℕ
table3 =
    fine_row
    ++ (fine_row
    ++ (fine_row
    ++ (fine_row
    ++ (fine_row
    ++ (fine_row
    ++ top_row)))))

-- the first four of them by their numbers, and more
abbrev pub fine : ℕ → ℕ → ℕ → ℕ → List ℕ → Student
fine a b c d more = student catalogue3 2021 (result 0 letter_b a (result 1 letter_b b (result 2 letter_b c (result 3 letter_b d more))))

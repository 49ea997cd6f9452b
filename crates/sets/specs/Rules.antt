-- The rules for one student, before 7.
use Rattle.std.specs.Prelude.{ℕ, ◌*◌, ◌%◌, Bool, true, false, not, ◌&&◌, ◌||◌, List, [], ◌∷◌, ◌++◌, length}
use Rattle.paper.specs.Letters.{letter_a, letter_e, letter_n, letter_y}
use Rattle.paper.specs.Limits.{slots, row_bytes, result_bytes, most_results, first_year, least_year, most_year}
use Rattle.paper.specs.Lists.{first, some}
use Rattle.paper.specs.Ranges.{within}
use Rattle.paper.specs.Rulings.{Rule, ◌⇒◌, ◌at◌, in_turn}
use Rattle.paper.specs.Words.{◌≤?◌, ◌<?◌, ◌=?◌, ◌≠?◌, when◌then◌else◌}
use Rattle.catalogue.specs.Catalogue.{subjects, catalogue_rules}
use Rattle.catalogue.specs.Kinds.{is_general, is_vet}
use Rattle.scores.specs.Scores.{Found, scaled, absent, too_high}
use Rattle.results.specs.Results.{Student, held, result}
use Rattle.results.specs.Scoring.{score_found}
use Rattle.results.specs.Counting.{usable, usable_at, same_subject}
use Rattle.results.specs.declared.reading.StudentResult.{StudentResult}

-- VET: Y or N, number 0; the others: letter A to E, with number 1 to 100 for kinds 1 to 3, and 0 for kinds 4 and 5
abbrev pub grade_fits : StudentResult → Bool
grade_fits r =
    when is_vet r.entry.kind then (r.letter =? letter_y || r.letter =? letter_n) && r.number =? 0
    else within letter_a letter_e r.letter && (when is_general r.entry.kind then within 1 slots r.number else r.number =? 0)

-- letter, number or year wrong for the kind, in an assessment year: the year is 1980 to that
unfoldable pub wrong : ℕ → StudentResult → Bool
wrong year r = not (grade_fits r && within first_year year r.year)

-- what is found is a score
abbrev pub is_score : Found → Bool
is_score (scaled v) = true
is_score absent = false
is_score too_high = false

-- table, result: a usable result with a missing slot or one over the greatest score
unfoldable pub unscored : List ℕ → StudentResult → Bool
unscored table r = usable r && not (is_score (score_found table r))

-- student, table, i: of result i. 3: subject not in the catalogue; 4: letter, number or year wrong for the kind; 5: a usable result without a score
abbrev pub result_rules : Student → List ℕ → ℕ → List Rule
result_rules s table i =
    subjects s.catalogue ≤? (result s i).subject ⇒ 3 at i
    ∷ wrong s.year (result s i) ⇒ 4 at i
    ∷ unscored table (result s i) ⇒ 5 at i
    ∷ []

-- for each result in turn 3, 4, 5
abbrev pub turn_rules : Student → List ℕ → List Rule
turn_rules s table = in_turn (held s) (result_rules s table)

-- result j is usable, of the same subject and year as result i
abbrev pub same_year : Student → ℕ → ℕ → Bool
same_year s i j = same_subject s i j && (result s j).year =? (result s i).year

-- result i is the later one of two usable results of one subject and year
unfoldable pub repeated : Student → ℕ → Bool
repeated s i = usable_at s i && some i (same_year s i)

-- 11: table length; 14: assessment year outside 1984..9999; 1 and 2: results not whole, too many
abbrev pub input_rules : Student → List ℕ → List Rule
input_rules s table =
    length table ≠? row_bytes * subjects s.catalogue ⇒ 11 at 0
    ∷ not (within least_year most_year s.year) ⇒ 14 at 0
    ∷ length s.results % result_bytes ≠? 0 ⇒ 1 at held s
    ∷ most_results <? held s ⇒ 2 at most_results
    ∷ []

-- 6: two usable results of one subject and year
abbrev pub repeat_rule : Student → Rule
repeat_rule s = some (held s) (repeated s) ⇒ 6 at first (held s) (repeated s)

-- catalogue 1, 2, 3; table length 11; year 14; results 1, 2; then for each result in turn 3, 4, 5; then 6
abbrev pub student_rules : Student → List ℕ → List Rule
student_rules s table =
    catalogue_rules s.catalogue
    ++ (input_rules s table
    ++ (turn_rules s table
    ++ (repeat_rule s ∷ [])))

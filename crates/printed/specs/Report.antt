-- The listing of a whole file, made of the definitions below it.
use Rattle.std.specs.Prelude.{ℕ, suc, List, [], ◌∷◌, ◌++◌, length, get_or}
use Rattle.paper.specs.Rulings.{Outcome, accepted, refused, number_of, place_of}
use Rattle.results.specs.Results.{student}
use Rattle.sets.specs.declared.BestSet.{BestSet}
use Rattle.sets.specs.Computed.{computed}
use Rattle.curve.specs.Population.{Y, rate}
use Rattle.curve.specs.Curve.{table_of}
use Rattle.ranks.specs.Ranking.{ranks_of, percentiles_of}
use Rattle.placements.specs.Placing.{remainder}
use Rattle.placements.specs.Bands.{bands_of}
use Rattle.held.specs.Held.{Enrolled, Held}
use Rattle.held.specs.Reading.{reading}
use Rattle.listing.specs.Lines.{cohort_line, student_line, refused_line, file_line}

-- a student's best set, or why there is none
unfoldable pub outcome : List ℕ → List ℕ → ℕ → Enrolled → Outcome BestSet
outcome catalogue table year s = computed (student catalogue year s.results) table

-- the aggregates of the eligible, who alone are the cohort, in file order
abbrev pub with_aggregate : Outcome BestSet → List ℕ → List ℕ
with_aggregate (accepted v) rest = v.aggregate ∷ rest
with_aggregate (refused f) rest = rest

unfoldable pub aggregates_of : (Enrolled → Outcome BestSet) → List Enrolled → List ℕ
aggregates_of outcomes [] = []
aggregates_of outcomes (s ∷ students) = with_aggregate (outcomes s) (aggregates_of outcomes students)

-- of each of the eligible the aggregate, the rank, the percentile and the band
pub record Columns : Type 0 where
  pub aggregates : List ℕ
  pub ranks : List ℕ
  pub percentiles : List ℕ
  pub bands : List ℕ

-- the line of the student who is j-th of the eligible: id, aggregate, rank, percentile, ATAR
abbrev pub eligible_line : Columns → ℕ → ℕ → List ℕ
eligible_line c j id = student_line id (get_or c.aggregates j 0) (get_or c.ranks j 0) (get_or c.percentiles j 0) (get_or c.bands j 0)

-- a line per student in file order; j students before them are eligible
abbrev pub line_of : Columns → ℕ → ℕ → Outcome BestSet → List ℕ
line_of c j id (accepted v) = eligible_line c j id
line_of c j id (refused f) = refused_line id (number_of f) (place_of f)

abbrev pub after_one : ℕ → Outcome BestSet → ℕ
after_one j (accepted v) = suc j
after_one j (refused f) = j

unfoldable pub lines_of : (Enrolled → Outcome BestSet) → Columns → ℕ → List Enrolled → List ℕ
lines_of outcomes c j [] = []
lines_of outcomes c j (s ∷ students) = line_of c j s.id (outcomes s) ++ lines_of outcomes c (after_one j (outcomes s)) students

-- the aggregates of the eligible, participation table, Y: what is listed of them
abbrev pub columns_of : List ℕ → List ℕ → ℕ → Columns
columns_of aggregates table Y = record {
  aggregates = aggregates;
  ranks = ranks_of aggregates;
  percentiles = percentiles_of aggregates;
  bands = bands_of aggregates table Y;
}

-- outcomes, participation table, Y and the students: the listing of a cohort is the cohort's line, then a line per student
abbrev pub listed : (Enrolled → Outcome BestSet) → List ℕ → ℕ → List Enrolled → List ℕ
listed outcomes table Y students =
    let eligible = aggregates_of outcomes students in
    cohort_line (length students) (length eligible) (remainder eligible table Y)
    ++ lines_of outcomes (columns_of eligible table Y) 0 students

-- the participation table of the population's rate
abbrev pub participation : List ℕ → List ℕ
participation figures = table_of (rate figures)

-- the outcomes of what a file holds, and its eligible
abbrev pub outcome_of : Held → Enrolled → Outcome BestSet
outcome_of held = outcome held.catalogue held.table held.year

abbrev pub eligible_of : Held → List ℕ
eligible_of held = aggregates_of (outcome_of held) held.students

abbrev pub text_of_outcome : Outcome Held → List ℕ
text_of_outcome (accepted held) = listed (outcome_of held) (participation held.figures) (Y held.figures) held.students
text_of_outcome (refused f) = file_line (number_of f) (place_of f)

-- the text of every file there is
unfoldable pub text_of : List ℕ → List ℕ
text_of file = text_of_outcome (reading file)

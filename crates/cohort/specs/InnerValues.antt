-- What a field adds to the numbers and the buffers, by its tag, and what that asks.
use Rattle.std.specs.Prelude.{ℕ, ◌+◌, ◌-◌, ◌*◌, ◌≤◌, ◌<◌, ◌≡◌, Bool, List, length, get_or, set}
use Rattle.paper.specs.Limits.{entry_bytes, result_bytes, slots, most_subjects, most_students, most_results, results_bytes}
use Rattle.paper.specs.Words.{◌=?◌, ◌≠?◌, when◌then◌else◌}
use Rattle.paper.specs.Bytes.{byte, word, long}
use Rattle.paper.specs.Parts.{laid}
use Rattle.paper.specs.Rulings.{accepted, Rule, judged}
use Rattle.scores.specs.Rows.{cleared, stored}
use Rattle.curve.specs.Population.{Y, rate, population_rules}
use Rattle.fields.specs.declared.order.Far.{Far}
use Rattle.held.specs.Taking.{figures_in}
use Rattle.cohort.specs.declared.steps.SoFar.{SoFar}

-- no rule is broken
abbrev pub NoneBroken : List Rule → Type 0
NoneBroken rules = judged {A = Unit {0}} rules tt ≡ accepted tt

-- 10 for 10, and 9 for another number
abbrev pub nine_or_ten : ℕ → ℕ
nine_or_ten n = when n =? 10 then 10 else 9

-- a slot of a subject that a file may have
pub record Slotted (subject slot : ℕ) : Type 0 where
  pub few : subject < most_subjects
  pub from : 1 ≤ slot
  pub to : slot ≤ slots

-- its place in the marks, one to a slot, one subject's after another's; and whether it is marked
abbrev pub slot_place : ℕ → ℕ → ℕ
slot_place subject slot = subject * slots + (slot - 1)

abbrev pub is_marked : List ℕ → ℕ → ℕ → Bool
is_marked marks subject slot = get_or marks (slot_place subject slot) 0 ≠? 0

-- what is noted: the marks of the slots that have their score, the score table, and the ids
abbrev pub marks_with : ℕ → List ℕ → List ℕ → List ℕ
marks_with tag v marks = when tag =? 3 then set marks (slot_place (word v 0) (byte v 2)) 1 else marks

abbrev pub table_with : Far → ℕ → List ℕ → List ℕ → List ℕ
table_with far tag v table =
    when tag =? 2 then cleared table far.subjects
    else when tag =? 3 then stored table (word v 0) (byte v 2) (long v 3)
    else table

abbrev pub ids_with : Far → ℕ → List ℕ → List ℕ → List ℕ
ids_with far tag v ids = when tag =? 5 then set ids far.students (long v 0) else ids

-- the numbers
abbrev pub year_to : SoFar → List ℕ → SoFar
year_to so v = record { far = so.far; year = word v 0; results = so.results; population = so.population; rate = so.rate }

abbrev pub figures_to : SoFar → List ℕ → SoFar
figures_to so v = record { far = so.far; year = so.year; results = so.results; population = Y (figures_in v); rate = rate (figures_in v) }

abbrev pub result_to : SoFar → SoFar
result_to so = record { far = so.far; year = so.year; results = so.results + 1; population = so.population; rate = so.rate }

abbrev pub numbers_with : SoFar → ℕ → List ℕ → SoFar
numbers_with so tag v = when tag =? 1 then year_to so v else when tag =? 4 then figures_to so v else when tag =? 6 then result_to so else so

-- the buffers beside what is noted
pub record Rest : Type 0 where
  pub catalogue : List ℕ
  pub figures : List ℕ
  pub counts : List ℕ
  pub results : List ℕ

abbrev pub rest : List ℕ → List ℕ → List ℕ → List ℕ → Rest
rest a b c d = record { catalogue = a; figures = b; counts = c; results = d }

abbrev pub rest_with : SoFar → ℕ → List ℕ → Rest → Rest
rest_with so tag v b = record {
  catalogue = when tag =? 2 then laid b.catalogue (so.far.subjects * entry_bytes) v else b.catalogue;
  figures = when tag =? 4 then figures_in v else b.figures;
  counts =
      when tag =? 5 then set b.counts so.far.students 0
      else when tag =? 6 then set b.counts (so.far.students - 1) (so.far.latest + 1)
      else b.counts;
  results = when tag =? 6 then laid b.results (so.results * result_bytes) v else b.results;
}

-- there is a student, and a result more has room
pub record ResultRoom (so : SoFar) (v : List ℕ) : Type 0 where
  pub long : length v ≡ result_bytes
  pub met : 1 ≤ so.far.students
  pub few : so.far.students ≤ most_students
  pub few_results : so.far.latest < most_results
  pub room : so.results * result_bytes + result_bytes ≤ results_bytes

-- there is room for a field of each tag, and figures are accepted
pub record Room (so : SoFar) (tag : ℕ) (v : List ℕ) : Type 0 where
  pub subject : tag ≡ 2 → (length v ≡ entry_bytes) × (so.far.subjects < most_subjects)
  pub figures : tag ≡ 4 → NoneBroken (population_rules (figures_in v))
  pub student : tag ≡ 5 → so.far.students < most_students
  pub result : tag ≡ 6 → ResultRoom so v

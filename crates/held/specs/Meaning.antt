-- What an accepted file holds.
use Rattle.std.specs.Prelude.{ℕ, ◌*◌, ◌<◌, ◌≤◌, ◌≡◌, List, [], ◌∷◌, length, get_or}
use Rattle.paper.specs.Rulings.{accepted}
use Rattle.paper.specs.Limits.{entry_bytes, result_bytes, row_bytes, most_subjects, most_students, most_results, figure_count, results_bytes, least_year, most_year}
use Rattle.catalogue.specs.Catalogue.{subjects}
use Rattle.catalogue.specs.Promise.{ruling}
use Rattle.scores.specs.Meaning.{NoneOver}
use Rattle.curve.specs.Promise.{values, population_ruling}
use Rattle.held.specs.Held.{Enrolled, Held, counted, ids_of, results_of}

-- each student has P
abbrev pub Each : (Enrolled → Type 0) → List Enrolled → Type 0
Each P [] = Unit {0}
Each P (s ∷ students) = P s × Each P students

-- whole results, and no more than the limit
abbrev pub FewResults : Enrolled → Type 0
FewResults s = (length s.results ≡ result_bytes * counted s) × (counted s ≤ most_results)

-- no number twice
abbrev pub Distinct : List ℕ → Type 0
Distinct xs = (i j : ℕ) → i < j → j < length xs → get_or xs i 0 ≡ get_or xs j 0 → ⊥

-- each part within its ranges and limits, as the rules ask; no slot over the greatest score, no id twice
pub record Sound (held : Held) : Type 0 where
  pub year_from : least_year ≤ held.year
  pub year_up_to : held.year ≤ most_year
  pub catalogue : ruling held.catalogue ≡ accepted tt
  pub few_subjects : subjects held.catalogue ≤ most_subjects
  pub whole : length held.catalogue ≡ entry_bytes * subjects held.catalogue
  pub table : length held.table ≡ row_bytes * subjects held.catalogue
  pub scores : NoneOver held.table
  pub ten : length held.figures ≡ figure_count
  pub population : population_ruling held.figures ≡ accepted (values held.figures)
  pub few_students : length held.students ≤ most_students
  pub few_results : Each FewResults held.students
  pub bytes : length (results_of held.students) ≤ results_bytes
  pub distinct : Distinct (ids_of held.students)

-- Students that stand in buffers, and what is noted of each.
use Rattle.std.specs.Prelude.{ℕ, zero, suc, ◌*◌, ◌≤◌, ◌<◌, ◌≡◌, List, [], ◌∷◌, map, length, get_or, take, drop, set}
use Rattle.paper.specs.Limits.{result_bytes, most_results, most_subjects, most_students, results_bytes}
use Rattle.paper.specs.Rulings.{Outcome, accepted, refused, number_in, place_in}
use Rattle.catalogue.specs.Catalogue.{subjects}
use Rattle.results.specs.Results.{student}
use Rattle.sets.specs.declared.BestSet.{BestSet}
use Rattle.sets.specs.Computed.{computed}
use Rattle.held.specs.Held.{Enrolled}
use Rattle.printed.specs.Report.{aggregates_of}

-- the first n students whose ids, numbers of results and results stand in buffers
unfoldable pub students_in : ℕ → List ℕ → List ℕ → List ℕ → List Enrolled
students_in zero ids counts results = []
students_in (suc n) ids counts results =
    record { id = get_or ids 0 0; results = take (result_bytes * get_or counts 0 0) results }
    ∷ students_in n (drop 1 ids) (drop 1 counts) (drop (result_bytes * get_or counts 0 0) results)

-- the outcome of the student whose results, so many, stand from a place on
abbrev pub outcome_at : List ℕ → List ℕ → ℕ → List ℕ → ℕ → ℕ → Outcome BestSet
outcome_at catalogue table year results place count = computed (student catalogue year (take (result_bytes * count) (drop place results))) table

-- the number and the place of each student's refusal, both 0 of an eligible one, in file order
abbrev pub numbers_of : (Enrolled → Outcome BestSet) → List Enrolled → List ℕ
numbers_of outcomes students = map (λ (s : Enrolled). number_in (outcomes s)) students

abbrev pub places_of : (Enrolled → Outcome BestSet) → List Enrolled → List ℕ
places_of outcomes students = map (λ (s : Enrolled). place_in (outcomes s)) students

-- what is noted of the students: the aggregates of the eligible, and of each student the number and the place of the refusal
pub record Noted (outcomes : Enrolled → Outcome BestSet) (students : List Enrolled) (aggregates numbers places : List ℕ) : Type 0 where
  pub aggregates_are : aggregates ≡ aggregates_of outcomes students
  pub numbers_are : numbers ≡ numbers_of outcomes students
  pub places_are : places ≡ places_of outcomes students

-- at most 512 students, of at most 16 results
pub record Few (counts results : List ℕ) : Type 0 where
  pub students : length counts ≤ most_students
  pub each : (i : ℕ) → i < length counts → get_or counts i 0 ≤ most_results
  pub bytes : length results ≡ results_bytes

-- a catalogue of at most 64 subjects, such students, and a buffer for aggregates and one for places
pub record Collectable (catalogue counts results aggregates places : List ℕ) : Type 0 where
  pub few_subjects : subjects catalogue ≤ most_subjects
  pub few : Few counts results
  pub aggregates_long : length aggregates ≡ most_students
  pub places_long : length places ≡ length counts

-- the aggregate of an eligible student, as the j-th of a buffer
abbrev pub joined : Outcome BestSet → List ℕ → ℕ → List ℕ
joined (accepted v) buffer j = set buffer j v.aggregate
joined (refused f) buffer j = buffer

-- the first m numbers of a buffer of 512 are the aggregates of the eligible, and two columns the numbers and places of all
pub record Collected (outcomes : Enrolled → Outcome BestSet) (counts results buffer numbers places : List ℕ) (m : ℕ) : Type 0 where
  pub long : length buffer ≡ most_students
  pub numbers_long : length numbers ≡ length counts
  pub places_long : length places ≡ length counts
  pub within : m ≤ length counts
  pub are : (ids : List ℕ) → Noted outcomes (students_in (length counts) ids counts results) (take m buffer) numbers places

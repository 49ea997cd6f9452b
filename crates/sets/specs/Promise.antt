-- What the best set promises, for every input.
use Rattle.std.specs.Prelude.{ℕ, ◌*◌, ◌≤◌, ◌≡◌, ◌⊎◌, not, List, [], ◌∷◌, ◌++◌, Result}
use Rattle.paper.specs.Limits.{score_parts}
use Rattle.paper.specs.Units.{hundredths}
use Rattle.paper.specs.Rounding.{nearest}
use Rattle.paper.specs.Rulings.{Outcome, accepted, refused, ◌⇒◌, ◌at◌, judged}
use Rattle.paper.specs.Promises.{said, Saying}
use Rattle.paper.specs.declared.refusal.Refusal.{Refusal}
use Rattle.seek.specs.Sets.{positions, comes_to, Earlier}
use Rattle.results.specs.Results.{Student}
use Rattle.results.specs.Scoring.{score_at}
use Rattle.results.specs.Counting.{shows_english}
use Rattle.sets.specs.Admissible.{Admissible}
use Rattle.sets.specs.Rules.{student_rules}
use Rattle.sets.specs.declared.BestSet.{BestSet}

-- a student is well-formed if nothing before 7 refuses
abbrev pub WellFormed : Student → List ℕ → Type 0
WellFormed s table = judged (student_rules s table) (tt {0}) ≡ accepted tt

-- before 7 the rules; then 7: no English
abbrev pub ruling : Student → List ℕ → Outcome (Unit {0})
ruling s table = judged (student_rules s table ++ (not (shows_english s) ⇒ 7 at 0 ∷ [])) tt

-- student, table, set: what a set of results comes to, the sum of its scores, unrounded
abbrev pub total_of : Student → List ℕ → ℕ → ℕ
total_of s table set = comes_to (score_at s table) set

-- the aggregate of a sum of scores: that sum in hundredths, nearest, halves up
unfoldable pub aggregate_of : ℕ → ℕ
aggregate_of sum = nearest (hundredths * sum) score_parts

-- the chosen set is admissible, so within five consecutive years, and gives the aggregate; no admissible set comes to more, unrounded, and none that
-- comes to as much is before it
pub record Chosen (s : Student) (table : List ℕ) (v : BestSet) : Type 0 where
  pub admissible : Admissible s v.set
  pub aggregate : v.aggregate ≡ aggregate_of (total_of s table v.set)
  pub most : (set : ℕ) → Admissible s set → total_of s table set ≤ total_of s table v.set
  pub first : (set : ℕ) → Admissible s set → total_of s table set ≡ total_of s table v.set → (set ≡ v.set) ⊎ Earlier (positions v.set) (positions set)

-- with English shown: the chosen set; or 8, exactly where no set is admissible
abbrev pub Answered : Student → List ℕ → Outcome BestSet → Type 0
Answered s table (accepted v) = Chosen s table v
Answered s table (refused f) = (f ≡ 8 at 0) × ((set : ℕ) → Admissible s set → ⊥)

-- student, table, ruling up to 7, what is said: it is the refusal, or as above
abbrev pub RuledBy : Student → List ℕ → Outcome (Unit {0}) → Outcome BestSet → Type 0
RuledBy s table (refused f) o = o ≡ refused f
RuledBy s table (accepted u) o = Answered s table o

abbrev pub Ruled : Student → List ℕ → Outcome BestSet → Type 0
Ruled s table o = RuledBy s table (ruling s table) o

abbrev pub Promise : Student → List ℕ → Result BestSet Refusal → Type 0
Promise s table r = Saying said (Ruled s table) r

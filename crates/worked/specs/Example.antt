-- An example: what is asked of which entry, and the answer.
use Rattle.std.specs.Prelude.{Result, ℕ, ◌+◌, ◌*◌, ◌^◌, ◌≡◌, List, [], ◌∷◌, map, length, get_or}
use Rattle.paper.specs.Limits.{band_count, band_step}
use Rattle.paper.specs.Rulings.{Outcome, accepted, values_or}
use Rattle.results.specs.Results.{Student}
use Rattle.paper.specs.Promises.{said}
use Rattle.paper.specs.declared.refusal.Refusal.{Refusal}
use Rattle.sets.specs.Promise.{Promise as BestPromise}
use Rattle.sets.specs.declared.BestSet.{BestSet}
use Rattle.curve.specs.Promise.{Promise as CurvePromise}
use Rattle.curve.specs.declared.Participation.{Participation}
use Rattle.curve.specs.Examples.{aged17}
use Rattle.placements.specs.Promise.{Lent, TogetherPromise}
use Rattle.placements.specs.Given.{LentFor}
use Rattle.worked.specs.Called.{Rated, Placed}

-- 360 · 00 is the paper's 360.00, in hundredths
infix 90 ◌·◌
abbrev pub ◌·◌ : ℕ → ℕ → ℕ
whole · hundredths = 100 * whole + hundredths

-- the set of some positions: bit i for result i
abbrev pub set_of : List ℕ → ℕ
set_of [] = 0
set_of (i ∷ positions) = 2 ^ i + set_of positions

-- accepted: the aggregate, and the positions of the set; Y and r
abbrev pub chosen : ℕ → List ℕ → Outcome BestSet
chosen aggregate positions = accepted (record { aggregate = aggregate; set = set_of positions })

abbrev pub counted : ℕ → ℕ → Outcome Participation
counted Y r = accepted (record { population = Y; rate = r })

-- Q17=10000 and E17=r, which give Y=10000 and the rate r
abbrev pub at_rate : ℕ → List ℕ
at_rate r = aged17 10000 r

-- band k is ATAR 0.05k, in hundredths
abbrev pub atar_of : ℕ → ℕ
atar_of k = band_step * k

-- a student's aggregate, 0 where the student is refused
abbrev pub aggregate_in : Result BestSet Refusal → ℕ
aggregate_in r = (values_or (record { aggregate = 0; set = 0 }) (said r)).aggregate

-- an answer to each student, by a score table, as it is promised
abbrev pub Answers : List Student → List ℕ → List (Result BestSet Refusal) → Type 0
Answers [] table [] = Unit {0}
Answers [] table (r ∷ rs) = ⊥
Answers (s ∷ students) table [] = ⊥
Answers (s ∷ students) table (r ∷ rs) = BestPromise s table r × Answers students table rs

infix 68 best-set◌by◌is◌
infix 68 figures◌give◌
infix 68 rate◌band◌has◌
infix 68 aggregates◌by◌of◌get◌leaving◌
infix 68 cohort◌by◌and◌of◌have◌rank◌get◌leaving◌
pub data Example : Type 0 where
  -- the best set of a student, by a score table: the aggregate and the set, or the refusal
  best-set◌by◌is◌ : Student → List ℕ → Outcome BestSet → Example
  -- ten figures give Y and r, or are refused
  figures◌give◌ : List ℕ → Outcome Participation → Example
  -- at the rate r band k has this entry
  rate◌band◌has◌ : ℕ → ℕ → ℕ → Example
  -- aggregates, by a participation table of Y, get these ATARs, in hundredths, leaving the remainder
  aggregates◌by◌of◌get◌leaving◌ : List ℕ → List ℕ → ℕ → List ℕ → ℕ → Example
  -- a cohort by a score table and, in one call with the ranks, a participation table of Y: its students have these aggregates, rank so, and get these ATARs,
  -- leaving the remainder
  cohort◌by◌and◌of◌have◌rank◌get◌leaving◌ : List Student → List ℕ → List ℕ → ℕ → List ℕ → List ℕ → List ℕ → ℕ → Example

-- whatever meets the promise answers so
abbrev pub Holds : Example → Type 0
Holds (best-set s by table is o) = (r : Result BestSet Refusal) → BestPromise s table r → said r ≡ o
Holds (figures q give o) = (r : Result Participation Refusal) → Rated q r → said r ≡ o
Holds (rate r band k has v) =
    (a : Result Participation Refusal) (before after : List ℕ) → length before ≡ band_count → CurvePromise (at_rate r) before a after
    → (said a ≡ counted 10000 r) × (get_or after k 0 ≡ v)
Holds (aggregates xs by table of Y get atars leaving n) =
    (r : Result ℕ Refusal) (bands : List ℕ) → Placed xs table Y r bands → (said r ≡ accepted n) × (map atar_of bands ≡ atars)
Holds (cohort ss by scores and table of Y have xs rank ranks get atars leaving n) =
    (rs : List (Result BestSet Refusal)) → Answers ss scores rs
    → (r : Result ℕ Refusal) (before after : Lent) → LentFor (length ss) before → TogetherPromise (map aggregate_in rs) table Y before r after
    → (map aggregate_in rs ≡ xs) × (said r ≡ accepted n) × (after.ranks ≡ ranks) × (map atar_of after.bands ≡ atars)

-- each example of a list
abbrev pub All : List Example → Type 0
All [] = Unit {0}
All (e ∷ es) = Holds e × All es

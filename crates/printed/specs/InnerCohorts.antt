-- A cohort that is ranked and placed: its aggregates, an accepted rate and Y, and its columns.
use Rattle.std.specs.Prelude.{ℕ, ◌≤◌, ◌≡◌, List, length, get_or}
use Rattle.paper.specs.Limits.{most_aggregate, most_students, most_population, least_rate, most_rate}
use Rattle.printed.specs.Report.{Columns}

-- a rate and a Y that are accepted
pub record Populated (rate population : ℕ) : Type 0 where
  pub rate_least : least_rate ≤ rate
  pub rate_most : rate ≤ most_rate
  pub some : 1 ≤ population
  pub most : population ≤ most_population

-- each column is as long as the aggregates
pub record Even (c : Columns) : Type 0 where
  pub ranks : length c.ranks ≡ length c.aggregates
  pub percentiles : length c.percentiles ≡ length c.aggregates
  pub bands : length c.bands ≡ length c.aggregates

abbrev pub columns : List ℕ → List ℕ → List ℕ → List ℕ → Columns
columns aggregates ranks percentiles bands = record { aggregates = aggregates; ranks = ranks; percentiles = percentiles; bands = bands }

-- aggregates of a cohort of at most 512, an accepted rate and Y
pub record Cohort (aggregates : List ℕ) (rate population : ℕ) : Type 0 where
  pub populated : Populated rate population
  pub few : length aggregates ≤ most_students
  pub each : (i : ℕ) → get_or aggregates i 0 ≤ most_aggregate

-- such a cohort, with a buffer of its number for each column
pub record Placeable (rate population : ℕ) (c : Columns) : Type 0 where
  pub cohort : Cohort c.aggregates rate population
  pub even : Even c

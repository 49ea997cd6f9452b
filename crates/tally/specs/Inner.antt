-- What counting, the band search and the walk ask.
use Rattle.std.specs.Prelude.{ℕ, ◌≤◌, ◌≡◌, List, length, get_or}
use Rattle.paper.specs.Limits.{most_aggregate, band_count, most_entry, most_tallied, most_population, tally_count}
use Rattle.paper.specs.Lists.{sum_of}

-- a table of 2000 entries, none over 1000000
pub record Sized (table : List ℕ) : Type 0 where
  pub long : length table ≡ band_count
  pub each : (k : ℕ) → get_or table k 0 ≤ most_entry

-- at most 100000 students, no aggregate over 50000
pub record Aggregates (aggregates : List ℕ) : Type 0 where
  pub few : length aggregates ≤ most_tallied
  pub each : (i : ℕ) → get_or aggregates i 0 ≤ most_aggregate

-- what counting asks: the students, and 50001 counts
pub record Countable (aggregates counts : List ℕ) : Type 0 where
  pub students : Aggregates aggregates
  pub long : length counts ≡ tally_count

-- what the walk asks: a table, Y, and counts of at most 100000 students
pub record Walkable (table : List ℕ) (Y : ℕ) (counts : List ℕ) : Type 0 where
  pub sized : Sized table
  pub people : Y ≤ most_population
  pub few : sum_of counts ≤ most_tallied

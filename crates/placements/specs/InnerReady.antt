-- What is accepted by the two entries, of the cohort and the lent buffers.
use Rattle.std.specs.Prelude.{ℕ, ◌≤◌, ◌≡◌, List, length}
use Rattle.paper.specs.Limits.{most_population, tally_count}
use Rattle.tally.specs.Inner.{Sized, Aggregates}
use Rattle.placements.specs.Promise.{Lent}

-- what is accepted
pub record Ready (aggregates table : List ℕ) (Y : ℕ) (bands : List ℕ) : Type 0 where
  pub students : Aggregates aggregates
  pub sized : Sized table
  pub people : Y ≤ most_population
  pub lent : length bands ≡ length aggregates

-- what ranking over the tally asks: the students, as many ranks and percentiles, and 50001 counts
pub record RankReady (aggregates ranks percentiles counts : List ℕ) : Type 0 where
  pub students : Aggregates aggregates
  pub ranks_long : length ranks ≡ length aggregates
  pub percentiles_long : length percentiles ≡ length aggregates
  pub counts_long : length counts ≡ tally_count

-- what is accepted in one call with the ranks
pub record TogetherReady (aggregates table : List ℕ) (Y : ℕ) (before : Lent) : Type 0 where
  pub ready : Ready aggregates table Y before.bands
  pub ranking : RankReady aggregates before.ranks before.percentiles before.counts

-- What the functions below the entries ask of each other.
use Rattle.std.specs.Prelude.{ℕ, ◌≤◌, ◌≡◌, List, length, get_or}
use Rattle.paper.specs.Limits.{top_band, tally_count}
use Rattle.paper.specs.Lists.{listed}
use Rattle.ranks.specs.Ranking.{percentile}
use Rattle.tally.specs.Counts.{tally_of}
use Rattle.tally.specs.Inner.{Aggregates}
use Rattle.placements.specs.InnerReady.{Ready}

-- what placing over the tally asks: what is accepted, and the tally
pub record PlaceReady (aggregates table : List ℕ) (Y : ℕ) (bands counts : List ℕ) : Type 0 where
  pub ready : Ready aggregates table Y bands
  pub tallied : counts ≡ tally_of aggregates

-- what reading the ranks asks: how many students are at most at each aggregate, none more than there are
pub record Rankable (aggregates sums ranks percentiles : List ℕ) : Type 0 where
  pub students : Aggregates aggregates
  pub long : length sums ≡ tally_count
  pub within : (t : ℕ) → get_or sums t 0 ≤ length aggregates
  pub ranks_long : length ranks ≡ length aggregates
  pub percentiles_long : length percentiles ≡ length aggregates

-- what reading the bands asks: those of the aggregates
pub record Readable (aggregates found bands : List ℕ) : Type 0 where
  pub students : Aggregates aggregates
  pub long : length found ≡ tally_count
  pub within : (t : ℕ) → get_or found t 0 ≤ top_band
  pub lent : length bands ≡ length aggregates

-- for each student what stands at the aggregate
unfoldable pub read_of : List ℕ → List ℕ → List ℕ
read_of aggregates by = listed 0 (length aggregates) (λ i. get_or by (get_or aggregates i 0) 0)

-- and the percentile of that among the students
unfoldable pub percents_of : List ℕ → List ℕ → List ℕ
percents_of aggregates by = listed 0 (length aggregates) (λ i. percentile (length aggregates) (get_or by (get_or aggregates i 0) 0))

-- What two entries can answer: what meets the promise of the one or of the other, whatever the lent buffers hold before.
use Rattle.std.specs.Prelude.{ℕ, ◌≡◌, List, length, Result}
use Rattle.paper.specs.Limits.{band_count}
use Rattle.curve.specs.Promise.{PopulationPromise, Promise as CurvePromise}
use Rattle.paper.specs.declared.refusal.Refusal.{Refusal}
use Rattle.curve.specs.declared.Participation.{Participation}
use Rattle.placements.specs.Promise.{Promise as BandsPromise, Lent, lent, TogetherPromise}
use Rattle.placements.specs.Given.{LentFor}

-- Y and r of ten figures: alone, or with the table
pub data Rated (figures : List ℕ) (r : Result Participation Refusal) : Type 0 where
  alone : PopulationPromise figures r → Rated figures r
  with_table : (before after : List ℕ) → length before ≡ band_count → CurvePromise figures before r after → Rated figures r

-- bands and remainder: by direct count, or in one call with the ranks
pub data Placed (aggregates table : List ℕ) (Y : ℕ) (r : Result ℕ Refusal) (bands : List ℕ) : Type 0 where
  directly : (before : List ℕ) → length before ≡ length aggregates → BandsPromise aggregates table Y before r bands → Placed aggregates table Y r bands
  ranked : (before : Lent) (ranks percentiles counts : List ℕ) → LentFor (length aggregates) before
      → TogetherPromise aggregates table Y before r (lent ranks percentiles bands counts) → Placed aggregates table Y r bands

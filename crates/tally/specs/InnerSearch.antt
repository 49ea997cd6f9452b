-- What the band search keeps and finds.
use Rattle.std.specs.Prelude.{ℕ, ◌≤◌, ◌<◌, ◌≡◌, List}
use Rattle.paper.specs.Limits.{most_population, top_band}
use Rattle.tally.specs.Places.{F, places, Fits, band_of}
use Rattle.tally.specs.Inner.{Sized}

-- a band, with the sum of the table's entries from it on, and its places, times 2000000000
pub record Stands (table : List ℕ) (Y band sum room : ℕ) : Type 0 where
  pub within : band ≤ top_band
  pub sum_is : sum ≡ F table band
  pub room_is : room ≡ places table Y band

-- the search stands at band k: no higher band fits c students
pub record SearchAt (table : List ℕ) (Y c k sum room : ℕ) : Type 0 where
  pub sized : Sized table
  pub people : Y ≤ most_population
  pub stands : Stands table Y k sum room
  pub none_above : (j : ℕ) → k < j → j ≤ top_band → Fits table Y j c → ⊥

-- the search has found the band of c students: the highest that they fit, or 0
pub record Reaches (table : List ℕ) (Y c band sum room : ℕ) : Type 0 where
  pub band_is : band ≡ band_of table Y c
  pub stands : Stands table Y band sum room

-- The bands of students, computed: each stands in the highest that C fits, or in 0.
use Rattle.std.specs.Prelude.{ℕ, List, length, get_or}
use Rattle.paper.specs.Lists.{listed}
use Rattle.tally.specs.Counts.{at_least}
use Rattle.tally.specs.Places.{band_of}

-- of each student
unfoldable pub bands_of : List ℕ → List ℕ → ℕ → List ℕ
bands_of aggregates table Y = listed 0 (length aggregates) (λ i. band_of table Y (at_least aggregates (get_or aggregates i 0)))

-- Placements of students in bands, and the remainder.
use Rattle.std.specs.Prelude.{ℕ, ◌*◌, ◌≤◌, ◌<◌, ◌≡◌, Bool, List, length, get_or}
use Rattle.paper.specs.Limits.{top_band}
use Rattle.paper.specs.Lists.{count}
use Rattle.paper.specs.Words.{◌<?◌}
use Rattle.tally.specs.Counts.{at_least}
use Rattle.tally.specs.Places.{one_place, places, Fits}

-- a placement gives each student a band, 0 to 1999. It keeps order: never a higher aggregate in a lower band; ties: equal aggregates
-- in one band; and places: at each band above 0 no more students there and higher than there are places there and higher
pub record Keeps (aggregates table : List ℕ) (Y : ℕ) (bands : List ℕ) : Type 0 where
  pub long : length bands ≡ length aggregates
  pub within : (i : ℕ) → i < length aggregates → get_or bands i 0 ≤ top_band
  pub order : (i j : ℕ) → i < length aggregates → j < length aggregates → get_or aggregates i 0 < get_or aggregates j 0 → get_or bands i 0 ≤ get_or bands j 0
  pub ties : (i j : ℕ) → i < length aggregates → j < length aggregates → get_or aggregates i 0 ≡ get_or aggregates j 0 → get_or bands i 0 ≡ get_or bands j 0
  pub room : (k : ℕ) → 1 ≤ k → k ≤ top_band → Fits table Y k (at_least bands k)

-- the best placement: it keeps them, and no placement that does gives any student a higher band
pub record BestPlacement (aggregates table : List ℕ) (Y : ℕ) (bands : List ℕ) : Type 0 where
  pub keeps : Keeps aggregates table Y bands
  pub best : (others : List ℕ) → Keeps aggregates table Y others → (i : ℕ) → i < length aggregates → get_or others i 0 ≤ get_or bands i 0

-- C of student i doesn't fit band 0 either
abbrev pub left_over : List ℕ → List ℕ → ℕ → ℕ → Bool
left_over aggregates table Y i = places table Y 0 <? one_place * at_least aggregates (get_or aggregates i 0)

-- the remainder: the number of students for whom it doesn't
unfoldable pub remainder : List ℕ → List ℕ → ℕ → ℕ
remainder aggregates table Y = count (length aggregates) (left_over aggregates table Y)

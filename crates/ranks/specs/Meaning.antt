-- What ranks and percentiles mean.
use Rattle.std.specs.Prelude.{ℕ, ◌*◌, ◌<◌, ◌≤◌, ◌≡◌, List, length, get_or}
use Rattle.paper.specs.Rounding.{Nearest}
use Rattle.paper.specs.Units.{thousandths}
use Rattle.ranks.specs.Promise.{Lent}

-- what is filled in for accepted values: ranks from 1 to their number, one for tied values, a greater for a greater value;
-- and 100 times the rank over their number, in thousandths, to the nearest whole, halves up
pub record Meant (values : List ℕ) (after : Lent) : Type 0 where
  pub ranks_long : length after.ranks ≡ length values
  pub percentiles_long : length after.percentiles ≡ length values
  pub least : (i : ℕ) → i < length values → 1 ≤ get_or after.ranks i 0
  pub most : (i : ℕ) → i < length values → get_or after.ranks i 0 ≤ length values
  pub ties : (i j : ℕ) → i < length values → j < length values → get_or values i 0 ≡ get_or values j 0 → get_or after.ranks i 0 ≡ get_or after.ranks j 0
  pub rises : (i j : ℕ) → i < length values → j < length values → get_or values i 0 < get_or values j 0 → get_or after.ranks i 0 < get_or after.ranks j 0
  pub rounded : (i : ℕ) → i < length values → Nearest (100 * thousandths * get_or after.ranks i 0) (length values) (get_or after.percentiles i 0)

-- How many students have an aggregate, and how many have it or a higher one.
use Rattle.std.specs.Prelude.{ℕ, ◌<◌, ◌≡◌, List, length, get_or}
use Rattle.paper.specs.Limits.{tally_count}
use Rattle.paper.specs.Lists.{count, listed}
use Rattle.paper.specs.Words.{◌≤?◌, ◌=?◌}

-- how many numbers of a list are at least x, and how many are x. Of aggregates the first is C, the number of students with an
-- aggregate at least x; of bands it is the number of students at band x and higher
abbrev pub at_least : List ℕ → ℕ → ℕ
at_least xs x = count (length xs) (λ i. x ≤? get_or xs i 0)

unfoldable pub number_at : List ℕ → ℕ → ℕ
number_at xs x = count (length xs) (λ i. get_or xs i 0 =? x)

-- the tally: in entry t the number of students with aggregate t
pub record Tallied (aggregates counts : List ℕ) : Type 0 where
  pub long : length counts ≡ tally_count
  pub each : (t : ℕ) → t < tally_count → get_or counts t 0 ≡ number_at aggregates t

-- computed
unfoldable pub tally_of : List ℕ → List ℕ
tally_of aggregates = listed 0 tally_count (number_at aggregates)

-- What rows and slots mean.
use Rattle.std.specs.Prelude.{ℕ, ◌+◌, ◌*◌, ◌<◌, ◌≤◌, ◌≡◌, ◌⊎◌, List}
use Rattle.paper.specs.Limits.{row_bytes}
use Rattle.scores.specs.Scores.{too_high, found}

-- place k of a table is outside the subject's row
abbrev pub OffRow : ℕ → ℕ → Type 0
OffRow subject k = (k < row_bytes * subject) ⊎ (row_bytes * subject + row_bytes ≤ k)

-- no slot of a table holds a number over the greatest score: each has its score, or is missing
abbrev pub NoneOver : List ℕ → Type 0
NoneOver table = (subject slot : ℕ) → found table subject slot ≡ too_high → ⊥

-- Numbers from one to another.
use Rattle.std.specs.Prelude.{ℕ, Bool, ◌&&◌}
use Rattle.paper.specs.Words.{◌≤?◌}

-- n is from low to high, both counted
abbrev pub within : ℕ → ℕ → ℕ → Bool
within low high n = low ≤? n && n ≤? high

-- Figures of which most are 0.
use Rattle.std.specs.Prelude.{ℕ, List, [], ◌∷◌}

-- figures of one age
abbrev pub aged17 : ℕ → ℕ → List ℕ
aged17 q e = 0 ∷ q ∷ 0 ∷ 0 ∷ 0 ∷ 0 ∷ e ∷ 0 ∷ 0 ∷ 0 ∷ []

-- figures of two ages
abbrev pub aged17and18 : ℕ → ℕ → ℕ → ℕ → List ℕ
aged17and18 q e p d = 0 ∷ q ∷ p ∷ 0 ∷ 0 ∷ 0 ∷ e ∷ d ∷ 0 ∷ 0 ∷ []

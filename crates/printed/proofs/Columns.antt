-- A column from an index on.
use Prim.Native.Nat.{ℕ, ◌+◌}
use native.Mathlib.Omega.{arith}
use mathlib.Core.Path.{◌≡◌, ap, ◌∙◌}
use mathlib.Core.List.{List}
use lib.ListN.{get_or, drop}
use lib.Seq.{get_or-drop}

pub at : (i : ℕ) (xs : List ℕ) → get_or (drop i xs) 0 0 ≡ get_or xs i 0
at i xs = let z : i + 0 ≡ i = omega arith in get_or-drop i xs 0 0 ∙ ap (λ (k : ℕ). get_or xs k 0) z

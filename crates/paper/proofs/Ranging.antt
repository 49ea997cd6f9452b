-- What the test of a range means.
use Prim.Native.Nat.{ℕ, ◌≤◌}
use mathlib.Core.Path.{◌≡◌}
use mathlib.Core.Bool.{true}
use lib.Dec.{leb}
use borrow.Author.Tests.{leb-true, le-leb}
use Rattle.paper.specs.Ranges.{within}
use Rattle.paper.proofs.Booleans.{both_true, true_both}

pub within-true : (low high n : ℕ) → within low high n ≡ true → (low ≤ n) × (n ≤ high)
within-true low high n e = let p = both_true (leb low n) (leb n high) e in (leb-true low n p.0, leb-true n high p.1)

pub true_within : (low high n : ℕ) → low ≤ n → n ≤ high → within low high n ≡ true
true_within low high n h g = true_both (leb low n) (leb n high) (le-leb low n h) (le-leb n high g)

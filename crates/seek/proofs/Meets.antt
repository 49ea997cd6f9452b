-- What the tests of masks say of a set's members.
use Prim.Native.Nat.{ℕ, ◌^◌, ◌<◌}
use native.Mathlib.Nat.{div-one}
use native.Mathlib.Omega.{arith}
use mathlib.Core.Path.{◌≡◌, refl, ap, ◌∙◌}
use mathlib.Core.Bool.{Bool, true, false}
use lib.ListN.{length}
use lib.Bits.{bit_and}
use lib.Count.{ones}
use lib.Dec.{ltb}
use borrow.Author.Tests.{ltb-true, ltb-false}
use Rattle.std.proofs.Common.{Option, Some, None}
use Rattle.paper.specs.Limits.{most_results}
use Rattle.seek.specs.Sets.{has, positions, count_over}
use Rattle.seek.specs.InnerTest.{Decides, Beats}
use Rattle.seek.specs.declared.search.Lead.{Lead}
use Rattle.seek.proofs.Digits.{length-ones, count_ones}

pub length-set : (set : ℕ) → set < 2 ^ most_results → length (positions set) ≡ ones set
length-set set h = length-ones most_results 0 set h

pub count_set : (set mask : ℕ) → set < 2 ^ most_results → count_over (has mask) (positions set) ≡ ones (bit_and set mask)
count_set set mask h = count_ones most_results 0 set mask h ∙ ap (λ (x : ℕ). ones (bit_and set x)) (div-one mask)

-- ---- a sum against the best so far

decides_lt : (x y : ℕ) → Decides (ltb x y) (x < y)
decides_lt x y = go (ltb x y) refl
  where
    go : (q : Bool) → ltb x y ≡ q → Decides q (x < y)
    go true e = ltb-true x y e
    go false e = λ h. let g = ltb-false x y e in omega arith

pub beats_none : (b : Option Lead) (sum : ℕ) → b ≡ None → Beats b sum
beats_none b sum e = rw e tt

pub beats_some : (b : Option Lead) (v : Lead) (sum : ℕ) → b ≡ Some v → Decides (ltb v.total sum) (Beats b sum)
beats_some b v sum e = rw e (decides_lt v.total sum)

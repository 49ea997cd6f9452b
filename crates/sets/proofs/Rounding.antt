-- The aggregate is the sum rounded once, and what that means: no admissible set rounds to a higher one.
use Prim.Native.Nat.{ℕ, ◌*◌, ◌≤◌}
use native.Mathlib.Omega.{arith}
use mathlib.Core.Path.{sym, subst}
use mathlib.Core.List.{List}
use Rattle.paper.specs.Limits.{score_parts}
use Rattle.paper.specs.Units.{hundredths}
use Rattle.paper.specs.Rounding.{Nearest}
use Rattle.paper.proofs.Rounded.{nearest-is, nearest-most, nearest-rises}
use Rattle.results.specs.Results.{Student}
use Rattle.sets.specs.Admissible.{Admissible}
use Rattle.sets.specs.Promise.{total_of, aggregate_of, Chosen}
use Rattle.sets.specs.declared.BestSet.{BestSet}

-- no whole number of hundredths is nearer to the sum, and none that is as near is greater
pub rounded : (sum : ℕ) → Nearest (hundredths * sum) score_parts (aggregate_of sum)
unfolding aggregate_of
rounded sum = nearest-is (hundredths * sum) score_parts (omega arith)

-- a sum of at most n hundredths has an aggregate of at most n
pub rounded-most : (sum n : ℕ) → hundredths * sum ≤ n * score_parts → aggregate_of sum ≤ n
unfolding aggregate_of
rounded-most sum n h = nearest-most (hundredths * sum) score_parts n (omega arith) h

-- a greater sum has no lower aggregate
pub rounded-rises : (a b : ℕ) → a ≤ b → aggregate_of a ≤ aggregate_of b
unfolding aggregate_of
rounded-rises a b h = nearest-rises (hundredths * a) (hundredths * b) score_parts (omega arith)

module _ (s : Student) (table : List ℕ) (v : BestSet) (c : Chosen s table v) where
  -- the aggregate is the nearest to what the chosen set comes to
  pub aggregate-nearest : Nearest (hundredths * total_of s table v.set) score_parts v.aggregate
  aggregate-nearest = subst (Nearest (hundredths * total_of s table v.set) score_parts) (sym c.aggregate) (rounded (total_of s table v.set))

  -- no admissible set rounds to a higher aggregate: none that an adviser could name would have given the student more
  pub none-higher : (set : ℕ) → Admissible s set → aggregate_of (total_of s table set) ≤ v.aggregate
  none-higher set a = omega (arith, c.aggregate, rounded-rises (total_of s table set) (total_of s table v.set) (c.most set a))

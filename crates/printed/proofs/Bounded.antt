-- The aggregates of a cohort are at most 50000.
use Prim.Native.Nat.{ℕ, zero, suc, ◌≤◌}
use native.Mathlib.Omega.{arith}
use mathlib.Core.Path.{◌≡◌, refl}
use mathlib.Core.List.{List, [], ◌∷◌}
use lib.ListN.{get_or}
use Rattle.paper.specs.Limits.{most_aggregate}
use Rattle.paper.specs.Rulings.{Outcome, accepted, refused}
use Rattle.results.specs.Results.{student}
use Rattle.sets.specs.declared.BestSet.{BestSet}
use Rattle.sets.specs.Computed.{computed}
use Rattle.sets.proofs.Scored.{aggregate-most}
use Rattle.held.specs.Held.{Enrolled}
use Rattle.printed.specs.Report.{outcome, with_aggregate, aggregates_of}
use Rattle.printed.proofs.Best.{chosen}

pub aggregates-most : (catalogue table : List ℕ) (year : ℕ) (ss : List Enrolled) (i : ℕ) → get_or (aggregates_of (outcome catalogue table year) ss) i 0 ≤ most_aggregate
unfolding aggregates_of outcome
aggregates-most catalogue table year [] i = omega arith
aggregates-most catalogue table year (s ∷ ss) i = go (computed (student catalogue year s.results) table) refl (aggregates-most catalogue table year ss) i
  where
    go : (o : Outcome BestSet) → computed (student catalogue year s.results) table ≡ o → ((i : ℕ) → get_or (aggregates_of (outcome catalogue table year) ss) i 0 ≤ most_aggregate)
        → (i : ℕ) → get_or (with_aggregate o (aggregates_of (outcome catalogue table year) ss)) i 0 ≤ most_aggregate
    go (refused f) e h i = h i
    go (accepted v) e h zero = aggregate-most (student catalogue year s.results) table v (chosen (student catalogue year s.results) table v e)
    go (accepted v) e h (suc i) = h i

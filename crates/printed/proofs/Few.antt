-- No more are eligible than there are students, and no more left over than are eligible.
use Prim.Native.Nat.{ℕ, suc, ◌≤◌}
use native.Mathlib.Omega.{arith}
use mathlib.Core.List.{List, [], ◌∷◌}
use lib.ListN.{length}
use Rattle.paper.specs.Rulings.{Outcome, accepted, refused}
use Rattle.paper.proofs.Listing.{count-within}
use Rattle.sets.specs.declared.BestSet.{BestSet}
use Rattle.placements.specs.Placing.{remainder, left_over}
use Rattle.held.specs.Held.{Enrolled}
use Rattle.printed.specs.Report.{with_aggregate, aggregates_of}

pub eligible-within : (out : Enrolled → Outcome BestSet) (ss : List Enrolled) → length (aggregates_of out ss) ≤ length ss
unfolding aggregates_of
eligible-within out [] = omega arith
eligible-within out (s ∷ ss) = go (out s) (eligible-within out ss)
  where
    go : (o : Outcome BestSet) → length (aggregates_of out ss) ≤ length ss → length (with_aggregate o (aggregates_of out ss)) ≤ suc (length ss)
    go (accepted v) h = omega arith
    go (refused f) h = omega arith

pub remainder-within : (aggregates table : List ℕ) (Y : ℕ) → remainder aggregates table Y ≤ length aggregates
unfolding remainder
remainder-within aggregates table Y = count-within (length aggregates) (left_over aggregates table Y)

-- What is used of the best set's promise: what is accepted is chosen among all admissible sets.
use Prim.Native.Nat.{ℕ}
use native.Mathlib.Omega.{arith}
use mathlib.Core.Path.{◌≡◌, subst}
use mathlib.Core.List.{List}
use Rattle.paper.specs.Rulings.{Outcome, accepted, refused}
use Rattle.results.specs.Results.{Student}
use Rattle.sets.specs.Promise.{ruling, Chosen, Answered, RuledBy}
use Rattle.sets.specs.declared.BestSet.{BestSet}
use Rattle.sets.specs.Computed.{computed}
use Rattle.sets.proofs.Meeting.{computed-ruled}

pub chosen : (one : Student) (table : List ℕ) (v : BestSet) → computed one table ≡ accepted v → Chosen one table v
chosen one table v e = go (ruling one table) (computed-ruled one table)
  where
    go : (o : Outcome (Unit {0})) → RuledBy one table o (computed one table) → Chosen one table v
    go (refused f) w = absurd (let z : ◌≡◌ {A = ℕ} 0 1 = cc in omega arith)
    go (accepted u) w = subst (Answered one table) e w

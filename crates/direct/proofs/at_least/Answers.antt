use Rattle.tally.proofs.Counting.{count_next}
use Rattle.paper.proofs.Listing.{count_none}
use borrow.Author.Tests.{le-leb, lt-leb}
use lib.Dec.{leb}
use lib.ListN.{get_or}
use mathlib.Core.Bool.{true, false}
use native.Mathlib.Omega.{arith}
use Rattle.direct.proofs.at_least.Goals as goal
use Rattle.direct.proofs.at_least.Goals.{then-x-aggregate, else-x-aggregate}

pub loop-aggregate-init : goal.loop-aggregate-init
loop-aggregate-init c =
    (omega (arith, count_none (λ j. leb c.args.x (get_or c.args.aggregates.now j 0))), omega arith)

pub loop-aggregate-preserved : goal.loop-aggregate-preserved
loop-aggregate-preserved c =
    let i = c.loop-aggregate.aggregate-index in
    let x = c.args.x in
    let xs = c.args.aggregates.now in
    elim c.if-x-aggregate.branch [
      | then-x-aggregate w ↦ rw w.n-is (omega (arith, count_next i (λ j. leb x (get_or xs j 0)) true (le-leb x (get_or xs i 0) w.if-x-aggregate.true)), omega arith)
      | else-x-aggregate w ↦ rw w.n-is (omega (arith, count_next i (λ j. leb x (get_or xs j 0)) false (lt-leb x (get_or xs i 0) w.if-x-aggregate.false)), omega arith)
    ]

use mathlib.Core.List.{List}
use Rattle.tally.proofs.Turns.{tally_next, tally_done, zeros-at}
use Rattle.paper.proofs.Listing.{count_none, count-within}
use lib.Dec.{eqb}
use lib.ListN.{length, get_or, replicate}
use mathlib.Core.Path.{◌≡◌, sym, ap, ◌∙◌, refl}
use native.Mathlib.Omega.{arith}
use Prim.Native.Nat.{ℕ}
use borrow.Author.Rules.{rules}
use Rattle.tally.proofs.count.Goals as goal

pub loop-aggregate-init : goal.loop-aggregate-init
loop-aggregate-init c =
    let zeros : c.fill.new.self ≡ replicate (length c.args.counts.now) 0 = c.fill.ensures.after (λ y e. e) in
    (omega (arith, c.fill.ensures.len, c.requires.long), λ t. ap (λ (l : List ℕ). get_or l t 0) zeros ∙ zeros-at (length c.args.counts.now) t ∙ sym (count_none _))

pub overflow_add-counts : goal.overflow_add-counts
overflow_add-counts c =
    let own = get_or c.args.aggregates.now c.loop-aggregate.aggregate-index 0 in
    omega (arith, c.loop-aggregate.invariant.1 own, count-within c.loop-aggregate.aggregate-index (λ j. eqb (get_or c.args.aggregates.now j 0) own), c.requires.students.few)

pub loop-aggregate-preserved : goal.loop-aggregate-preserved
loop-aggregate-preserved c =
    (search rules, tally_next c.args.aggregates.now c.loop-aggregate.counts c.loop-aggregate.aggregate-index _ refl (omega (arith, c.requires.students.each c.loop-aggregate.aggregate-index)) c.loop-aggregate.invariant.1)

pub returns : goal.returns
returns c =
    tally_done _ _ c.loop-aggregate.aggregate-index (omega arith) c.loop-aggregate.invariant.0 c.loop-aggregate.invariant.1

use native.Mathlib.Omega.{arith}
use mathlib.Core.Path.{refl}
use Rattle.seek.proofs.Steps.{held_in_lem, short, fifth, sum_fits}
use Rattle.seek.proofs.search.Search.with_fifth.Goals as goal

pub overflow_add-sum : goal.overflow_add-sum
overflow_add-sum c =
    omega (arith, sum_fits c.requires.sought c.loop-i.invariant c.loop-i.i)

pub loop-i-preserved : goal.loop-i-preserved
loop-i-preserved c =
    fifth (held_in_lem c.requires.sought) c.loop-i.invariant c.loop-i-test.true refl c.requires.count c.better-best.ensures

pub returns : goal.returns
returns c =
    short (held_in_lem c.requires.sought) c.loop-i.invariant (omega (arith, c.requires.count, c.loop-i.invariant.place.low))

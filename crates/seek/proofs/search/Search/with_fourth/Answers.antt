use Rattle.std.proofs.Common.{ℕ, ◌≡◌, ◌+◌, ◌-◌}
use native.Mathlib.Omega.{arith}
use mathlib.Core.Path.{refl}
use Rattle.seek.specs.InnerTest.{value_at}
use Rattle.seek.specs.InnerSearch.{room, with_result, Stands}
use Rattle.seek.proofs.Steps.{held_in_lem, short, passes_over, more, joins, after, sum_fits}
use Rattle.seek.proofs.search.Search.with_fourth.Goals.{then-may_join, else-may_join}
use Rattle.seek.proofs.search.Search.with_fourth.Goals as goal

pub overflow_add-sum : goal.overflow_add-sum
overflow_add-sum c =
    omega (arith, sum_fits c.requires.sought c.loop-next.invariant (c.loop-next.next - 1))

pub with_fifth-best-requires : goal.with_fifth-best-requires
with_fifth-best-requires c =
    let w = held_in_lem c.requires.sought in
    let b = rw c.if-may_join.true at c.may_join.ensures in
    let g = c.args.self.now in
    let i = c.loop-next.next - 1 in
    let four = with_result c.args.set i in
    let joined : (n : ℕ) → n ≡ i + 1 → Stands g.test (value_at g.clashes.now) (value_at g.scores.now) g.held (room n four) c.loop-next.best n four (c.args.sum + value_at g.scores.now i) =
    λ n e. rw e (joins w c.loop-next.invariant (omega arith) b refl refl)
    in record {
      sought = c.requires.sought;
      count = omega (arith, more w c.loop-next.invariant (omega arith) b refl, c.requires.count);
      stands = joined c.loop-next.next (omega arith);
    }

pub loop-next-preserved : goal.loop-next-preserved
loop-next-preserved c =
    let w = held_in_lem c.requires.sought in
    let s = c.loop-next.invariant in
    let past : c.loop-next.next + 1 - 1 ≡ c.loop-next.next - 1 + 1 = omega arith in
    elim c.if-may_join.branch [
      | then-may_join v ↦ rw (past, v.best-is) (after w s (omega arith) (rw v.if-may_join.true at c.may_join.ensures) refl v.with_fifth-best.ensures)
      | else-may_join v ↦ rw (past, v.best-is) (passes_over w s (omega arith) (rw v.if-may_join.false at c.may_join.ensures))
    ]

pub returns : goal.returns
returns c =
    short (held_in_lem c.requires.sought) c.loop-next.invariant (omega (arith, c.requires.count, c.loop-next.invariant.place.low))

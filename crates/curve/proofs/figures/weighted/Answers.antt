use Rattle.std.specs.Slice.Iter.{iter_rest}
use Rattle.paper.specs.Limits.{ages}
use Rattle.curve.proofs.Weighing.{Weighed, weighed_none, weighed_more, long_same, weighed-all}
use Prim.Native.Nat.{◌+◌, ◌*◌}
use lib.ListN.{take, drop}
use mathlib.Core.Logic.{⊎_elim}
use mathlib.Core.Path.{◌≡◌, ap, ◌∙◌}
use native.Mathlib.Omega.{arith}
use Rattle.curve.proofs.figures.weighted.Goals as goal

more : (c : goal.After-from-in-loop-q) → Weighed c.args.figures.now (iter_rest c.next.new.self.a) (iter_rest c.next.new.self.b) (c.loop-q.s + c.in-Some.q.now * c.in-Some.e.now) (c.loop-q.invariant.0 + 1)
more c = weighed_more c.requires c.loop-q.invariant.1 c.in-Some.ensures.steps.0 c.in-Some.ensures.steps.1

pub loop-q-init : goal.loop-q-init
loop-q-init c =
    let whole = c.into_iter-q-iterator.ensures.into_iter_gives in
    let qs : iter_rest c.into_iter-q-iterator.result.a ≡ take ages c.args.figures.now = ap (λ z. iter_rest z.a) whole ∙ ap iter_rest c.zip-q-items.ensures.first ∙ c.iter.ensures.rest ∙ c.split_at.ensures.front in
    let es : iter_rest c.into_iter-q-iterator.result.b ≡ drop ages c.args.figures.now = ap (λ z. iter_rest z.b) whole ∙ c.zip-q-items.ensures.second.0 ∙ c.split_at.ensures.back in
    rw (qs, es) (0, weighed_none c.args.figures.now)

pub overflow_add-s : goal.overflow_add-s
overflow_add-s c = rw (c.from.ensures, c.from-in-loop-q.ensures) (omega (arith, (more c).most, (more c).within))

pub loop-q-preserved : goal.loop-q-preserved
loop-q-preserved c = rw (c.from.ensures, c.from-in-loop-q.ensures) (c.loop-q.invariant.0 + 1, more c)

pub returns : goal.returns
returns c =
    let w = c.loop-q.invariant.1 in
    weighed-all c.requires w (⊎_elim (λ e. e.1.0) (λ e. omega (arith, e.1.0, long_same c.requires w)) c.in-None.ensures.steps)

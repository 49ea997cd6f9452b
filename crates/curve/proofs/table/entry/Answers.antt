use Rattle.curve.specs.Curve.{knot}
use Rattle.curve.proofs.Meaning.{entry-lower, entry-upper, entry-flat, lower-within, upper-within}
use native.Mathlib.Omega.{arith}
use mathlib.Core.Path.{sym, ◌∙◌}
use Prim.Native.Nat.{◌<◌}
use Rattle.curve.proofs.table.entry.Goals as goal

pub returns-then-a-eq0 : goal.returns-then-a-eq0
returns-then-a-eq0 c =
    let r = c.args.rate in
    let k = c.args.k in
    (c.upper.ensures ∙ sym (entry-flat r k c.if-a-eq0.true), omega (arith, c.upper.ensures, upper-within (knot r) k (omega arith)))

pub returns-then-k-a : goal.returns-then-k-a
returns-then-k-a c =
    let r = c.args.rate in
    let k = c.args.k in
    let p : 0 < knot r = omega arith in
    (c.lower.ensures ∙ sym (entry-lower r k c.if-k-a.true p), omega (arith, c.lower.ensures, lower-within (knot r) k p c.if-k-a.true (omega arith)))

pub returns : goal.returns
returns c =
    let r = c.args.rate in
    let k = c.args.k in
    (c.upper-2.ensures ∙ sym (entry-upper r k c.if-k-a.false), omega (arith, c.upper-2.ensures, upper-within (knot r) k (omega arith)))

use Rattle.std.proofs.Common.{◌≡◌, ◌<◌, ℕ, bit_or, arith, subst, sym, ap}
use Rattle.std.proofs.Math.ListN.{length-set}
use borrow.Author.Count.{below_more}
use Rattle.paper.specs.Limits.{most_results}
use Rattle.paper.proofs.Firsts.{first-here, first-none}
use Rattle.paper.specs.declared.refusal.Refusal.TheVariants.{Again}
use Rattle.results.specs.Results.{held_in}
use Rattle.clashes.specs.InnerMasks.{MaskOf}
use Rattle.clashes.specs.InnerPairs.{kept_among, repeated_in, clash_in, HoldsBelow}
use Rattle.clashes.proofs.Masking.{marked-yes, marked-no}
use Rattle.clashes.proofs.Pairing.{kept_same, kept_more, repeated-yes, repeated-no, unused-no, clash_at_lem, clash_more}
use Rattle.clashes.proofs.pairs.compare.Goals.{then-usable-i-ne0+else-others-ne0, else-usable-i-ne0}
use Rattle.clashes.proofs.pairs.compare.Goals as goal

pub returns-then-others-ne0 : goal.returns-then-others-ne0
returns-then-others-ne0 c =
    let g = c.args in
    let i = c.loop-i.i in
    let under : i < most_results = omega (arith, c.requires.few, c.loop-i-test.true) in
    let again = repeated-yes g.results.now g.masks.usable i _ c.set_against-others.ensures.again_are (marked-yes g.masks.usable i under c.if-usable-i-ne0.true) c.if-others-ne0.true in
    let here = first-here _ (repeated_in g.results.now g.masks.usable) i c.loop-i-test.true c.loop-i.invariant.fresh again in
    record { one_of = omega (arith, here, c.loop-i-test.true); is_first = ap Again (sym here) }

pub loop-i-preserved : goal.loop-i-preserved
loop-i-preserved c =
    let g = c.args in
    let results = g.results.now in
    let usable = g.masks.usable in
    let i = c.loop-i.i in
    let inv = c.loop-i.invariant in
    let under : i < most_results = omega (arith, c.requires.few, c.loop-i-test.true) in
    let a = c.set_against-others.ensures in
    let here : HoldsBelow (clash_in g.masks g.identities.now results i) i (bit_or c.by_sorts.result c.set_against-others.result.apart) = rw c.by_sorts.ensures (clash_at_lem g.masks g.identities.now results i _ a.apart_are) in
    let more = clash_more (clash_in g.masks g.identities.now results) c.loop-i.clashes i _ (omega (arith, under, inv.sized)) inv.clashes_are here in
    elim c.if-usable-i-ne0.branch [
      | then-usable-i-ne0+else-others-ne0 v ↦
          let u = marked-yes usable i under v.if-usable-i-ne0.true in
          record {
            sized = simp length-set inv.sized;
            fresh = below_more _ i inv.fresh (repeated-no results usable i _ a.again_are v.if-others-ne0.false);
            kept_are = rw (v.kept-is, v.marked-kept.ensures, v.without.ensures) (kept_more results usable i _ under inv.kept_are u _ _ a.later_are a.earlier_are);
            clashes_are = more;
          }
      | else-usable-i-ne0 v ↦
          let u = marked-no usable i under v.if-usable-i-ne0.false in
          record {
            sized = simp length-set inv.sized;
            fresh = below_more _ i inv.fresh (unused-no results usable i u);
            kept_are = rw v.kept-is (kept_same results usable i _ under inv.kept_are u);
            clashes_are = more;
          }
    ]

pub returns : goal.returns
returns c =
    let l = c.loop-i in
    let g = c.args in
    let e : l.i ≡ held_in g.results.now = omega arith in
    record {
      none_again = first-none _ (repeated_in g.results.now g.masks.usable) (λ j m. l.invariant.fresh j (omega arith));
      kept_are = subst (λ (n : ℕ). MaskOf (kept_among g.results.now g.masks.usable n) n l.kept) e l.invariant.kept_are;
      clashes_are = λ k m. l.invariant.clashes_are k (omega arith);
    }

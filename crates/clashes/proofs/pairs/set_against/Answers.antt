use Rattle.std.proofs.Common.{◌<◌, arith, subst, ◌||◌}
use Rattle.paper.specs.Limits.{most_results}
use Rattle.clashes.specs.InnerPairs.{AgainstAll, same_year_in, later_in, earlier_in, far_in, shared}
use Rattle.clashes.proofs.Masking.{one}
use Rattle.clashes.proofs.pairs.set_against.Goals as goal

pub loop-j-preserved : goal.loop-j-preserved
loop-j-preserved c =
    let g = c.args in
    let j = c.loop-j.j in
    let a = c.loop-j.against in
    let m = c.loop-j.invariant in
    let under : j < most_results = omega (arith, c.loop-j-test.true, c.requires.few, c.requires.one_of) in
    let same = c.same_subject-same.ensures in
    let year = c.year_at-year.ensures in
    let own = c.year_at-own.ensures in
    record {
      again_are = rw c.marked.ensures (one (same_year_in g.results.now g.usable g.i) j a.again under m.again_are _ (rw (same, year, own)));
      later_are = rw c.marked-in-loop-j.ensures (one (later_in g.results.now g.usable g.i) j a.later under m.later_are _ (rw (same, year, own)));
      earlier_are = rw c.marked-in-loop-j-2.ensures (one (earlier_in g.results.now g.usable g.i) j a.earlier under m.earlier_are _ (rw (same, year, own)));
      apart_are = rw c.marked-in-loop-j-3.ensures (one (λ k. far_in g.results.now g.i k || shared g.identities.now g.i k) j a.apart under m.apart_are _ (rw (c.too_far-far.ensures, c.shares-shared.ensures, year, own)));
    }

pub returns : goal.returns
returns c =
    subst (λ n. AgainstAll c.args.results.now c.args.usable c.args.identities.now c.args.i n c.loop-j.against) (omega arith) c.loop-j.invariant

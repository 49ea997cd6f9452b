use Rattle.std.proofs.Common.{◌≡◌, ◌-◌, refl, arith}
use Rattle.std.specs.Int.Count.{ones}
use Rattle.paper.specs.Limits.{most_results}
use Rattle.seek.specs.Sets.{In}
use Rattle.seek.specs.InnerTest.{value_at, Allowed, Joins}
use Rattle.seek.specs.InnerSearch.{key, Tried}
use Rattle.seek.proofs.Digits.{test_in, test_out}
use Rattle.seek.proofs.Steps.{held_in_lem, starts, short, passes_over, more, joins, back, out-most, out-fewer, out, out-less, finish, sum_fits, skip_less, join_less}
use Rattle.seek.proofs.search.Search.search.Goals.{then-may_join, else-may_join, then-members-eq-STEPPED, else-members-eq-STEPPED, else-members-lt-STEPPED-via-then-members-lt-STEPPED+else-at-self, else-members-lt-STEPPED-via-else-members-lt-STEPPED}
use Rattle.seek.proofs.search.Search.search.Goals as goal

pub sets-init : goal.sets-init
sets-init c =
    let g = c.args.self.now in
    let s = starts {test = g.test} {clash = value_at g.clashes.now} {score = value_at g.scores.now} {held = g.held} in
    record { count = s.0; stands = s.1 }

pub overflow_add-sum : goal.overflow_add-sum
overflow_add-sum c = omega (arith, sum_fits c.requires c.sets.invariant.stands c.sets.at)

pub sets-smaller-then-at-self : goal.sets-smaller-then-at-self
sets-smaller-then-at-self c =
    let low = c.if-at-self.true in
    let most = c.requires.few in
    elim c.if-may_join.branch [
      | then-may_join v ↦ join_less c.sets.at c.sets.set (omega arith) c.sets.invariant.stands.place.small v.set-is
      | else-may_join v ↦ rw v.set-is (skip_less c.sets.at c.sets.set (omega arith))
    ]

pub sets-preserved-then-at-self : goal.sets-preserved-then-at-self
sets-preserved-then-at-self c =
    let g = c.args.self.now in
    let s = c.sets in
    let w = held_in_lem c.requires in
    let low = c.if-at-self.true in
    let most = c.requires.few in
    elim c.if-may_join.branch [
      | then-may_join v ↦
          let b : Joins g.test.kept (value_at g.clashes.now) s.set s.at = rw v.if-may_join.true at c.may_join.ensures in
          record {
            count = omega (arith, more w s.invariant.stands (omega arith) b v.set-is);
            stands = joins w s.invariant.stands (omega arith) b v.set-is v.sum-is;
          }
      | else-may_join v ↦
          rw (v.set-is, v.sum-is) (record {
            count = s.invariant.count;
            stands = passes_over w s.invariant.stands (omega arith) (rw v.if-may_join.false at c.may_join.ensures);
          })
    ]

pub back-init : goal.back-init
back-init c =
    let g = c.args.self.now in
    let t = c.sets in
    let s = t.invariant.stands in
    let done : ((ones t.set ≡ 3) → ⊥) → Tried (Allowed g.test (value_at g.clashes.now)) (value_at g.scores.now) (key most_results t.set) t.best =
    λ n.
    short (held_in_lem c.requires) s
    (elim c.else-members-lt-STEPPED.branch [
      | else-members-lt-STEPPED-via-then-members-lt-STEPPED+else-at-self v ↦ omega arith
      | else-members-lt-STEPPED-via-else-members-lt-STEPPED v ↦ let i = t.invariant.count in absurd (n (omega arith))
    ])
    in record {
      same = refl;
      count = t.invariant.count;
      stands = record {
        place = s.place;
        fits = s.fits;
        worth = s.worth;
        tried = elim c.if-members-eq-STEPPED.branch [
          | then-members-eq-STEPPED v ↦ rw v.best-is v.with_fourth-best.ensures
          | else-members-eq-STEPPED v ↦ rw v.best-is (done v.if-members-eq-STEPPED.false)
        ];
      };
    }

pub overflow_sub-sum : goal.overflow_sub-sum
overflow_sub-sum c =
    let s = c.back.invariant.stands in
    let most = c.requires.few in
    out-most s most c.if-at-eq0.false (test_in c.back.set (c.back.at - 1) (omega (arith, s.place.low)) c.if-set-at-ne0.true)

pub sets-smaller : goal.sets-smaller
sets-smaller c =
    let s = c.back.invariant.stands in
    let most = c.requires.few in
    out-less s most c.if-at-eq0.false (test_in c.back.set (c.back.at - 1) (omega (arith, s.place.low)) c.if-set-at-ne0.true) c.sets.at c.sets.set c.back.invariant.same

pub sets-preserved : goal.sets-preserved
sets-preserved c =
    let s = c.back.invariant.stands in
    let most = c.requires.few in
    let b : In (c.back.at - 1) c.back.set = test_in c.back.set (c.back.at - 1) (omega (arith, s.place.low)) c.if-set-at-ne0.true in
    record {
      count = omega (arith, out-fewer s most c.if-at-eq0.false b, c.back.invariant.count);
      stands = out s most c.if-at-eq0.false b refl;
    }

pub back-preserved : goal.back-preserved
back-preserved c =
    let i = c.back.invariant in
    let most = c.requires.few in
    record {
      same = i.same;
      count = i.count;
      stands = back i.stands most c.if-at-eq0.false (test_out c.back.set (c.back.at - 1) (omega (arith, i.stands.place.low)) c.if-set-at-ne0.false);
    }

pub returns : goal.returns
returns c = finish c.back.invariant.stands c.if-at-eq0.true

use Rattle.direct.proofs.Turns.{each_start, each_next, each-end}
use Rattle.direct.proofs.place_each.Goals as goal

pub loop-student-init : goal.loop-student-init
loop-student-init c =
    each_start c.args.aggregates.now c.args.table.now c.args.population c.args.bands.now c.requires.lent

pub loop-student-preserved : goal.loop-student-preserved
loop-student-preserved c =
    each_next c.loop-student.invariant c.loop-student-test.true c.at_least-c.ensures c.highest-reached.ensures c.left_over-remainder.ensures

pub returns : goal.returns
returns c =
    each-end c.loop-student.invariant c.loop-student-test.false

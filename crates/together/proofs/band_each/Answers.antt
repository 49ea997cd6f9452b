use mathlib.Core.Path.{refl}
use Rattle.together.specs.Inner.{read_of}
use Rattle.paper.proofs.Filling.{next_filled, all_filled}
use Rattle.together.proofs.band_each.Goals as goal

pub loop-student-preserved : goal.loop-student-preserved
loop-student-preserved c =
    next_filled _ c.loop-student.invariant c.loop-student-test.true refl

pub returns : goal.returns
unfolding read_of
returns c =
    all_filled c.loop-student.invariant c.loop-student-test.false

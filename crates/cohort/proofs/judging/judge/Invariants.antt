use Prim.Native.Nat.{◌-◌}
use lib.ListN.{length}
use Rattle.paper.specs.Limits.{most_students}
use Rattle.held.specs.Held.{Held, ids_of}
use Rattle.cohort.specs.Inner.{Marked, Begins}
use Rattle.cohort.proofs.Walk.{Reached}
use Rattle.cohort.proofs.judging.judge.Given as goal

-- the fields before the offset are read, the marks are the slots that have their score, and the ids note the students
abbrev pub invariant-loop-at : goal.invariant-loop-at
invariant-loop-at l = (held : Held) × Reached l.file l.far held l.at × Marked held.table l.noted.marks × Begins most_students (ids_of held.students) l.initial.noted.ids l.noted.ids

abbrev pub decreases-loop-at : goal.decreases-loop-at
decreases-loop-at l = length l.file - l.at

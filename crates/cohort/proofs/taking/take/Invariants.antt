use Prim.Native.Nat.{◌-◌}
use lib.ListN.{length}
use Rattle.paper.specs.Limits.{most_students, table_bytes}
use Rattle.held.specs.Held.{Held, ids_of}
use Rattle.cohort.specs.Inner.{Begins, Shows}
use Rattle.cohort.specs.InnerValues.{rest}
use Rattle.cohort.proofs.Walk.{Reached}
use Rattle.cohort.proofs.taking.take.Given as goal

-- the fields before the offset are read; the table and the ids begin with what they hold, and the numbers and the other buffers show it
abbrev pub invariant-loop-at : goal.invariant-loop-at
invariant-loop-at l = (held : Held) × Reached l.file l.so.far held l.at × Begins table_bytes held.table l.initial.table l.table × Begins most_students (ids_of held.students) l.initial.ids l.ids
    × Shows held (rest l.initial.catalogue l.initial.figures l.initial.counts l.initial.results) l.so (rest l.catalogue l.figures l.counts l.results)

abbrev pub decreases-loop-at : goal.decreases-loop-at
decreases-loop-at l = length l.file - l.at

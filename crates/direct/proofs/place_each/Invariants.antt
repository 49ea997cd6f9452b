use Rattle.direct.proofs.Turns.{Each}
use Rattle.direct.proofs.place_each.Given as goal

-- the students passed are placed, and those of them left over are counted
abbrev pub invariant-loop-student : goal.invariant-loop-student
invariant-loop-student l = Each l.aggregates l.table l.population l.student l.bands l.remainder

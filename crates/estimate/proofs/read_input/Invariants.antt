use Rattle.std.proofs.Common.{length, ◌-◌, ◌≤◌}
use Rattle.estimate.proofs.read_input.Given as goal

-- n bytes of the file are read
abbrev pub invariant-loop-n : goal.invariant-loop-n
invariant-loop-n l = l.n ≤ length l.file

abbrev pub decreases-loop-n : goal.decreases-loop-n
decreases-loop-n l = length l.initial.file - l.n

use Rattle.paper.specs.Limits.{figure_count, figure_bytes}
use Rattle.paper.specs.Bytes.{long}
use lib.ListN.{length, get_or}
use mathlib.Core.Path.{◌≡◌}
use Prim.Native.Nat.{ℕ, ◌*◌, ◌<◌}
use Rattle.cohort.proofs.values.read_figures.Given as goal

-- the figures passed are those of the value
abbrev pub invariant-loop-i : goal.invariant-loop-i
invariant-loop-i l = (length l.figures ≡ figure_count) × ((j : ℕ) → j < l.i → get_or l.figures j 0 ≡ long l.value (figure_bytes * j))

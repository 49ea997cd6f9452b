use Rattle.curve.specs.Population.{Eof}
use Rattle.paper.specs.Limits.{most_figure}
use Rattle.paper.specs.Lists.{sum}
use Prim.Native.Nat.{◌*◌, ◌≤◌}
use mathlib.Core.Path.{◌≡◌}
use Rattle.curve.proofs.figures.eligible.Given as goal

-- the sum has E of the ages passed, each at most the greatest figure
abbrev pub invariant-loop-e : goal.invariant-loop-e
invariant-loop-e l = (l.s ≡ sum l.e-index (λ i. Eof l.figures i)) × (l.s ≤ most_figure * l.e-index)

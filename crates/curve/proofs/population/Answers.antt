use Rattle.curve.specs.Inner.{TenFigures}
use Rattle.paper.proofs.Firsts.{none_over}
use Rattle.paper.specs.Limits.{figure_count, most_figure}
use Rattle.paper.specs.Lists.{first_over}
use native.Mathlib.Omega.{arith}
use Prim.Native.Nat.{ℕ, ◌≤◌}
use lib.ListN.{length}
use mathlib.Core.List.{List}
use mathlib.Core.Path.{◌≡◌}
use Rattle.curve.proofs.population.Goals as goal

-- ten figures, none over, are what the sums ask
ten_figures : (figures : List ℕ) → length figures ≡ figure_count → length figures ≤ first_over most_figure figures → TenFigures figures
ten_figures figures ten none = record { ten = ten; each = none_over most_figure figures none }

pub eligible-eligible-requires : goal.eligible-eligible-requires
eligible-eligible-requires c = ten_figures c.args.figures.now c.if-figures-ne-FIGURE_COUNT.false (omega arith)

pub weighted-requires : goal.weighted-requires
weighted-requires c = ten_figures c.args.figures.now c.if-figures-ne-FIGURE_COUNT.false (omega arith)

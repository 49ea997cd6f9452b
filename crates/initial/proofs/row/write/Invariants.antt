use Rattle.firsts.specs.Counts.{below as under}
use Rattle.firsts.specs.InnerAmong.{score_among}
use Rattle.catalogue.specs.Kinds.{number}
use Rattle.scores.specs.Rows.{row_of}
use mathlib.Core.Path.{◌≡◌}
use Rattle.initial.proofs.row.write.Given as goal

-- the results passed are summed below, and stand in their slots; the other slots are missing
abbrev pub invariant-loop-j : goal.invariant-loop-j
invariant-loop-j l = (l.below ≡ under l.counts l.j) × (l.row ≡ row_of (score_among (number l.kind) l.counts l.j))

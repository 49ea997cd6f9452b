use Rattle.paper.specs.Limits.{band_count}
use Rattle.curve.specs.Curve.{entry}
use Rattle.paper.proofs.Filling.{Filled}
use Rattle.curve.proofs.table.fill.Given as goal

-- below k the table has the entries of the rate
abbrev pub invariant-loop-k : goal.invariant-loop-k
invariant-loop-k l = Filled band_count (entry l.rate) l.k l.table

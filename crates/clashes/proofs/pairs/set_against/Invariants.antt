use Rattle.clashes.specs.InnerPairs.{AgainstAll}
use Rattle.clashes.proofs.pairs.set_against.Given as goal

-- the results before j are marked by what they are to result i
abbrev pub invariant-loop-j : goal.invariant-loop-j
invariant-loop-j l = AgainstAll l.results l.usable l.identities l.i l.j l.against

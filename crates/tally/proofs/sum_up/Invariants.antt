use Rattle.tally.proofs.Turns.{Summed}
use Rattle.tally.proofs.sum_up.Given as goal

-- below n the entries are sums, the last of them at hand; from n on they are counts
abbrev pub invariant-loop-n : goal.invariant-loop-n
invariant-loop-n l = Summed l.initial.counts l.n-index l.counts l.sum

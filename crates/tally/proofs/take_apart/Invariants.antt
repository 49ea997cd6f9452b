use Rattle.tally.proofs.Turns.{Parted}
use Rattle.tally.proofs.take_apart.Given as goal

-- below n the entries are taken apart, the sum before t at hand; from n on they are sums
abbrev pub invariant-loop-n : goal.invariant-loop-n
invariant-loop-n l = Parted l.initial.sums l.n-index l.sums l.below

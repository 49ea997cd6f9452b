use Rattle.tally.proofs.Turns.{Walked}
use Rattle.tally.proofs.walk.Given as goal

-- from t on the counts are turned into bands; C, the band search and the remainder have come down to t
abbrev pub invariant-loop-t : goal.invariant-loop-t
invariant-loop-t l = Walked l.table l.population l.initial.counts l.t l.counts l.reached.band l.reached.sum l.reached.places l.c l.remainder

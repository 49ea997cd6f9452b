use Rattle.std.specs.Slice.Iter.{iter_rest}
use Rattle.curve.proofs.Weighing.{Weighed}
use Prim.Native.Nat.{ℕ}
use Rattle.curve.proofs.figures.weighted.Given as goal

-- the ages passed are summed
abbrev pub invariant-loop-q : goal.invariant-loop-q
invariant-loop-q l = (age : ℕ) × Weighed l.figures (iter_rest l.q-iterator.a) (iter_rest l.q-iterator.b) l.s age

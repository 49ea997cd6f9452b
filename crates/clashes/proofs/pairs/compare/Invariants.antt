use Rattle.std.proofs.Common.{◌≡◌, ℕ, ◌<◌, length, false}
use Rattle.paper.specs.Limits.{most_results}
use Rattle.seek.specs.InnerTest.{value_at}
use Rattle.clashes.specs.InnerMasks.{MaskOf}
use Rattle.clashes.specs.InnerPairs.{kept_among, repeated_in, clash_in, HoldsBelow}
use Rattle.clashes.proofs.pairs.compare.Given as goal

-- of the results before i none is repeated, those that are kept among them are marked, and the clashes of each stand by position
abbrev pub invariant-loop-i : goal.invariant-loop-i
invariant-loop-i l = record {
  sized : length l.clashes ≡ most_results;
  fresh : (j : ℕ) → j < l.i → repeated_in l.results l.usable j ≡ false;
  kept_are : MaskOf (kept_among l.results l.usable l.i) l.i l.kept;
  clashes_are : (k : ℕ) → k < l.i → HoldsBelow (clash_in l.masks l.identities l.results k) k (value_at l.clashes k);
}

use Rattle.std.proofs.Common.{◌≡◌, ℕ, ◌<◌, length}
use Rattle.paper.proofs.Ruled.{Unbroken}
use Rattle.paper.specs.Limits.{most_results}
use Rattle.results.specs.Results.{student}
use Rattle.results.specs.Scoring.{score_at, identity_at}
use Rattle.sets.specs.Rules.{result_rules}
use Rattle.bestset.specs.InnerMarks.{Masked, ByPosition}
use Rattle.bestset.proofs.marks.read_all.Given as goal

-- the results before i break no rule, and are read: their masks, and their scores and identities by position
abbrev pub invariant-loop-i : goal.invariant-loop-i
invariant-loop-i l = record {
  scores_sized : length l.scores ≡ most_results;
  identities_sized : length l.identities ≡ most_results;
  masks_are : Masked (student l.catalogue l.year l.results) l.i l.masks;
  scores_are : ByPosition (score_at (student l.catalogue l.year l.results) l.table) l.i l.scores;
  identities_are : ByPosition (identity_at (student l.catalogue l.year l.results)) l.i l.identities;
  fresh : (j : ℕ) → j < l.i → Unbroken (result_rules (student l.catalogue l.year l.results) l.table j);
}

-- A score is at most the greatest.
use Prim.Native.Nat.{ℕ, ◌≤◌}
use native.Mathlib.Omega.{arith}
use mathlib.Core.Path.{◌≡◌, refl}
use mathlib.Core.List.{List}
use Rattle.paper.specs.Limits.{top_score}
use Rattle.scores.specs.Scores.{Found, scaled, absent, too_high, slot_of}
use Rattle.scores.proofs.Filling.{found_within}
use Rattle.results.specs.Scoring.{score_found, worth, score}
use Rattle.results.specs.declared.reading.StudentResult.{StudentResult}

worth-most : (f : Found) → ((v : ℕ) → f ≡ scaled v → v ≤ top_score) → worth f ≤ top_score
worth-most (scaled v) within = within v refl
worth-most absent within = omega arith
worth-most too_high within = omega arith

pub score-most : (table : List ℕ) (r : StudentResult) → score table r ≤ top_score
unfolding score score_found
score-most table r = worth-most (score_found table r) (found_within table r.subject (slot_of r.entry.kind r.letter r.number))

use Rattle.outcomes.proofs.Collecting.{Gathered}
use Rattle.paper.specs.Limits.{result_bytes, most_results, most_students}
use lib.ListN.{length, get_or}
use mathlib.Core.Path.{◌≡◌}
use Prim.Native.Nat.{ℕ, ◌*◌, ◌≤◌}
use Rattle.outcomes.proofs.collect.Given as goal

-- what is told of the first i students is noted, and their results end at a place; the numbers of results of the others still stand
abbrev pub invariant-loop-i : goal.invariant-loop-i
invariant-loop-i l = (l.i ≤ length l.initial.counts) × (l.place ≤ most_results * result_bytes * l.i) × (l.eligible ≤ l.i) × (length l.aggregates ≡ most_students) × (length l.counts ≡ length l.initial.counts) × (length l.places ≡ length l.initial.counts)
    × ((k : ℕ) → l.i ≤ k → get_or l.counts k 0 ≡ get_or l.initial.counts k 0)
    × Gathered l.catalogue l.table l.year (length l.initial.counts) l.initial.counts l.results l.i l.place l.aggregates l.eligible l.counts l.places

-- The aggregates that are collected are those of a cohort, and the place of a refusal is short.
use Prim.Native.Nat.{ℕ, ◌*◌, ◌≤◌, ◌<◌}
use native.Mathlib.Omega.{arith}
use mathlib.Core.Path.{◌≡◌, sym, subst}
use mathlib.Core.List.{List, []}
use lib.ListN.{length, get_or, take, drop, length-take}
use lib.Seq.{length-take-le}
use Rattle.paper.specs.Limits.{most_aggregate, most_students, most_subjects, most_results, result_bytes}
use Rattle.paper.specs.Rulings.{Outcome, accepted, refused, place_in}
use Rattle.paper.proofs.Ruled.{IfRefused}
use Rattle.catalogue.specs.Catalogue.{subjects}
use Rattle.results.specs.Results.{Student as One, student, held}
use Rattle.sets.specs.declared.BestSet.{BestSet}
use Rattle.sets.specs.Computed.{computed}
use Rattle.sets.proofs.Places.{Near, place-near}
use Rattle.printed.specs.Report.{outcome}
use Rattle.printed.specs.InnerCohorts.{Populated, Cohort}
use Rattle.outcomes.specs.Inner.{students_in, outcome_at, Collected}
use Rattle.printed.proofs.Bounded.{aggregates-most}

-- aggregates that are collected are those of a cohort
pub collected_cohort : (catalogue table : List ℕ) (year rate population : ℕ) (counts results buffer numbers places : List ℕ) (m : ℕ) → length counts ≤ most_students
    → Populated rate population → Collected (outcome catalogue table year) counts results buffer numbers places m → Cohort (take m buffer) rate population
collected_cohort catalogue table year rate population counts results buffer numbers places m h p w =
    let long : length (take m buffer) ≡ m = length-take-le m buffer (omega (arith, w.long, w.within)) in
    record {
      populated = p;
      few = omega (arith, w.within);
      each = λ i. subst (λ (l : List ℕ). get_or l i 0 ≤ most_aggregate) (sym (w.are []).aggregates_are) (aggregates-most catalogue table year (students_in (length counts) [] counts results) i);
    }

-- the place of a refusal stands in a byte
pub place_short : (catalogue table : List ℕ) (year : ℕ) (results : List ℕ) (place count : ℕ) → subjects catalogue ≤ most_subjects → count ≤ most_results
    → place_in (outcome_at catalogue table year results place count) < 256
place_short catalogue table year results place count s r = go (computed one table) (place-near one table)
  where
    own : List ℕ
    own = take (result_bytes * count) (drop place results)

    one : One
    one = student catalogue year own

    few : held one ≤ most_results
    few = omega (arith, length-take (result_bytes * count) (drop place results))

    go : (o : Outcome BestSet) → IfRefused (Near one table) o → place_in o < 256
    go (accepted v) n = omega arith
    go (refused f) n = omega (arith, n, few)

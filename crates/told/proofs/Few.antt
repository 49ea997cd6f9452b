-- No more students are left over than there are, so the remainder fits what C gets.
use Prim.Native.Nat.{ℕ, ◌≤◌}
use native.Mathlib.Omega.{arith}
use mathlib.Core.Path.{◌≡◌, sym}
use mathlib.Core.List.{List, ◌++◌}
use lib.ListN.{length}
use borrow.Author.Tests.{ltb-false}
use Rattle.paper.specs.Limits.{most_students, most_tallied}
use Rattle.paper.specs.Rulings.{Outcome, accepted, refused, values_or, Rule, judged}
use Rattle.paper.proofs.Ruled.{all_unbroken, given-values}
use Rattle.placements.specs.Placing.{remainder}
use Rattle.std.proofs.Common.{Result}
use Rattle.paper.specs.Promises.{said}
use Rattle.paper.specs.declared.refusal.Refusal.{Refusal}
use Rattle.placements.specs.Promise.{size_rules, lent_rules, cohort_rules, Promise, Lent, TogetherPromise}
use Rattle.printed.proofs.Few.{remainder-within}

-- of what the rules of either entry permit to be said, at most as many as its limit
few : (limit : ℕ) (aggregates table : List ℕ) (Y bands : ℕ) (more : List Rule) (o : Outcome ℕ)
    → o ≡ judged (size_rules limit (length aggregates) (length table) bands ++ more) (remainder aggregates table Y) → values_or 0 o ≤ limit
few limit aggregates table Y bands more (refused f) e = omega arith
few limit aggregates table Y bands more (accepted n) e =
    let rules = size_rules limit (length aggregates) (length table) bands ++ more in
    omega (
      arith,
      given-values rules (remainder aggregates table Y) n (sym e),
      remainder-within aggregates table Y,
      ltb-false limit (length aggregates) (all_unbroken rules (remainder aggregates table Y) n (sym e)).0,
    )

-- so of every answer that the promises permit
pub direct_few : (aggregates table : List ℕ) (Y : ℕ) (before : List ℕ) {r : Result ℕ Refusal} {after : List ℕ} → Promise aggregates table Y before r after → values_or 0 (said r) ≤ most_students
direct_few aggregates table Y before {r = r} p = few most_students aggregates table Y (length before) (cohort_rules aggregates table Y) (said r) p.says

pub together-few : (aggregates table : List ℕ) (Y : ℕ) (before : Lent) {r : Result ℕ Refusal} {after : Lent} → TogetherPromise aggregates table Y before r after → values_or 0 (said r) ≤ most_tallied
together-few aggregates table Y before {r = r} p =
    let lents = lent_rules (length aggregates) (length before.ranks) (length before.percentiles) (length before.counts) in
    few most_tallied aggregates table Y (length before.bands) (lents ++ cohort_rules aggregates table Y) (said r) p.says

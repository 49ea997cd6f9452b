-- A usable result of a well-formed student has a score, and is the only one of its subject and year; and an aggregate is at most 50000.
use Prim.Native.Nat.{ℕ, ◌*◌, ◌≤◌, ◌<◌}
use native.Mathlib.Omega.{arith}
use mathlib.Core.Path.{◌≡◌, refl, sym, ap, ◌∙◌}
use mathlib.Core.Bool.{true, false, not, true≢false}
use mathlib.Core.List.{List, [], ◌∷◌}
use lib.ListN.{length}
use borrow.Author.Tests.{ltb-true, eq-eqb}
use Rattle.paper.specs.Limits.{top_score, most_aggregate}
use Rattle.paper.specs.Lists.{some}
use Rattle.paper.specs.Words.{◌<?◌}
use Rattle.paper.proofs.Booleans.{both_true, true_both, first-true}
use Rattle.paper.proofs.Firsts.{some-has, some-not}
use Rattle.scores.specs.Scores.{Found, scaled, absent, too_high}
use Rattle.seek.specs.Sets.{In, positions, sum_over}
use Rattle.results.specs.Results.{Student, held, result}
use Rattle.results.specs.Scoring.{score_found, worth, score, score_at}
use Rattle.results.specs.Counting.{usable, usable_at, later, kept}
use Rattle.results.specs.declared.reading.StudentResult.{StudentResult}
use Rattle.results.proofs.Scores.{score-most}
use Rattle.sets.specs.Admissible.{Admissible}
use Rattle.sets.specs.Rules.{is_score, unscored, same_year, repeated}
use Rattle.sets.specs.Promise.{WellFormed, total_of, Chosen}
use Rattle.sets.specs.declared.BestSet.{BestSet}
use Rattle.sets.proofs.Formed.{rules_kept, usable-held}
use Rattle.sets.proofs.Rounding.{rounded-most}

-- the slot of a result holds a score of at most the greatest, and this is what the result counts
pub record Scored (table : List ℕ) (r : StudentResult) : Type 0 where
  pub value : ℕ
  pub holds : score_found table r ≡ scaled value
  pub counts : score table r ≡ value
  pub most : value ≤ top_score

not_unscored : (table : List ℕ) (r : StudentResult) → usable r ≡ true → unscored table r ≡ false → Scored table r
unfolding unscored score
not_unscored table r u e = go (score_found table r) refl (sym (first-true (usable r) (not (is_score (score_found table r))) u) ∙ e)
  where
    go : (f : Found) → score_found table r ≡ f → not (is_score f) ≡ false → Scored table r
    go (scaled v) is k = record { value = v; holds = is; counts = ap worth is; most = omega (arith, score-most table r, ap worth is) }
    go absent is k = absurd (true≢false k)
    go too_high is k = absurd (true≢false k)

module _ (s : Student) (table : List ℕ) (formed : WellFormed s table) where
  -- a usable result has a score
  pub usable-scored : (i : ℕ) → usable_at s i ≡ true → Scored table (result s i)
  unfolding usable_at
  usable-scored i u =
      let p = both_true (i <? held s) (usable (result s i)) u in
      not_unscored table (result s i) p.1 ((rules_kept s table formed).2 i (ltb-true i (held s) p.0)).1.1.0

  -- so has each member of an admissible set: none counts 0 for want of a score
  pub member_scored : (set : ℕ) → Admissible s set → (i : ℕ) → In i set → Scored table (result s i)
  unfolding kept
  member_scored set a i m = usable-scored i (both_true (usable_at s i) (not (some (held s) (later s i))) (a.each i m)).0

  -- and of one subject and year there is one, however old
  pub once_a_year : (i j : ℕ) → i < j → usable_at s i ≡ true → usable_at s j ≡ true → (result s i).subject ≡ (result s j).subject → (result s i).year ≡ (result s j).year → ⊥
  unfolding repeated
  once_a_year i j l u v e f =
      let again = some-has j (same_year s j) i l (true_both _ _ (true_both _ _ u (eq-eqb _ _ e)) (eq-eqb _ _ f)) in
      true≢false (sym (true_both _ _ v again) ∙ some-not (held s) (repeated s) (rules_kept s table formed).3 j (usable-held s j v))

sum-most : (f : ℕ → ℕ) (l : List ℕ) → ((i : ℕ) → f i ≤ top_score) → sum_over f l ≤ top_score * length l
unfolding sum_over
sum-most f [] h = omega arith
sum-most f (i ∷ l) h = omega (arith, h i, sum-most f l h)

-- the aggregate is the sum of five scores in hundredths, nearest, halves up: 0 to 50000
pub aggregate-most : (s : Student) (table : List ℕ) (v : BestSet) → Chosen s table v → v.aggregate ≤ most_aggregate
aggregate-most s table v w =
    let five = sum-most (score_at s table) (positions v.set) (λ i. score-most table (result s i)) in
    omega (arith, w.aggregate, rounded-most (total_of s table v.set) most_aggregate (omega (arith, w.admissible.five)))

-- The promise determines the answer.
use Prim.Native.Nat.{ℕ}
use mathlib.Core.Path.{◌≡◌, refl, sym, ap, ap₂, ◌∙◌}
use mathlib.Core.List.{List}
use Rattle.paper.specs.Rulings.{Outcome, accepted, refused}
use Rattle.seek.specs.InnerTest.{Top}
use Rattle.seek.proofs.Tops.{one-top}
use Rattle.results.specs.Results.{Student}
use Rattle.results.specs.Scoring.{score_at}
use Rattle.sets.specs.Admissible.{Admissible}
use Rattle.sets.specs.Promise.{ruling, total_of, aggregate_of, Chosen, Answered, RuledBy, Ruled}
use Rattle.sets.specs.declared.BestSet.{BestSet}

module _ (s : Student) (table : List ℕ) where
  -- a chosen set is the best of the admissible ones, so two are one
  chosen-top : (v : BestSet) → Chosen s table v → Top (Admissible s) (score_at s table) (total_of s table v.set) v.set
  chosen-top v a = record { right = a.admissible; sum = refl; most = a.most; first = a.first }

  pub answered-once : (o p : Outcome BestSet) → Answered s table o → Answered s table p → o ≡ p
  answered-once (accepted v) (accepted w) a b =
      let e : v.set ≡ w.set = (one-top (chosen-top v a) (chosen-top w b)).1 in
      let g : v.aggregate ≡ w.aggregate = a.aggregate ∙ ap (λ (t : ℕ). aggregate_of (total_of s table t)) e ∙ sym b.aggregate in
      ap₂ (λ (x y : ℕ). accepted (record { aggregate = x; set = y })) g e
  answered-once (accepted v) (refused f) a b = absurd (b.1 v.set a.admissible)
  answered-once (refused f) (accepted w) a b = absurd (a.1 w.set b.admissible)
  answered-once (refused f) (refused g) a b = ap refused (a.0 ∙ sym b.0)

  -- two outcomes that are permitted are one
  pub ruled-once : (o p : Outcome BestSet) → Ruled s table o → Ruled s table p → o ≡ p
  ruled-once o p = go (ruling s table)
    where
      go : (u : Outcome (Unit {0})) → RuledBy s table u o → RuledBy s table u p → o ≡ p
      go (refused f) a b = a ∙ sym b
      go (accepted u) a b = answered-once o p a b

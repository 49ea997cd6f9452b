-- The place of a refusal is no greater than the numbers of subjects and results allow.
use Prim.Native.Nat.{ℕ, ◌+◌, ◌^◌, ◌≤◌}
use native.Mathlib.Omega.{arith}
use mathlib.Core.Bool.{not}
use mathlib.Core.List.{List, [], ◌∷◌, ◌++◌}
use borrow.Author.Tests.{ltb-true}
use Rattle.paper.specs.Limits.{most_subjects}
use Rattle.paper.specs.Rulings.{Fault, place_of, Outcome, accepted, refused, ◌⇒◌, ◌at◌}
use Rattle.paper.proofs.Ruled.{Faults, IfRefused, faults_ruled, faults_join, faults_turns}
use Rattle.catalogue.specs.Catalogue.{subjects}
use Rattle.results.specs.Results.{Student, held}
use Rattle.results.specs.Counting.{shows_english}
use Rattle.sets.specs.Rules.{result_rules, turn_rules, repeat_rule, student_rules}
use Rattle.sets.specs.Promise.{ruling, total_of}
use Rattle.sets.specs.Computed.{Choice, none, one, chosen, admissible, told, decided, computed}

module _ (s : Student) (table : List ℕ) where
  -- the number of subjects, of results, and the limit of subjects
  abbrev pub Near : Fault → Type 0
  Near f = place_of f ≤ subjects s.catalogue + held s + most_subjects

  rules_near : Faults Near (student_rules s table ++ (not (shows_english s) ⇒ 7 at 0 ∷ []))
  rules_near =
      faults_join Near (student_rules s table) (not (shows_english s) ⇒ 7 at 0 ∷ [])
      (λ e. omega arith, (λ e. omega arith, (λ e. omega (arith, ltb-true), (λ e. omega arith, (λ e. omega arith, (λ e. omega arith, (λ e. omega arith, turns)))))))
      (λ e. omega arith, tt)
    where
      turns : Faults Near (turn_rules s table ++ (repeat_rule s ∷ []))
      turns =
          faults_join Near (turn_rules s table) (repeat_rule s ∷ [])
          (faults_turns Near (held s) (result_rules s table) (λ i l. (λ e. omega arith, (λ e. omega arith, (λ e. omega arith, tt)))))
          (λ e. omega (arith, ltb-true), tt)

  pub place-near : IfRefused Near (computed s table)
  place-near = go (ruling s table) (faults_ruled Near (student_rules s table ++ (not (shows_english s) ⇒ 7 at 0 ∷ [])) tt rules_near)
    where
      choice : (c : Choice) → IfRefused Near (told s table c)
      choice none = omega arith
      choice (one set) = tt

      go : (o : Outcome (Unit {0})) → IfRefused Near o → IfRefused Near (decided s table o)
      go (refused f) h = h
      go (accepted u) h = choice (chosen (admissible s) (total_of s table) (2 ^ held s))

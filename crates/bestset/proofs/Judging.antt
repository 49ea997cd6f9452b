-- Laws of the judging of a student: the first part of the rules that refuses decides.
use Prim.Native.Nat.{ℕ, ◌≤◌}
use mathlib.Core.Path.{◌≡◌, sym, ap, ◌∙◌}
use mathlib.Core.List.{List, [], ◌∷◌, ◌++◌, append_assoc}
use borrow.Author.Tests.{ltb-false}
use Rattle.paper.specs.Limits.{most_results}
use Rattle.paper.specs.Rulings.{Fault, Outcome, accepted, refused, Rule, judged}
use Rattle.paper.proofs.Ruled.{Unbroken, all_unbroken, unbroken_parts, after-unbroken, before-refused}
use Rattle.catalogue.specs.Catalogue.{catalogue_rules}
use Rattle.results.specs.Results.{Student, held}
use Rattle.sets.specs.Rules.{input_rules, turn_rules, repeat_rule, student_rules}
use Rattle.bestset.specs.InnerJudging.{start_rules, Begun}

-- what rules decide
abbrev pub judges : List Rule → Outcome (Unit {0})
judges rules = judged rules tt

module _ (s : Student) (table : List ℕ) where
  -- the rules of the catalogue, then those of the input
  pub input_left : Unbroken (catalogue_rules s.catalogue) → judges (start_rules s table) ≡ judges (input_rules s table)
  input_left whole = after-unbroken (catalogue_rules s.catalogue) (input_rules s table) tt whole

  -- these decide before the results are read, then those of each result in turn, and once they are kept 6 does
  abbrev results_rules : List Rule
  results_rules = turn_rules s table ++ (repeat_rule s ∷ [])

  grouped : start_rules s table ++ results_rules ≡ student_rules s table
  grouped = append_assoc (catalogue_rules s.catalogue) (input_rules s table) results_rules

  pub start-refused : (f : Fault) → judges (start_rules s table) ≡ refused f → judges (student_rules s table) ≡ refused f
  start-refused f e = ap judges (sym grouped) ∙ before-refused (start_rules s table) results_rules tt tt f e

  module _ (b : Begun s table) where
    turns_left : judges (student_rules s table) ≡ judges results_rules
    turns_left = ap judges (sym grouped) ∙ after-unbroken (start_rules s table) results_rules tt (all_unbroken (start_rules s table) tt tt b)

    pub turn_refused : (f : Fault) → judges (turn_rules s table) ≡ refused f → judges (student_rules s table) ≡ refused f
    turn_refused f e = turns_left ∙ before-refused (turn_rules s table) (repeat_rule s ∷ []) tt tt f e

    pub repeat_left : judges (turn_rules s table) ≡ accepted tt → judges (student_rules s table) ≡ judges (repeat_rule s ∷ [])
    repeat_left e = turns_left ∙ after-unbroken (turn_rules s table) (repeat_rule s ∷ []) tt (all_unbroken (turn_rules s table) tt tt e)

    -- what is begun has few results
    pub few-begun : held s ≤ most_results
    few-begun = ltb-false most_results (held s) (unbroken_parts (catalogue_rules s.catalogue) (input_rules s table) (all_unbroken (start_rules s table) tt tt b)).1.1.1.1.0

-- What a well-formed student's results keep: a kept result is one of those held, whose subject is in the catalogue.
use Prim.Native.Nat.{ℕ, ◌≤◌, ◌<◌}
use native.Mathlib.Decide.{ℕ_discrete}
use mathlib.Core.Path.{◌≡◌}
use mathlib.Core.Bool.{true, false, not}
use mathlib.Core.Logic.{◌⊎◌, inl, inr}
use mathlib.Core.List.{List, [], ◌∷◌, ◌++◌}
use borrow.Author.Tests.{ltb-true, ltb-false, leb-false, eqb-true, ne_eqb}
use Rattle.paper.specs.Limits.{most_results}
use Rattle.paper.specs.Lists.{some}
use Rattle.paper.specs.Words.{◌<?◌}
use Rattle.paper.proofs.Booleans.{both_true}
use Rattle.paper.proofs.Ruled.{Unbroken, all_unbroken, unbroken_parts, unbroken_turns}
use Rattle.catalogue.specs.Catalogue.{subjects, catalogue_rules}
use Rattle.catalogue.specs.Kinds.{general, external_examination}
use Rattle.catalogue.proofs.Promised.{kept-sound}
use Rattle.results.specs.Results.{Student, held, result}
use Rattle.results.specs.Counting.{usable_at, later, kept}
use Rattle.sets.specs.Admissible.{identified}
use Rattle.sets.specs.Rules.{result_rules, input_rules, turn_rules, repeated, repeat_rule, student_rules}
use Rattle.sets.specs.Promise.{WellFormed}

-- a kept result is usable, so one of the results
pub usable-held : (s : Student) (i : ℕ) → usable_at s i ≡ true → i < held s
unfolding usable_at
usable-held s i e = ltb-true i (held s) (both_true (i <? held s) _ e).0

pub kept-held : (s : Student) (i : ℕ) → kept s i ≡ true → i < held s
unfolding kept
kept-held s i e = usable-held s i (both_true (usable_at s i) (not (some (held s) (later s i))) e).0

module _ (s : Student) (table : List ℕ) (w : WellFormed s table) where
  -- a well-formed student breaks no rule of the catalogue, none of lengths, nor one of a result, and has none repeated
  pub rules_kept : Unbroken (catalogue_rules s.catalogue) × Unbroken (input_rules s table) × ((i : ℕ) → i < held s → Unbroken (result_rules s table i)) × (some (held s) (repeated s) ≡ false)
  rules_kept =
      let turns = turn_rules s table in
      let rest = turns ++ (repeat_rule s ∷ []) in
      let k = unbroken_parts (catalogue_rules s.catalogue) (input_rules s table ++ rest) (all_unbroken (student_rules s table) tt tt w) in
      let l = unbroken_parts (input_rules s table) rest k.1 in
      let m = unbroken_parts turns (repeat_rule s ∷ []) l.1 in
      (k.0, l.0, unbroken_turns (held s) (result_rules s table) m.0, m.1.0)

  -- so at most most_results results are held
  pub few-held : held s ≤ most_results
  few-held = ltb-false most_results (held s) rules_kept.1.1.1.1.0

  -- the subject of each result is in the catalogue
  pub subject-known : (i : ℕ) → i < held s → (result s i).subject < subjects s.catalogue
  subject-known i l = leb-false (subjects s.catalogue) (result s i).subject (rules_kept.2 i l).0

  -- and a kept result of kinds 1 or 3 has an identity
  pub identity_known : (i : ℕ) → kept s i ≡ true → identified s i ≡ true → 1 ≤ (result s i).entry.identity
  identity_known i k e =
      ((kept-sound s.catalogue rules_kept.0).ranged (result s i).subject (subject-known i (kept-held s i k))).has_identity (go (ℕ_discrete (result s i).entry.kind general))
    where
      go : Dec ((result s i).entry.kind ≡ general) → ((result s i).entry.kind ≡ general) ⊎ ((result s i).entry.kind ≡ external_examination)
      go (yes p) = inl p
      go (no n) = inr (eqb-true _ external_examination (rw (ne_eqb _ general n) at e))

-- Refusals 9, 13 and 12: each limit met and passed.
use mathlib.Core.Path.{◌≡◌, refl}
use mathlib.Core.List.{List, [], ◌∷◌}
use Rattle.paper.specs.Lists.{first}
use Rattle.paper.specs.Rulings.{Outcome, accepted, refused, Rule, ◌at◌, judged}
use Rattle.tally.specs.Rules.{table_rules, aggregate_rules}

-- what some of the rules say
abbrev says : List Rule → Outcome (Unit {0})
says rules = judged rules tt

abbrev clear : Outcome (Unit {0})
clear = accepted tt

-- 9, for bands at 0: Y zero; Y over 1000000
pub populations : (says (table_rules [] 0) ≡ refused (9 at 0)) × (says (table_rules [] 1) ≡ clear) × (says (table_rules [] 1000000) ≡ clear) × (says (table_rules [] 1000001) ≡ refused (9 at 0))
unfolding first
populations = (refl, refl, refl, refl)

-- 13: a participation entry over 1000000, at its index, the lowest first; the table needn't rise
pub entries : (says (table_rules (0 ∷ 1000000 ∷ []) 1) ≡ clear) × (says (table_rules (1000001 ∷ 0 ∷ []) 1) ≡ refused (13 at 0)) × (says (table_rules (0 ∷ 1000001 ∷ []) 1) ≡ refused (13 at 1))
    × (says (table_rules (0 ∷ 1000001 ∷ 4294967295 ∷ []) 1) ≡ refused (13 at 1)) × (says (table_rules (1000000 ∷ 1000000 ∷ 0 ∷ []) 1) ≡ clear)
unfolding first
entries = (refl, refl, refl, refl, refl)

-- 12: an aggregate over 50000, at its index, the lowest first
pub aggregates : (says (aggregate_rules (50000 ∷ 0 ∷ [])) ≡ clear) × (says (aggregate_rules (50001 ∷ 0 ∷ [])) ≡ refused (12 at 0)) × (says (aggregate_rules (0 ∷ 50001 ∷ [])) ≡ refused (12 at 1))
    × (says (aggregate_rules (0 ∷ 50001 ∷ 4294967295 ∷ [])) ≡ refused (12 at 1))
unfolding first
aggregates = (refl, refl, refl, refl)

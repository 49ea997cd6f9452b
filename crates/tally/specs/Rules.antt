-- What refuses Y and a participation table, and aggregates, each list in the paper's order.
use Rattle.std.specs.Prelude.{ℕ, not, List, [], ◌∷◌}
use Rattle.paper.specs.Limits.{most_aggregate, most_population, most_entry}
use Rattle.paper.specs.Lists.{first_over, some_over}
use Rattle.paper.specs.Ranges.{within}
use Rattle.paper.specs.Rulings.{Rule, ◌⇒◌, ◌at◌}

-- 9: Y zero or over 1000000; 13: an entry over 1000000
abbrev pub table_rules : List ℕ → ℕ → List Rule
table_rules table Y =
    not (within 1 most_population Y) ⇒ 9 at 0
    ∷ some_over most_entry table ⇒ 13 at first_over most_entry table
    ∷ []

-- 12: an aggregate over 50000
abbrev pub aggregate_rules : List ℕ → List Rule
aggregate_rules aggregates = some_over most_aggregate aggregates ⇒ 12 at first_over most_aggregate aggregates ∷ []

-- What the ranking promises, for every input.
use Rattle.std.specs.Prelude.{ℕ, ◌<◌, ◌≡◌, Result, List, [], ◌∷◌, length, get_or}
use Rattle.paper.specs.Limits.{most_values}
use Rattle.paper.specs.Words.{◌<?◌, ◌≠?◌}
use Rattle.paper.specs.Rulings.{Outcome, Rule, ◌⇒◌, ◌at◌, judged}
use Rattle.paper.specs.Promises.{said, Promised, Is, filled}
use Rattle.paper.specs.declared.refusal.Refusal.{Refusal}
use Rattle.ranks.specs.Ranking.{rank, percentile, ranks_of, percentiles_of}

-- the content of the two lent buffers
pub record Lent : Type 0 where
  pub ranks : List ℕ
  pub percentiles : List ℕ

abbrev pub lent : List ℕ → List ℕ → Lent
lent ranks percentiles = record { ranks = ranks; percentiles = percentiles }

-- 2: over 100000 values; 11: either buffer of another length
abbrev pub rank_rules : List ℕ → Lent → List Rule
rank_rules values before =
    most_values <? length values ⇒ 2 at most_values
    ∷ length before.ranks ≠? length values ⇒ 11 at 0
    ∷ length before.percentiles ≠? length values ⇒ 11 at 0
    ∷ []

abbrev pub ruling : List ℕ → Lent → Outcome (Unit {0})
ruling values before = judged (rank_rules values before) tt

-- for each value its rank and its percentile
pub record Ranked (values : List ℕ) (after : Lent) : Type 0 where
  pub ranks_long : length after.ranks ≡ length values
  pub percentiles_long : length after.percentiles ≡ length values
  pub ranks_are : (i : ℕ) → i < length values → get_or after.ranks i 0 ≡ rank values i
  pub percentiles_are : (i : ℕ) → i < length values → get_or after.percentiles i 0 ≡ percentile (length values) (rank values i)

-- values, the buffers before, the answer, the buffers after: accepted, they hold ranks and percentiles
abbrev pub Promise : List ℕ → Lent → Result (Unit {0}) Refusal → Lent → Type 0
Promise values before r after = Promised said (Is (ruling values before)) (λ u. Ranked values) before r after

-- the buffers that hold them, computed; the buffers of an outcome
abbrev pub ranked : List ℕ → Lent
ranked values = lent (ranks_of values) (percentiles_of values)

abbrev pub left : List ℕ → Lent → Outcome (Unit {0}) → Lent
left values = filled (λ u. ranked values)

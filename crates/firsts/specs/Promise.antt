-- What the entry promises, for every input.
use Rattle.std.specs.Prelude.{ℕ, ◌%◌, ◌≡◌, not, List, [], ◌∷◌, length, Result}
use Rattle.paper.specs.Limits.{row_bytes, most_count}
use Rattle.paper.specs.Lists.{first_over, some_over}
use Rattle.paper.specs.Ranges.{within}
use Rattle.paper.specs.Words.{◌≤?◌, ◌<?◌, ◌=?◌, ◌≠?◌}
use Rattle.paper.specs.Rulings.{Outcome, Rule, ◌⇒◌, ◌at◌, judged}
use Rattle.paper.specs.Promises.{Promised, said, Is, filled}
use Rattle.paper.specs.declared.refusal.Refusal.{Refusal}
use Rattle.catalogue.specs.Kinds.{general, short_course, vet}
use Rattle.scores.specs.Scores.{rows}
use Rattle.scores.specs.Rows.{with_row}
use Rattle.firsts.specs.Counts.{total}
use Rattle.firsts.specs.Row.{asked, row_for}

-- 3: a short course, a kind outside 1..6, a subject without a row; 11: a wrong number of counts, a table not of whole rows; 15: a count over
-- 1000000, at its index, then a total over it
abbrev pub count_rules : ℕ → ℕ → List ℕ → List ℕ → List Rule
count_rules kind subject counts table =
    kind =? short_course ⇒ 3 at 0
    ∷ not (within general vet kind) ⇒ 3 at 0
    ∷ rows table ≤? subject ⇒ 3 at 0
    ∷ length counts ≠? asked kind ⇒ 11 at 0
    ∷ length table % row_bytes ≠? 0 ⇒ 11 at 0
    ∷ some_over most_count counts ⇒ 15 at first_over most_count counts
    ∷ most_count <? total counts ⇒ 15 at 0
    ∷ []

abbrev pub ruling : ℕ → ℕ → List ℕ → List ℕ → Outcome (Unit {0})
ruling kind subject counts table = judged (count_rules kind subject counts table) tt

-- the table with the subject's row, and every other byte as it was
abbrev pub written : ℕ → ℕ → List ℕ → List ℕ → List ℕ
written kind subject counts table = with_row table subject (row_for kind counts)

-- kind, subject, counts, the table before, the answer, the table after: accepted, the subject's row is written
abbrev pub Promise : ℕ → ℕ → List ℕ → List ℕ → Result (Unit {0}) Refusal → List ℕ → Type 0
Promise kind subject counts before r after =
    Promised said (Is (ruling kind subject counts before)) (λ u table. table ≡ written kind subject counts before) before r after

-- the table of an outcome, computed
abbrev pub left : ℕ → ℕ → List ℕ → List ℕ → Outcome (Unit {0}) → List ℕ
left kind subject counts before = filled (λ u. written kind subject counts before) before

-- What the two entries promise, for every input.
use Rattle.std.specs.Prelude.{ℕ, Result, List, [], ◌∷◌, ◌++◌, length}
use Rattle.paper.specs.Limits.{band_count, most_students, most_tallied, tally_count}
use Rattle.paper.specs.Rulings.{Outcome, Rule, ◌⇒◌, ◌at◌, judged}
use Rattle.paper.specs.Words.{◌<?◌, ◌≠?◌}
use Rattle.paper.specs.Promises.{said, Promised, Is, filled}
use Rattle.paper.specs.declared.refusal.Refusal.{Refusal}
use Rattle.ranks.specs.Ranking.{ranks_of, percentiles_of}
use Rattle.ranks.specs.Promise.{Ranked, Lent as RanksLent, lent as ranksLent}
use Rattle.tally.specs.Counts.{Tallied, tally_of}
use Rattle.tally.specs.Rules.{table_rules, aggregate_rules}
use Rattle.placements.specs.Placing.{BestPlacement, remainder}
use Rattle.placements.specs.Bands.{bands_of}

-- a limit, and how many students, entries of the table and lent bands there are
-- 2: more students than the limit; 11: not 2000 entries, or not a band for each student
abbrev pub size_rules : ℕ → ℕ → ℕ → ℕ → List Rule
size_rules limit students entries bands =
    limit <? students ⇒ 2 at limit
    ∷ entries ≠? band_count ⇒ 11 at 0
    ∷ bands ≠? students ⇒ 11 at 0
    ∷ []

-- how many counts are lent. 11: not 50001
abbrev pub counts_rule : ℕ → Rule
counts_rule counts = counts ≠? tally_count ⇒ 11 at 0

-- how many students there are, and how many ranks, percentiles and counts are lent. 11: not a rank, or not a percentile, for each
-- student, or not 50001 counts
abbrev pub lent_rules : ℕ → ℕ → ℕ → ℕ → List Rule
lent_rules students ranks percentiles counts =
    ranks ≠? students ⇒ 11 at 0
    ∷ percentiles ≠? students ⇒ 11 at 0
    ∷ counts_rule counts
    ∷ []

-- 9: Y zero or over 1000000; 13: an entry over 1000000; 12: an aggregate over 50000; in this order
abbrev pub cohort_rules : List ℕ → List ℕ → ℕ → List Rule
cohort_rules aggregates table Y = table_rules table Y ++ aggregate_rules aggregates

-- by direct count up to 512 students: aggregates, table, Y, how many bands are lent
abbrev pub direct_rules : List ℕ → List ℕ → ℕ → ℕ → List Rule
direct_rules aggregates table Y bands =
    size_rules most_students (length aggregates) (length table) bands
    ++ cohort_rules aggregates table Y

-- aggregates, table, Y, the lent bands
abbrev pub ruling : List ℕ → List ℕ → ℕ → List ℕ → Outcome ℕ
ruling aggregates table Y bands = judged (direct_rules aggregates table Y (length bands)) (remainder aggregates table Y)

-- aggregates, table, Y, the bands before, the answer, the bands after: accepted with the remainder, they are the best placement
abbrev pub Promise : List ℕ → List ℕ → ℕ → List ℕ → Result ℕ Refusal → List ℕ → Type 0
Promise aggregates table Y before r after = Promised said (Is (ruling aggregates table Y before)) (λ n. BestPlacement aggregates table Y) before r after

-- ranks and bands in one call, up to 100000 students: the content of the four lent buffers
pub record Lent : Type 0 where
  pub ranks : List ℕ
  pub percentiles : List ℕ
  pub bands : List ℕ
  pub counts : List ℕ

abbrev pub lent : List ℕ → List ℕ → List ℕ → List ℕ → Lent
lent ranks percentiles bands counts = record { ranks = ranks; percentiles = percentiles; bands = bands; counts = counts }

-- those of them that the ranking writes
abbrev pub ranking : Lent → RanksLent
ranking buffers = ranksLent buffers.ranks buffers.percentiles

-- aggregates, table, Y, how many ranks, percentiles, bands and counts are lent
abbrev pub together_rules : List ℕ → List ℕ → ℕ → ℕ → ℕ → ℕ → ℕ → List Rule
together_rules aggregates table Y ranks percentiles bands counts =
    size_rules most_tallied (length aggregates) (length table) bands
    ++ (lent_rules (length aggregates) ranks percentiles counts ++ cohort_rules aggregates table Y)

abbrev pub together_ruling : List ℕ → List ℕ → ℕ → Lent → Outcome ℕ
together_ruling aggregates table Y before =
    judged (together_rules aggregates table Y (length before.ranks) (length before.percentiles) (length before.bands) (length before.counts)) (remainder aggregates table Y)

-- each student's rank and percentile, the best placement in the bands, the tally in the counts
pub record Together (aggregates table : List ℕ) (Y : ℕ) (after : Lent) : Type 0 where
  pub ranked : Ranked aggregates (ranking after)
  pub best : BestPlacement aggregates table Y after.bands
  pub tallied : Tallied aggregates after.counts

-- aggregates, table, Y, the buffers before, the answer, the buffers after
abbrev pub TogetherPromise : List ℕ → List ℕ → ℕ → Lent → Result ℕ Refusal → Lent → Type 0
TogetherPromise aggregates table Y before r after = Promised said (Is (together_ruling aggregates table Y before)) (λ n. Together aggregates table Y) before r after

-- the buffers of an outcome, computed
abbrev pub left : List ℕ → List ℕ → ℕ → List ℕ → Outcome ℕ → List ℕ
left aggregates table Y = filled (λ n. bands_of aggregates table Y)

-- the four buffers that hold what is promised
abbrev pub together : List ℕ → List ℕ → ℕ → Lent
together aggregates table Y = lent (ranks_of aggregates) (percentiles_of aggregates) (bands_of aggregates table Y) (tally_of aggregates)

abbrev pub together_left : List ℕ → List ℕ → ℕ → Lent → Outcome ℕ → Lent
together_left aggregates table Y = filled (λ n. together aggregates table Y)

-- The two calls that the one replaces: ranks over the aggregates, then bands by tally, whose promise stands here for that alone.
use Rattle.std.specs.Prelude.{ℕ, Result, List, ◌∷◌, ◌++◌, length}
use Rattle.paper.specs.Limits.{most_tallied}
use Rattle.paper.specs.Rulings.{Outcome, accepted, refused, Rule, judged}
use Rattle.paper.specs.Promises.{said, Promised, Is}
use Rattle.paper.specs.declared.refusal.Refusal.{Refusal}
use Rattle.ranks.specs.Promise.{ruling as ranksRuling}
use Rattle.tally.specs.Counts.{Tallied}
use Rattle.placements.specs.Placing.{BestPlacement, remainder}
use Rattle.placements.specs.Promise.{size_rules, counts_rule, cohort_rules, Lent, ranking}

-- by tally up to 100000 students, with a lent buffer of 50001 counts: the content of both buffers
pub record TallyLent : Type 0 where
  pub bands : List ℕ
  pub counts : List ℕ

abbrev pub tally_lent : List ℕ → List ℕ → TallyLent
tally_lent bands counts = record { bands = bands; counts = counts }

-- aggregates, table, Y, how many bands and how many counts are lent
abbrev pub tally_rules : List ℕ → List ℕ → ℕ → ℕ → ℕ → List Rule
tally_rules aggregates table Y bands counts =
    size_rules most_tallied (length aggregates) (length table) bands
    ++ (counts_rule counts ∷ cohort_rules aggregates table Y)

abbrev pub tally_ruling : List ℕ → List ℕ → ℕ → TallyLent → Outcome ℕ
tally_ruling aggregates table Y before = judged (tally_rules aggregates table Y (length before.bands) (length before.counts)) (remainder aggregates table Y)

-- the best placement in the bands, the tally in the counts
pub record Placed (aggregates table : List ℕ) (Y : ℕ) (after : TallyLent) : Type 0 where
  pub best : BestPlacement aggregates table Y after.bands
  pub tallied : Tallied aggregates after.counts

abbrev pub TallyPromise : List ℕ → List ℕ → ℕ → TallyLent → Result ℕ Refusal → TallyLent → Type 0
TallyPromise aggregates table Y before r after = Promised said (Is (tally_ruling aggregates table Y before)) (λ n. Placed aggregates table Y) before r after

-- those of the one call's four buffers that the second of the two writes
abbrev pub placing : Lent → TallyLent
placing buffers = tally_lent buffers.bands buffers.counts

-- the first refusal of two calls, the second made where the first accepts
abbrev pub then_ruled : Outcome (Unit {0}) → Outcome ℕ → Outcome ℕ
then_ruled (accepted u) next = next
then_ruled (refused fault) next = refused fault

abbrev pub two_ruling : List ℕ → List ℕ → ℕ → Lent → Outcome ℕ
two_ruling aggregates table Y before = then_ruled (ranksRuling aggregates (ranking before)) (tally_ruling aggregates table Y (placing before))

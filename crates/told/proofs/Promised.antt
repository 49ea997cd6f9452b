-- What C gets is determined, and so is every lent buffer; and something is permitted.
use Prim.Native.Nat.{ℕ}
use mathlib.Core.Path.{◌≡◌, refl}
use mathlib.Core.List.{List}
use Rattle.paper.proofs.Promised.{called_once, called_met}
use Rattle.results.specs.Results.{Student}
use Rattle.paper.specs.Promises.{answer}
use Rattle.sets.specs.Computed.{computed}
use Rattle.sets.proofs.Meeting.{determined as best-once, meets as best-met}
use Rattle.curve.specs.Promise as curveSays
use Rattle.curve.proofs.Promised as curve
use Rattle.ranks.specs.Promise as ranksSay
use Rattle.ranks.proofs.Promised as ranks
use Rattle.firsts.specs.Promise as scoresSay
use Rattle.firsts.proofs.Promised as scores
use Rattle.placements.specs.Promise as bandsSay
use Rattle.placements.proofs.Promised as bands
use Rattle.printed.specs.Promise as reportSays
use Rattle.printed.proofs.Promised as report
use Rattle.told.specs.Best.{form as bestForm, BestCalled}
use Rattle.told.specs.Participation.{form as curveForm, CurveCalled}
use Rattle.told.specs.Telling.{form}
use Rattle.told.specs.Ranking.{RankCalled}
use Rattle.told.specs.Scoring.{ScoresCalled}
use Rattle.told.specs.Placing.{form as placedForm, DirectCalled, TogetherCalled}
use Rattle.told.specs.Text.{form as textForm, ReportCalled}
use Rattle.told.specs.declared.telling.Told.{Told}
use Rattle.told.specs.declared.best.Best.{Best}
use Rattle.told.specs.declared.participation.Curve.{Curve}
use Rattle.told.specs.declared.placing.Placed.{Placed}
use Rattle.told.specs.declared.text.Text.{Text}

-- for each entry: two permitted results are equal, and the computed one is permitted
module _ (student : Student) (table : List ℕ) where
  pub best-determined : {s t : Best} → BestCalled student table s → BestCalled student table t → s ≡ t
  best-determined p q = (called_once (λ a b x y. (best-once student table x y, refl)) p q).0

  pub best-meets : BestCalled student table (bestForm (answer (computed student table)))
  best-meets = called_met bestForm {r = answer (computed student table)} (best-met student table)

module _ (figures before : List ℕ) where
  pub curve_determined : {s t : Curve} {b c : List ℕ} → CurveCalled figures before s b → CurveCalled figures before t c → (s ≡ t) × (b ≡ c)
  curve_determined = called_once (λ q r. curve.determined figures before)

  pub curve_meets : let o = curveSays.ruling figures before in CurveCalled figures before (curveForm (answer o)) (curveSays.left before o)
  curve_meets = called_met curveForm (curve.meets figures before)

module _ (values : List ℕ) (before : ranksSay.Lent) where
  pub rank-determined : {s t : Told} {b c : ranksSay.Lent} → RankCalled values before s b → RankCalled values before t c → (s ≡ t) × (b ≡ c)
  rank-determined = called_once (λ q r. ranks.determined values before)

  pub rank-meets : let o = ranksSay.ruling values before in RankCalled values before (form (answer o)) (ranksSay.left values before o)
  rank-meets = called_met form (ranks.meets values before)

module _ (kind subject : ℕ) (counts before : List ℕ) where
  pub scores-determined : {s t : Told} {b c : List ℕ} → ScoresCalled kind subject counts before s b → ScoresCalled kind subject counts before t c → (s ≡ t) × (b ≡ c)
  scores-determined = called_once (λ q r. scores.determined kind subject counts before)

  pub scores-meets : let o = scoresSay.ruling kind subject counts before in
      ScoresCalled kind subject counts before (form (answer o)) (scoresSay.left kind subject counts before o)
  scores-meets = called_met form (scores.meets kind subject counts before)

module _ (aggregates table : List ℕ) (Y : ℕ) (before : List ℕ) where
  pub direct_determined : {s t : Placed} {b c : List ℕ} → DirectCalled aggregates table Y before s b → DirectCalled aggregates table Y before t c → (s ≡ t) × (b ≡ c)
  direct_determined = called_once (λ q r. bands.determined aggregates table Y before)

  pub direct_meets : let o = bandsSay.ruling aggregates table Y before in DirectCalled aggregates table Y before (placedForm (answer o)) (bandsSay.left aggregates table Y before o)
  direct_meets = called_met placedForm (bands.meets aggregates table Y before)

module _ (aggregates table : List ℕ) (Y : ℕ) (before : bandsSay.Lent) where
  pub together-determined : {s t : Placed} {b c : bandsSay.Lent} → TogetherCalled aggregates table Y before s b → TogetherCalled aggregates table Y before t c → (s ≡ t) × (b ≡ c)
  together-determined = called_once (λ q r. bands.together-determined aggregates table Y before)

  pub together-meets : let o = bandsSay.together_ruling aggregates table Y before in
      TogetherCalled aggregates table Y before (placedForm (answer o)) (bandsSay.together_left aggregates table Y before o)
  together-meets = called_met placedForm (bands.together-meets aggregates table Y before)

module _ (file before : List ℕ) where
  pub report_determined : {s t : Text} {b c : List ℕ} → ReportCalled file before s b → ReportCalled file before t c → (s ≡ t) × (b ≡ c)
  report_determined = called_once (λ q r. report.determined file before)

  pub report_meets : let o = reportSays.ruling file before in ReportCalled file before (textForm (answer o)) (reportSays.left file before o)
  report_meets = called_met textForm (report.meets file before)

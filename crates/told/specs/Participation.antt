-- What C gets of the population and the curve.
use Rattle.std.specs.Prelude.{ℕ, List, Result}
use Rattle.paper.specs.Rulings.{Outcome, values_or}
use Rattle.paper.specs.Promises.{said, Called}
use Rattle.paper.specs.declared.refusal.Refusal.{Refusal}
use Rattle.curve.specs.Promise.{Promise}
use Rattle.curve.specs.declared.Participation.{Participation}
use Rattle.told.specs.Telling.{told}
use Rattle.told.specs.declared.participation.Curve.{Curve}

abbrev pub no_values : Participation
no_values = record { population = 0; rate = 0 }

-- what is told; the values, 0 where it is refused
abbrev pub flat_curve : Outcome Participation → Curve
flat_curve o =
    let given = values_or no_values o in
    record { told = told o; population = given.population; rate = given.rate }

abbrev pub form : Result Participation Refusal → Curve
form r = flat_curve (said r)

-- the figures, the table before, the struct, the table after: those of an answer that the curve's promise permits
abbrev pub CurveCalled : List ℕ → List ℕ → Curve → List ℕ → Type 0
CurveCalled figures before s after = Called (Promise figures before) form s after

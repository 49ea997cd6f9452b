-- What C gets of the best set: the outcome in one struct.
use Rattle.std.specs.Prelude.{ℕ, List, Result}
use Rattle.paper.specs.Rulings.{Outcome, values_or}
use Rattle.paper.specs.Promises.{said, Called}
use Rattle.results.specs.Results.{Student}
use Rattle.paper.specs.declared.refusal.Refusal.{Refusal}
use Rattle.sets.specs.Promise.{Promise}
use Rattle.sets.specs.declared.BestSet.{BestSet}
use Rattle.told.specs.Telling.{told}
use Rattle.told.specs.declared.best.Best.{Best}

abbrev pub no_values : BestSet
no_values = record { aggregate = 0; set = 0 }

-- what is told; the values, 0 where it is refused
abbrev pub flat_best : Outcome BestSet → Best
flat_best o =
    let given = values_or no_values o in
    record { told = told o; aggregate = given.aggregate; set = given.set }

abbrev pub form : Result BestSet Refusal → Best
form r = flat_best (said r)

-- the student, the score table, the struct: that of an answer that the best set's promise permits
abbrev pub BestCalled : Student → List ℕ → Best → Type 0
BestCalled student table s = Called (λ (r : Result BestSet Refusal) (none : Unit {0}). Promise student table r) form s tt

-- What C is told of an outcome, whatever was asked, and how C reads it.
use Rattle.std.specs.Prelude.{◌≤◌, ◌≡◌, Result}
use Rattle.paper.specs.Rulings.{Fault, number_of, place_of, Outcome, accepted, refused}
use Rattle.paper.specs.Promises.{said}
use Rattle.paper.specs.declared.refusal.Refusal.{Refusal}
use Rattle.told.specs.declared.telling.Told.{Told}

-- accepted: refusal and place are 0
abbrev pub nothing_wrong : Told
nothing_wrong = record { refusal = 0; place = 0 }

-- refused: the number and the place
abbrev pub wrong : Fault → Told
wrong f = record { refusal = number_of f; place = place_of f }

abbrev pub told : {A : Type 0} → Outcome A → Told
told (accepted v) = nothing_wrong
told (refused f) = wrong f

-- where there are no values, that is all that C gets
abbrev pub form : Result (Unit {0}) Refusal → Told
form r = told (said r)

-- how C reads what it is told and the values. Accepted: nothing is wrong, and the values are given
pub record Given {A : Type 0} (v : A) (t : Told) (values : A) : Type 0 where
  pub tells : t ≡ nothing_wrong
  pub given : values ≡ v

-- refused: the number and the place are told, the number is not 0, and every value is that of none
pub record Denied {A : Type 0} (none : A) (f : Fault) (t : Told) (values : A) : Type 0 where
  pub tells : t ≡ wrong f
  pub some : 1 ≤ t.refusal
  pub nothing : values ≡ none

-- the values of none, an outcome, what is told of it, the values
abbrev pub Reads : {A : Type 0} → A → Outcome A → Told → A → Type 0
Reads none (accepted v) t values = Given v t values
Reads none (refused f) t values = Denied none f t values

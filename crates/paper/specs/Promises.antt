-- What every entry promises: its answer says what the ruling permits, and the lent buffers are left as the answer says.
use Rattle.std.specs.Prelude.{◌≡◌, Result, Ok, Err}
use Rattle.paper.specs.Rulings.{Outcome, accepted, refused}
use Rattle.paper.specs.Refusals.{fault, refusal}
use Rattle.paper.specs.declared.refusal.Refusal.{Refusal}

-- what an answer says: its values, or the paper's number and place of its refusal
abbrev pub said : {A : Type 0} → Result A Refusal → Outcome A
said (Ok values) = accepted values
said (Err x) = refused (fault x)

-- accepted: the buffers after are as is owed for the values; refused: they are as they were
abbrev pub Left : {A B : Type 0} → (A → B → Type 0) → B → Outcome A → B → Type 0
Left Owed before (accepted values) after = Owed values after
Left Owed before (refused fault) after = after ≡ before

-- what an answer says; what the ruling permits to be said; what is owed of the buffers for accepted values; the buffers before; the answer;
-- the buffers after
pub record Promised {R A B : Type 0} (said : R → Outcome A) (Ruled : Outcome A → Type 0) (Owed : A → B → Type 0) (before : B) (answer : R) (after : B) : Type 0 where
  pub says : Ruled (said answer)
  pub leaves : Left Owed before (said answer) after

-- a ruling that is computed permits itself alone
abbrev pub Is : {A : Type 0} → Outcome A → Outcome A → Type 0
Is ruling o = o ≡ ruling

-- an entry that is lent no buffer
abbrev pub Saying : {R A : Type 0} → (R → Outcome A) → (Outcome A → Type 0) → R → Type 0
Saying said Ruled answer = Promised said Ruled (λ values none. Unit {0}) (tt {0}) answer tt

-- the answer to an outcome, by how values are accepted and a refusal is made
abbrev pub answered : {R A : Type 0} → (A → R) → (Refusal → R) → Outcome A → R
answered accept refuse (accepted values) = accept values
answered accept refuse (refused fault) = refuse (refusal fault)

-- the answer that says an outcome
abbrev pub answer : {A : Type 0} → Outcome A → Result A Refusal
answer = answered Ok Err

-- the buffers of an outcome, by how values fill them, and as they were
abbrev pub filled : {A B : Type 0} → (A → B) → B → Outcome A → B
filled fill before (accepted values) = fill values
filled fill before (refused fault) = before

-- what is said tells the answer
pub record Tells {R A : Type 0} (said : R → Outcome A) (accept : A → R) (refuse : Refusal → R) : Type 0 where
  pub accepting : (values : A) → said (accept values) ≡ accepted values
  pub refusing : (x : Refusal) → said (refuse x) ≡ refused (fault x)
  pub told : (answer : R) → answered accept refuse (said answer) ≡ answer

-- the ruling permits what is computed, and nothing else
pub record Permits {A : Type 0} (Ruled : Outcome A → Type 0) (ruling : Outcome A) : Type 0 where
  pub permitted : Ruled ruling
  pub alone : (o : Outcome A) → Ruled o → o ≡ ruling

-- what is owed for the ruling's values is met by filling, and by nothing else
pub record Owes {A B : Type 0} (Owed : A → B → Type 0) (ruling : Outcome A) (fill : A → B) : Type 0 where
  pub met : (values : A) → ruling ≡ accepted values → Owed values (fill values)
  pub only : (values : A) (after : B) → Owed values after → after ≡ fill values

-- an entry called for another form of its answer, such as C's struct: the form of an answer that its promise permits
pub record Called {R S B : Type 0} (Permitted : R → B → Type 0) (form : R → S) (given : S) (after : B) : Type 0 where
  pub answer : R
  pub promised : Permitted answer after
  pub formed : given ≡ form answer

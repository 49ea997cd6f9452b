-- What C gets of bands.
use Rattle.std.specs.Prelude.{ℕ, List, Result}
use Rattle.paper.specs.Rulings.{Outcome, values_or}
use Rattle.paper.specs.Promises.{said, Called}
use Rattle.paper.specs.declared.refusal.Refusal.{Refusal}
use Rattle.placements.specs.Promise.{Promise, Lent, TogetherPromise}
use Rattle.told.specs.Telling.{told}
use Rattle.told.specs.declared.placing.Placed.{Placed}

-- what is told; the remainder, 0 where it is refused
abbrev pub flat_placed : Outcome ℕ → Placed
flat_placed o = record { told = told o; remainder = values_or 0 o }

abbrev pub form : Result ℕ Refusal → Placed
form r = flat_placed (said r)

-- aggregates, table, Y, the bands before, the struct, the bands after: those of an answer that the promise permits
abbrev pub DirectCalled : List ℕ → List ℕ → ℕ → List ℕ → Placed → List ℕ → Type 0
DirectCalled aggregates table Y before s after = Called (Promise aggregates table Y before) form s after

-- in one call with the ranks the same of all four buffers
abbrev pub TogetherCalled : List ℕ → List ℕ → ℕ → Lent → Placed → Lent → Type 0
TogetherCalled aggregates table Y before s after = Called (TogetherPromise aggregates table Y before) form s after

-- What the test of a catalogue promises.
use Rattle.std.specs.Prelude.{ℕ, List, Result}
use Rattle.paper.specs.Rulings.{Outcome, judged}
use Rattle.paper.specs.Promises.{said, Is, Saying}
use Rattle.paper.specs.declared.refusal.Refusal.{Refusal}
use Rattle.catalogue.specs.Catalogue.{catalogue_rules}

-- the ruling on a catalogue: 1, 2, 3
abbrev pub ruling : List ℕ → Outcome (Unit {0})
ruling catalogue = judged (catalogue_rules catalogue) tt

abbrev pub Promise : List ℕ → Result (Unit {0}) Refusal → Type 0
Promise catalogue r = Saying said (Is (ruling catalogue)) r

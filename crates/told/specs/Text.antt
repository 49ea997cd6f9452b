-- What C gets of a file's listing.
use Rattle.std.specs.Prelude.{ℕ, List, Result}
use Rattle.paper.specs.Rulings.{Outcome, values_or}
use Rattle.paper.specs.Promises.{said, Called}
use Rattle.paper.specs.declared.refusal.Refusal.{Refusal}
use Rattle.printed.specs.Promise.{Promise}
use Rattle.told.specs.Telling.{told}
use Rattle.told.specs.declared.text.Text.{Text}

-- what is told; the length, 0 where it is refused
abbrev pub flat_text : Outcome ℕ → Text
flat_text o = record { told = told o; length = values_or 0 o }

abbrev pub form : Result ℕ Refusal → Text
form r = flat_text (said r)

-- the file, the text before, the struct, the text after: those of an answer that the report's promise permits
abbrev pub ReportCalled : List ℕ → List ℕ → Text → List ℕ → Type 0
ReportCalled file before s after = Called (Promise file before) form s after

-- What the reader promises, for every file.
use Rattle.std.specs.Prelude.{ℕ, ◌≡◌, List, length, Result}
use Rattle.paper.specs.Parts.{laid}
use Rattle.paper.specs.Rulings.{Outcome, mapped, values_or}
use Rattle.paper.specs.Promises.{Promised, Is, said, filled}
use Rattle.paper.specs.declared.refusal.Refusal.{Refusal}
use Rattle.catalogue.specs.Catalogue.{subjects}
use Rattle.curve.specs.Population.{Y, rate}
use Rattle.held.specs.Held.{Held, nothing, ids_of, counts_of, results_of}
use Rattle.held.specs.Reading.{reading}
use Rattle.held.specs.declared.Summary.{Summary}

-- the year; how many subjects and students there are; Y and r
abbrev pub summary_of : Held → Summary
summary_of held = record {
  year = held.year;
  subjects = subjects held.catalogue;
  students = length held.students;
  population = Y held.figures;
  rate = rate held.figures;
}

-- the content of the six lent buffers
pub record Lent : Type 0 where
  pub catalogue : List ℕ
  pub table : List ℕ
  pub figures : List ℕ
  pub ids : List ℕ
  pub counts : List ℕ
  pub results : List ℕ

abbrev pub lent : List ℕ → List ℕ → List ℕ → List ℕ → List ℕ → List ℕ → Lent
lent a b c d e f = record { catalogue = a; table = b; figures = c; ids = d; counts = e; results = f }

-- what is held, laid into the buffers from their start on, the rest as it was
abbrev pub written : Held → Lent → Lent
written held before = record {
  catalogue = laid before.catalogue 0 held.catalogue;
  table = laid before.table 0 held.table;
  figures = laid before.figures 0 held.figures;
  ids = laid before.ids 0 (ids_of held.students);
  counts = laid before.counts 0 (counts_of held.students);
  results = laid before.results 0 (results_of held.students);
}

-- the ruling: what is held has these values
abbrev pub ruling : List ℕ → Outcome Summary
ruling file = mapped summary_of (reading file)

-- what a file that is accepted holds, in the buffers
abbrev pub holding : List ℕ → Lent → Lent
holding file before = written (values_or nothing (reading file)) before

-- file, the buffers before, the answer, the buffers after: accepted, they hold what is held
abbrev pub Promise : List ℕ → Lent → Result Summary Refusal → Lent → Type 0
Promise file before r after = Promised said (Is (ruling file)) (λ v lent. lent ≡ holding file before) before r after

-- the buffers of an outcome, computed
abbrev pub left : List ℕ → Lent → Outcome Summary → Lent
left file before = filled (λ v. holding file before) before

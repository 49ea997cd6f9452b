-- What C gets of first scores.
use Rattle.std.specs.Prelude.{ℕ, List}
use Rattle.paper.specs.Promises.{Called}
use Rattle.firsts.specs.Promise.{Promise}
use Rattle.told.specs.Telling.{form}
use Rattle.told.specs.declared.telling.Told.{Told}

-- kind, subject, counts, the table before, the struct, the table after: those of an answer that the promise of first scores permits
abbrev pub ScoresCalled : ℕ → ℕ → List ℕ → List ℕ → Told → List ℕ → Type 0
ScoresCalled kind subject counts before s after = Called (Promise kind subject counts before) form s after

-- What C gets of ranks and percentiles.
use Rattle.std.specs.Prelude.{ℕ, List}
use Rattle.paper.specs.Promises.{Called}
use Rattle.ranks.specs.Promise.{Lent, Promise}
use Rattle.told.specs.Telling.{form}
use Rattle.told.specs.declared.telling.Told.{Told}

-- the values, both buffers before, the struct, both buffers after: those of an answer that the ranks' promise permits
abbrev pub RankCalled : List ℕ → Lent → Told → Lent → Type 0
RankCalled values before s after = Called (Promise values before) form s after

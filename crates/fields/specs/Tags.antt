-- The tags by their names.
use Rattle.std.specs.Prelude.{ℕ, ◌≡◌, false, Result, MatchResult}
use Rattle.paper.specs.Ranges.{within}
use Rattle.fields.specs.declared.tags.Tag.{Tag}
use Rattle.fields.specs.declared.tags.Tag.TheVariants.{Year, Subject, Score, Figures, Student, Result as OfResult}
use Rattle.fields.specs.declared.tags.NoTag.{NoTag}

-- the byte of a tag
abbrev pub byte_of : Tag → ℕ
byte_of Year = 1
byte_of Subject = 2
byte_of Score = 3
byte_of Figures = 4
byte_of Student = 5
byte_of OfResult = 6

-- byte, result: the tag that has the byte; or the byte, where no tag has it
abbrev pub Names : ℕ → Result Tag NoTag → Type 0
Names n r = MatchResult r (λ tag. byte_of tag ≡ n) (λ none. (none.0 ≡ n) × (within 1 6 n ≡ false))

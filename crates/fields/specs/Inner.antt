-- What the functions answer and ask.
use Rattle.std.specs.Prelude.{ℕ, ◌+◌, ◌<◌, ◌≡◌, List, length, Option, Some, None}
use Rattle.paper.specs.Limits.{most_subjects, most_students, most_bytes}
use Rattle.paper.specs.Words.{◌<?◌, when◌then◌else◌}
use Rattle.paper.specs.Bytes.{byte, word}
use Rattle.fields.specs.Fields.{past}
use Rattle.fields.specs.declared.order.Far.{Far}
use Rattle.fields.specs.declared.heads.Head.{Head}

-- the tag and the length of the field at offset p, where it is whole
unfoldable pub head_at : List ℕ → ℕ → Option Head
head_at file p = when length file <? past file p then None else Some (record { tag = byte file p; length = word file (p + 1) })

-- one more of the tag can be counted
pub record Countable (far : Far) (tag : ℕ) : Type 0 where
  pub subject : tag ≡ 2 → far.subjects < most_subjects
  pub student : tag ≡ 5 → far.students < most_students
  pub result : tag ≡ 6 → far.latest < most_bytes

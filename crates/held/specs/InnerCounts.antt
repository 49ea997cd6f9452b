-- What is counted of a file while it is read.
use Rattle.std.specs.Prelude.{◌*◌, ◌≡◌, length}
use Rattle.paper.specs.Limits.{entry_bytes, row_bytes}
use Rattle.fields.specs.declared.order.Far.{Far}
use Rattle.held.specs.Held.{Held, latest}

-- how far a file is read counts what is held
pub record Counts (far : Far) (held : Held) : Type 0 where
  pub fives : length held.catalogue ≡ far.subjects * entry_bytes
  pub rows : length held.table ≡ far.subjects * row_bytes
  pub number : far.students ≡ length held.students
  pub newest : far.latest ≡ latest held.students

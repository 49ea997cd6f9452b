-- How a file is read: size first, then its fields in order.
use Rattle.std.specs.Prelude.{ℕ, List, [], ◌∷◌, ◌++◌, length}
use Rattle.paper.specs.Limits.{most_bytes, most_results}
use Rattle.paper.specs.Words.{◌<?◌, when◌then◌else◌}
use Rattle.paper.specs.Rulings.{Outcome, accepted, refused, Rule, ◌at◌, judged}
use Rattle.fields.specs.Fields.{Field, Piece, whole, cut, pieces_of}
use Rattle.fields.specs.Order.{start, further, order_rules, end_rules}
use Rattle.fields.specs.declared.order.Far.{Far}
use Rattle.held.specs.Held.{Held, nothing}
use Rattle.held.specs.Taking.{taken}
use Rattle.held.specs.Judging.{value_rules}

-- the reader: how far the file is read, and what is held
pub record Reader : Type 0 where
  pub far : Far
  pub held : Held

-- before the first field, and with a field more
abbrev pub opened : Reader
opened = record { far = start; held = nothing }

abbrev pub passed : Reader → Field → Reader
passed so f = record { far = further so.far f.tag; held = taken so.held f }

-- a field is judged for 1, then 2, by how far the file is read; then for its values, by what is held
abbrev pub field_rules : Reader → Field → ℕ → List Rule
field_rules so f p = order_rules most_results so.far f p ++ value_rules so.held f p

-- it is taken where it breaks no rule; after a refusal nothing more is read
abbrev pub after : Outcome Reader → Piece → Outcome Reader
after (refused x) piece = refused x
after (accepted so) (cut p) = refused (1 at p)
after (accepted so) (whole p f) = judged (field_rules so f p) (passed so f)

abbrev pub read_all : List Piece → Outcome Reader → Outcome Reader
read_all [] o = o
read_all (piece ∷ ps) o = read_all ps (after o piece)

-- then the end is judged, at the file's length
abbrev pub ended : ℕ → Outcome Reader → Outcome Held
ended end (refused x) = refused x
ended end (accepted so) = judged (end_rules so.far end) so.held

-- the fields of a file in order
unfoldable pub body : List ℕ → Outcome Held
body file = ended (length file) (read_all (pieces_of file) (accepted opened))

-- 2: a file that is too long; then the fields
unfoldable pub reading : List ℕ → Outcome Held
reading file = when most_bytes <? length file then refused (2 at most_bytes) else body file

-- A catalogue: an entry is five bytes, which are its kind, strand, level and identity (two bytes).
use Rattle.std.specs.Prelude.{ℕ, ◌+◌, ◌*◌, ◌%◌, Bool, not, ◌&&◌, List, [], ◌∷◌, length}
use Rattle.paper.specs.Limits.{entry_bytes, most_subjects}
use Rattle.paper.specs.Lists.{first, some}
use Rattle.paper.specs.Words.{◌≤?◌, ◌<?◌, ◌=?◌, ◌≠?◌, when◌then◌else◌}
use Rattle.paper.specs.Ranges.{within}
use Rattle.paper.specs.Bytes.{byte, word, records}
use Rattle.paper.specs.Rulings.{Rule, ◌⇒◌, ◌at◌}
use Rattle.catalogue.specs.Kinds.{general, short_course, vet, mathematics, certificate_i, advanced_diploma, is_vet, is_identified}
use Rattle.catalogue.specs.declared.entries.Entry.{Entry}

-- how many whole entries there are
abbrev pub subjects : List ℕ → ℕ
subjects catalogue = records entry_bytes catalogue

-- entry i
abbrev pub entry_at : List ℕ → ℕ → Entry
entry_at catalogue i = record {
  kind = byte catalogue (entry_bytes * i);
  strand = byte catalogue (entry_bytes * i + 1);
  level = byte catalogue (entry_bytes * i + 2);
  identity = word catalogue (entry_bytes * i + 3);
}

-- kind: from General to VET
abbrev pub kind_fits : Entry → Bool
kind_fits entry = within general vet entry.kind

-- strand: none, English or Mathematics; a short course and VET have none
abbrev pub strand_fits : Entry → Bool
strand_fits entry = when short_course ≤? entry.kind then entry.strand =? 0 else entry.strand ≤? mathematics

-- level: for VET from Certificate I to the Advanced Diploma; otherwise 0
abbrev pub level_fits : Entry → Bool
level_fits entry = when is_vet entry.kind then within certificate_i advanced_diploma entry.level else entry.level =? 0

-- identity: 1 or more for the kinds that have one; otherwise 0
abbrev pub identity_fits : Entry → Bool
identity_fits entry = when is_identified entry.kind then 1 ≤? entry.identity else entry.identity =? 0

-- an entry is outside its ranges
unfoldable pub outside : Entry → Bool
outside entry = not (kind_fits entry && (strand_fits entry && (level_fits entry && identity_fits entry)))

-- entry i is outside its ranges
abbrev pub outside_at : List ℕ → ℕ → Bool
outside_at catalogue i = outside (entry_at catalogue i)

-- the first entry outside its ranges, the number of subjects where none is; and whether some is
abbrev pub first_outside : List ℕ → ℕ
first_outside catalogue = first (subjects catalogue) (outside_at catalogue)

abbrev pub some_outside : List ℕ → Bool
some_outside catalogue = some (subjects catalogue) (outside_at catalogue)

-- 1: bytes not whole, at the number of whole entries; 2: too many subjects, at the limit; 3: an entry outside its ranges, at its index
abbrev pub catalogue_rules : List ℕ → List Rule
catalogue_rules catalogue =
    length catalogue % entry_bytes ≠? 0 ⇒ 1 at subjects catalogue
    ∷ most_subjects <? subjects catalogue ⇒ 2 at most_subjects
    ∷ some_outside catalogue ⇒ 3 at first_outside catalogue
    ∷ []

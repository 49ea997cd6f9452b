-- What the tests of a catalogue mean.
use Rattle.std.specs.Prelude.{ℕ, ◌*◌, ◌<◌, ◌≤◌, ◌≡◌, ◌⊎◌, List, length}
use Rattle.paper.specs.Limits.{entry_bytes, most_subjects}
use Rattle.catalogue.specs.Kinds.{general, external_examination, short_course, vet, mathematics, certificate_i, advanced_diploma}
use Rattle.catalogue.specs.Catalogue.{subjects, entry_at}
use Rattle.catalogue.specs.declared.entries.Entry.{Entry}

-- the kinds that have no strand, and those that have an identity
abbrev pub NoStrand : ℕ → Type 0
NoStrand kind = (kind ≡ short_course) ⊎ (kind ≡ vet)

abbrev pub Identified : ℕ → Type 0
Identified kind = (kind ≡ general) ⊎ (kind ≡ external_examination)

-- an entry within its ranges
pub record Ranged (entry : Entry) : Type 0 where
  pub least_kind : general ≤ entry.kind
  pub most_kind : entry.kind ≤ vet
  pub most_strand : entry.strand ≤ mathematics
  pub no_strand : NoStrand entry.kind → entry.strand ≡ 0
  pub vet_level : entry.kind ≡ vet → (certificate_i ≤ entry.level) × (entry.level ≤ advanced_diploma)
  pub no_level : (entry.kind ≡ vet → ⊥) → entry.level ≡ 0
  pub has_identity : Identified entry.kind → 1 ≤ entry.identity
  pub no_identity : (Identified entry.kind → ⊥) → entry.identity ≡ 0

-- a catalogue that breaks no rule
pub record Sound (catalogue : List ℕ) : Type 0 where
  pub whole : length catalogue ≡ entry_bytes * subjects catalogue
  pub few : subjects catalogue ≤ most_subjects
  pub ranged : (i : ℕ) → i < subjects catalogue → Ranged (entry_at catalogue i)

-- An entry is read from where its record begins.
use Prim.Native.Nat.{ℕ, ◌+◌, ◌*◌}
use native.Mathlib.Omega.{arith}
use mathlib.Core.Path.{◌≡◌, sym, ap, ◌∙◌}
use mathlib.Core.List.{List}
use Rattle.paper.specs.Limits.{entry_bytes}
use Rattle.paper.specs.Bytes.{byte, word, record_at}
use Rattle.paper.proofs.Written.{byte-record, word-record}
use Rattle.catalogue.specs.Catalogue.{entry_at}
use Rattle.catalogue.specs.declared.entries.Entry.{Entry}

-- the entry whose bytes stand from a place on
abbrev pub entry_from : List ℕ → ℕ → Entry
entry_from catalogue at = record { kind = byte catalogue at; strand = byte catalogue (at + 1); level = byte catalogue (at + 2); identity = word catalogue (at + 3) }

pub entry_read : (catalogue : List ℕ) (i : ℕ) → entry_from catalogue (record_at catalogue entry_bytes i) ≡ entry_at catalogue i
entry_read catalogue i =
    let at : ℕ = record_at catalogue entry_bytes i in
    let a : at + 0 ≡ at = omega arith in
    let b : entry_bytes * i + 0 ≡ entry_bytes * i = omega arith in
    let kind = ap (byte catalogue) (sym a) ∙ byte-record catalogue entry_bytes i 0 ∙ ap (byte catalogue) b in
    let strand = byte-record catalogue entry_bytes i 1 in
    let level = byte-record catalogue entry_bytes i 2 in
    let identity = word-record catalogue entry_bytes i 3 in
    λ j. record { kind = kind j; strand = strand j; level = level j; identity = identity j }

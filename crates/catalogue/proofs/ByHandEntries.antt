-- A catalogue entry, computed: its fields, and the range of each, over all that a byte can hold.
use Prim.Native.Nat.{ℕ, zero, suc}
use mathlib.Core.Path.{◌≡◌, refl}
use mathlib.Core.Bool.{Bool, true, false, not}
use mathlib.Core.List.{List, [], ◌∷◌}
use Rattle.paper.specs.Bytes.{word}
use Rattle.catalogue.specs.Kinds.{is_general, is_applied, is_vet, is_identified}
use Rattle.catalogue.specs.Catalogue.{entry_at, outside}
use Rattle.catalogue.specs.declared.entries.Entry.{Entry}

-- a number in front, if it is of the sort
abbrev pub with_it : Bool → ℕ → List ℕ → List ℕ
with_it true k l = k ∷ l
with_it false k l = l

-- the numbers that have f, of n from k on
abbrev pub those : ℕ → ℕ → (ℕ → Bool) → List ℕ
those k zero f = []
those k (suc n) f = with_it (f k) k (those (suc k) n f)

-- the bytes that have f
abbrev pub bytes : (ℕ → Bool) → List ℕ
bytes f = those 0 256 f

-- kind, strand, level, identity: an entry, and whether it is within its ranges
abbrev pub entry_of : ℕ → ℕ → ℕ → ℕ → Entry
entry_of kind strand level identity = record { kind = kind; strand = strand; level = level; identity = identity }

abbrev pub ranged : ℕ → ℕ → ℕ → ℕ → Bool
ranged kind strand level identity = not (outside (entry_of kind strand level identity))

-- 5 bytes: kind, strand, level, identity (two bytes), big-endian; of two entries the second
abbrev pub two : List ℕ
two = 1 ∷ 2 ∷ 3 ∷ 4 ∷ 5 ∷ 6 ∷ 7 ∷ 8 ∷ 9 ∷ 10 ∷ []

pub fields : (entry_at two 0 ≡ entry_of 1 2 3 1029) × (entry_at two 1 ≡ entry_of 6 7 8 2314)
unfolding word
fields = (refl, refl)

-- kinds 1 to 6; 1 and 3 have an identity, 6 has a level, the others have neither, and none has both
pub kinds : (bytes (λ k. ranged k 0 0 1) ≡ 1 ∷ 3 ∷ []) × (bytes (λ k. ranged k 0 0 0) ≡ 2 ∷ 4 ∷ 5 ∷ []) × (bytes (λ k. ranged k 0 1 0) ≡ 6 ∷ []) × (bytes (λ k. ranged k 0 1 1) ≡ [])
unfolding outside
kinds = (refl, refl, refl, refl)

-- kinds 1 to 3 count as General; 4 is Applied, 6 VET; 1 and 3 have an identity
pub sorts : (bytes is_general ≡ 1 ∷ 2 ∷ 3 ∷ []) × (bytes is_applied ≡ 4 ∷ []) × (bytes is_vet ≡ 6 ∷ []) × (bytes is_identified ≡ 1 ∷ 3 ∷ [])
sorts = (refl, refl, refl, refl)

-- strand 0, 1 or 2; kinds 5 and 6 have 0
pub strands : (bytes (λ s. ranged 1 s 0 1) ≡ 0 ∷ 1 ∷ 2 ∷ []) × (bytes (λ s. ranged 2 s 0 0) ≡ 0 ∷ 1 ∷ 2 ∷ []) × (bytes (λ s. ranged 3 s 0 1) ≡ 0 ∷ 1 ∷ 2 ∷ [])
    × (bytes (λ s. ranged 4 s 0 0) ≡ 0 ∷ 1 ∷ 2 ∷ []) × (bytes (λ s. ranged 5 s 0 0) ≡ 0 ∷ []) × (bytes (λ s. ranged 6 s 1 0) ≡ 0 ∷ [])
unfolding outside
strands = (refl, refl, refl, refl, refl, refl)

-- level: for VET 1 to 6; otherwise 0
pub levels : (bytes (λ l. ranged 6 0 l 0) ≡ 1 ∷ 2 ∷ 3 ∷ 4 ∷ 5 ∷ 6 ∷ []) × (bytes (λ l. ranged 1 0 l 1) ≡ 0 ∷ []) × (bytes (λ l. ranged 2 0 l 0) ≡ 0 ∷ []) × (bytes (λ l. ranged 3 0 l 1) ≡ 0 ∷ [])
    × (bytes (λ l. ranged 4 0 l 0) ≡ 0 ∷ []) × (bytes (λ l. ranged 5 0 l 0) ≡ 0 ∷ [])
unfolding outside
levels = (refl, refl, refl, refl, refl, refl)

-- identity: of 0, 1, 255, 256 and 65535, those that an entry of a kind and level may have
abbrev pub identified : ℕ → ℕ → List ℕ
identified kind level =
    with_it (ranged kind 0 level 0) 0
    (with_it (ranged kind 0 level 1) 1
    (with_it (ranged kind 0 level 255) 255 (with_it (ranged kind 0 level 256) 256 (with_it (ranged kind 0 level 65535) 65535 []))))

-- 1 or more for kinds 1 and 3, otherwise 0
pub identities : (identified 1 0 ≡ 1 ∷ 255 ∷ 256 ∷ 65535 ∷ []) × (identified 2 0 ≡ 0 ∷ []) × (identified 3 0 ≡ 1 ∷ 255 ∷ 256 ∷ 65535 ∷ []) × (identified 4 0 ≡ 0 ∷ [])
    × (identified 5 0 ≡ 0 ∷ []) × (identified 6 1 ≡ 0 ∷ [])
unfolding outside
identities = (refl, refl, refl, refl, refl, refl)

-- The definitions on small examples, computed.
use Prim.Native.Nat.{ℕ, zero, suc}
use mathlib.Core.Path.{◌≡◌, refl}
use mathlib.Core.Bool.{Bool, true, false}
use mathlib.Core.List.{List, [], ◌∷◌, ◌++◌}
use Rattle.paper.specs.Limits.{most_subjects}
use Rattle.paper.specs.Lists.{first}
use Rattle.paper.specs.Bytes.{word}
use Rattle.paper.specs.Rulings.{accepted, refused, ◌at◌}
use Rattle.catalogue.specs.Catalogue.{entry_at, outside}
use Rattle.catalogue.specs.Promise.{ruling}

-- an entry's bytes, and whether it is outside its ranges
abbrev pub entry : ℕ → ℕ → ℕ → ℕ → List ℕ
entry kind strand level identity = kind ∷ strand ∷ level ∷ 0 ∷ identity ∷ []

abbrev pub out : ℕ → ℕ → ℕ → ℕ → Bool
out kind strand level identity = outside (entry_at (entry kind strand level identity) 0)

-- one of each kind
pub within : (out 1 1 0 7 ≡ false) × (out 2 2 0 0 ≡ false) × (out 3 0 0 7 ≡ false) × (out 4 2 0 0 ≡ false) × (out 5 0 0 0 ≡ false) × (out 6 0 1 0 ≡ false) × (out 6 0 6 0 ≡ false)
unfolding outside word
within = (refl, refl, refl, refl, refl, refl, refl)

-- kinds 0 and 7; General with no identity, extension with one; VET of level 0 and 7, General of level 1; a short course and VET with a strand; strand 3
pub without : (out 0 0 0 0 ≡ true) × (out 7 0 0 0 ≡ true) × (out 1 1 0 0 ≡ true) × (out 3 0 0 0 ≡ true) × (out 2 0 0 1 ≡ true) × (out 6 0 0 0 ≡ true) × (out 6 0 7 0 ≡ true)
    × (out 1 0 1 7 ≡ true) × (out 5 1 0 0 ≡ true) × (out 6 2 1 0 ≡ true) × (out 1 3 0 7 ≡ true)
unfolding outside word
without = (refl, refl, refl, refl, refl, refl, refl, refl, refl, refl, refl)

-- n entries of Biology
abbrev pub biology : ℕ → List ℕ
biology zero = []
biology (suc n) = entry 1 0 0 7 ++ biology n

abbrev pub bad : List ℕ
bad = entry 0 0 0 0

-- none; 64; 65 of which the first is outside its ranges; 65, not whole; one outside, not whole; the second of three outside
pub catalogues : (ruling [] ≡ accepted tt) × (ruling (biology most_subjects) ≡ accepted tt) × (ruling (bad ++ biology most_subjects) ≡ refused (2 at most_subjects))
    × (ruling (bad ++ (biology most_subjects ++ (1 ∷ []))) ≡ refused (1 at suc most_subjects)) × (ruling (bad ++ (biology 1 ++ (1 ∷ 0 ∷ []))) ≡ refused (1 at 2))
    × (ruling (biology 1 ++ (bad ++ biology 1)) ≡ refused (3 at 1))
unfolding outside word first
catalogues = (refl, refl, refl, refl, refl, refl)

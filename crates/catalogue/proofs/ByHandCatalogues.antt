-- Rulings on catalogues, computed.
use mathlib.Core.Path.{◌≡◌, refl}
use mathlib.Core.List.{[], ◌∷◌, ◌++◌}
use Rattle.paper.specs.Lists.{first}
use Rattle.paper.specs.Bytes.{word}
use Rattle.paper.specs.Rulings.{accepted, refused, ◌at◌}
use Rattle.catalogue.specs.Catalogue.{outside}
use Rattle.catalogue.specs.Promise.{ruling}
use Rattle.catalogue.proofs.ByHand.{entry, biology, bad}

-- catalogue bytes not whole: one to four over, at the number of whole entries
pub whole : (ruling (1 ∷ []) ≡ refused (1 at 0)) × (ruling (1 ∷ 0 ∷ 0 ∷ 0 ∷ []) ≡ refused (1 at 0)) × (ruling (entry 1 0 0 7) ≡ accepted tt) × (ruling (biology 1 ++ (1 ∷ [])) ≡ refused (1 at 1))
    × (ruling (biology 1 ++ (1 ∷ 0 ∷ [])) ≡ refused (1 at 1)) × (ruling (biology 1 ++ (1 ∷ 0 ∷ 0 ∷ [])) ≡ refused (1 at 1))
unfolding outside word first
whole = (refl, refl, refl, refl, refl, refl)

-- over 64 subjects: 65, and 65 of which the last is outside its ranges; 64 and a byte are not whole
pub many : (ruling (biology 65) ≡ refused (2 at 64)) × (ruling (biology 64 ++ bad) ≡ refused (2 at 64)) × (ruling (biology 64 ++ (1 ∷ [])) ≡ refused (1 at 64))
unfolding outside word first
many = (refl, refl, refl)

-- an entry outside its ranges: the first, the last of 64, and of two the lower
pub lowest : (ruling (bad ++ biology 1) ≡ refused (3 at 0)) × (ruling (biology 63 ++ bad) ≡ refused (3 at 63)) × (ruling (biology 2 ++ (bad ++ (biology 1 ++ bad))) ≡ refused (3 at 2))
unfolding outside word first
lowest = (refl, refl, refl)

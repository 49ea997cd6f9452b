-- The promise determines the answer, a computed answer meets it, and what is accepted is sound.
use Prim.Native.Nat.{ℕ, ◌%◌, ◌<◌}
use native.Mathlib.Omega.{arith}
use mathlib.Core.Path.{◌≡◌, refl, ap}
use mathlib.Core.Bool.{false, not}
use mathlib.Core.List.{List}
use lib.ListN.{length}
use lib.Dec.{eqb}
use Rattle.std.proofs.Common.{Result}
use borrow.Author.Tests.{eqb-true, ltb-false, not-false, eq-eqb, le-ltb}
use Rattle.paper.specs.Limits.{entry_bytes, most_subjects}
use Rattle.paper.specs.Rulings.{accepted}
use Rattle.paper.specs.Promises.{answer}
use Rattle.paper.specs.declared.refusal.Refusal.{Refusal}
use Rattle.paper.proofs.Firsts.{some-not, none_has}
use Rattle.paper.proofs.Promised as every
use Rattle.paper.proofs.Promised.{rules_is, owes_none}
use Rattle.paper.proofs.Ruled.{Unbroken, all_unbroken, unbroken_all, Tabled, tabled}
use Rattle.paper.proofs.Said.{tells}
use Rattle.catalogue.specs.Catalogue.{subjects, entry_at, outside, outside_at, catalogue_rules}
use Rattle.catalogue.specs.Meaning.{Sound}
use Rattle.catalogue.specs.Promise.{ruling, Promise}
use Rattle.catalogue.proofs.Ranges.{ranged, not_outside}

-- two permitted answers are equal
pub determined : (catalogue : List ℕ) {r s : Result (Unit {0}) Refusal} → Promise catalogue r → Promise catalogue s → r ≡ s
determined catalogue p q = (every.determined tells rules_is owes_none p q).0

-- each rule gives a number and place of the paper's table
pub catalogue-tabled : (catalogue : List ℕ) → Tabled (catalogue_rules catalogue)
catalogue-tabled catalogue = (λ e. refl, (λ e. refl, (λ e. refl, tt)))

-- the computed answer is permitted
pub meets : (catalogue : List ℕ) → Promise catalogue (answer (ruling catalogue))
meets catalogue = every.meets tells rules_is owes_none (tabled (catalogue_rules catalogue) tt (catalogue-tabled catalogue))

-- and no other
pub only : (catalogue : List ℕ) {r : Result (Unit {0}) Refusal} → Promise catalogue r → r ≡ answer (ruling catalogue)
only catalogue p = (every.only tells rules_is owes_none p).0

-- a catalogue that breaks no rule has whole bytes, no more subjects than the limit and no entry outside its ranges
pub none-outside : (catalogue : List ℕ) → Unbroken (catalogue_rules catalogue) → (i : ℕ) → i < subjects catalogue → outside (entry_at catalogue i) ≡ false
none-outside catalogue k = some-not (subjects catalogue) (outside_at catalogue) k.1.1.0

pub kept-sound : (catalogue : List ℕ) → Unbroken (catalogue_rules catalogue) → Sound catalogue
kept-sound catalogue k =
    record {
      whole = omega (arith, eqb-true (length catalogue % entry_bytes) 0 (not-false (eqb (length catalogue % entry_bytes) 0) k.0));
      few = ltb-false most_subjects (subjects catalogue) k.1.0;
      ranged = λ i l. ranged (entry_at catalogue i) (none-outside catalogue k i l);
    }

pub sound-kept : (catalogue : List ℕ) → Sound catalogue → Unbroken (catalogue_rules catalogue)
sound-kept catalogue s =
    let w : length catalogue % entry_bytes ≡ 0 = omega arith in
    (ap not (eq-eqb _ _ w), (le-ltb _ _ s.few, (none_has (subjects catalogue) (outside_at catalogue) (λ i l. not_outside (entry_at catalogue i) (s.ranged i l)), tt)))

pub accepted-sound : (catalogue : List ℕ) → ruling catalogue ≡ accepted tt → Sound catalogue
accepted-sound catalogue e = kept-sound catalogue (all_unbroken (catalogue_rules catalogue) tt tt e)

pub sound-accepted : (catalogue : List ℕ) → Sound catalogue → ruling catalogue ≡ accepted tt
sound-accepted catalogue s = unbroken_all (catalogue_rules catalogue) tt (sound-kept catalogue s)

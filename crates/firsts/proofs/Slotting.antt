-- Each result has a slot of its own, and with the score of one more result written a row holds one more.
use Prim.Native.Nat.{ℕ, zero, suc, ◌+◌, ◌-◌, ◌*◌, ◌<◌, ◌≤◌}
use native.Mathlib.Omega.{arith}
use native.Mathlib.Decide.{dec_lt, ℕ_discrete}
use mathlib.Core.Path.{◌≡◌, refl, sym, ap, ◌∙◌}
use mathlib.Core.Bool.{Bool, true, false}
use mathlib.Core.List.{List}
use lib.ListN.{get_or}
use borrow.Author.Tests.{eqb-true, eq-eqb, ne_eqb, lt-ltb, le-ltb}
use Rattle.paper.specs.Limits.{slots, missing}
use Rattle.paper.specs.Letters.{letter_a, letter_e}
use Rattle.paper.specs.Lists.{pick, first}
use Rattle.paper.specs.Words.{◌=?◌}
use Rattle.paper.proofs.Firsts.{first-within, first-before, first-has, first-here, first-none}
use Rattle.paper.proofs.Ranging.{within-true}
use Rattle.catalogue.specs.Kinds.{general, external_examination, applied, is_general, is_applied}
use Rattle.scores.specs.Scores.{letter_slot, slot_of}
use Rattle.scores.specs.Rows.{row_of}
use Rattle.scores.proofs.Slotted.{with, row_same}
use Rattle.firsts.specs.Counts.{score}
use Rattle.firsts.specs.Row.{applied_slots, asked, slot_for}
use Rattle.firsts.specs.InnerAmong.{score_among}

-- the slots of E to A
pub applied-slot : (j : ℕ) → j < 5 → get_or applied_slots j 0 ≡ 20 * j + 10
applied-slot zero h = refl
applied-slot (suc zero) h = refl
applied-slot (suc (suc zero)) h = refl
applied-slot (suc (suc (suc zero))) h = refl
applied-slot (suc (suc (suc (suc zero)))) h = refl
applied-slot (suc (suc (suc (suc (suc j))))) h = absurd (omega arith)

-- and the letter of each
applied-letter : (j : ℕ) → j < 5 → letter_slot (letter_e - j) ≡ get_or applied_slots j 0
applied-letter zero h = refl
applied-letter (suc zero) h = refl
applied-letter (suc (suc zero)) h = refl
applied-letter (suc (suc (suc zero))) h = refl
applied-letter (suc (suc (suc (suc zero)))) h = refl
applied-letter (suc (suc (suc (suc (suc j))))) h = absurd (omega arith)

-- the slot where a result is looked up: that of a number, and that of a letter
pub number-slot : (kind letter number : ℕ) → is_general kind ≡ true → 1 ≤ number → slot_of kind letter number ≡ slot_for kind (number - 1)
unfolding slot_of
number-slot kind letter number g h =
    let e : number ≡ number - 1 + 1 = omega arith in
    let r = within-true general external_examination kind g in
    simp (g, ne_eqb kind applied (λ x. omega arith)) e

pub letter_slot_lem : (kind letter number : ℕ) → is_applied kind ≡ true → letter_a ≤ letter → letter ≤ letter_e → slot_of kind letter number ≡ slot_for kind (letter_e - letter)
unfolding slot_of
letter_slot_lem kind letter number a h g =
    let e : letter_e - (letter_e - letter) ≡ letter = omega arith in
    let k : kind ≡ applied = eqb-true kind applied a in
    rw k (ap letter_slot (sym e) ∙ applied-letter (letter_e - letter) (omega arith))

-- Applied asks for 5 counts, every other kind for at most 100
pub applied-asked : (kind : ℕ) → is_applied kind ≡ true → asked kind ≡ 5
applied-asked kind e = ap asked (eqb-true kind applied e)

pub asked-most : (kind : ℕ) → asked kind ≤ slots
asked-most kind = go (is_general kind) (is_applied kind)
  where
    go : (a b : Bool) → pick a slots (pick b 5 0) ≤ slots
    go true b = omega arith
    go false true = omega arith
    go false false = omega arith

-- a slot is 20·j + 10 for Applied, and j + 1 for the others
slot_by : (kind j : ℕ) (b : Bool) → is_applied kind ≡ b → j < asked kind → slot_for kind j ≡ pick b (20 * j + 10) (j + 1)
slot_by kind j true e h = simp e (applied-slot j (omega (arith, applied-asked kind e)))
slot_by kind j false e h = simp e refl

module _ (kind : ℕ) where
  pub slot_within : (j : ℕ) → j < asked kind → (1 ≤ slot_for kind j) × (slot_for kind j ≤ slots)
  slot_within j h = go (is_applied kind) refl
    where
      go : (b : Bool) → is_applied kind ≡ b → (1 ≤ slot_for kind j) × (slot_for kind j ≤ slots)
      go true e = let s = slot_by kind j true e h in (omega arith, omega (arith, applied-asked kind e))
      go false e = let s = slot_by kind j false e h in (omega arith, omega (arith, asked-most kind))

  -- two results have two slots
  pub slot_once : (i j : ℕ) → i < asked kind → j < asked kind → slot_for kind i ≡ slot_for kind j → i ≡ j
  slot_once i j g h e = go (is_applied kind) refl
    where
      go : (b : Bool) → is_applied kind ≡ b → i ≡ j
      go true a = omega (arith, e, slot_by kind i true a g, slot_by kind j true a h)
      go false a = omega (arith, e, slot_by kind i false a g, slot_by kind j false a h)

  module _ (counts : List ℕ) where
    unfoldable goes : ℕ → ℕ → Bool
    goes slot i = slot_for kind i =? slot

    -- what a slot holds, where result j is the first that goes there, and where none does
    in_here : (n slot j : ℕ) → j < n → first n (goes slot) ≡ j → score_among kind counts n slot ≡ score counts j
    unfolding score_among goes
    in_here n slot j l e = rw e (ap (λ (b : Bool). pick b (score counts j) missing) (lt-ltb j n l))

    in_no : (n slot : ℕ) → first n (goes slot) ≡ n → score_among kind counts n slot ≡ missing
    unfolding score_among goes
    in_no n slot e = rw e (ap (λ (b : Bool). pick b (score counts n) missing) (le-ltb n n (omega arith)))

    pub in_none : (slot : ℕ) → score_among kind counts 0 slot ≡ missing
    in_none slot = in_no 0 slot (omega (arith, first-within 0 (goes slot)))

    -- result j stands in its slot
    pub in_own : (n j : ℕ) → n ≤ asked kind → j < n → score_among kind counts n (slot_for kind j) ≡ score counts j
    unfolding goes
    in_own n j g l =
        in_here n (slot_for kind j) j l
        (first-here n (goes (slot_for kind j)) j l others own)
      where
        others : (i : ℕ) → i < j → goes (slot_for kind j) i ≡ false
        others i h = ne_eqb (slot_for kind i) (slot_for kind j) (λ e. omega (arith, slot_once i j (omega arith) (omega arith) e))

        own : goes (slot_for kind j) j ≡ true
        own = eq-eqb (slot_for kind j) (slot_for kind j) refl

    -- one result more
    in_next : (n : ℕ) → n < asked kind → (slot : ℕ) → with (score_among kind counts n) (slot_for kind n) (score counts n) slot ≡ score_among kind counts (n + 1) slot
    unfolding goes
    in_next n h slot = go (ℕ_discrete slot (slot_for kind n))
      where
        more : (slot ≡ slot_for kind n → ⊥) → goes slot n ≡ false
        more x = ne_eqb (slot_for kind n) slot (λ e. x (sym e))

        other : (slot ≡ slot_for kind n → ⊥) → Dec (first n (goes slot) < n) → score_among kind counts n slot ≡ score_among kind counts (n + 1) slot
        other x (yes l) =
            let j = first n (goes slot) in
            in_here n slot j l refl
            ∙ sym (in_here (n + 1) slot j (omega arith) (first-here (n + 1) (goes slot) j (omega arith) (first-before n (goes slot)) (first-has n (goes slot) l)))
        other x (no l) =
            in_no n slot (omega (arith, first-within n (goes slot)))
            ∙ sym (in_no (n + 1) slot (first-none (n + 1) (goes slot) (λ i g. none x i (dec_lt i n) g)))
          where
            none : (slot ≡ slot_for kind n → ⊥) → (i : ℕ) → Dec (i < n) → i < n + 1 → goes slot i ≡ false
            none x i (yes a) g = first-before n (goes slot) i (omega arith)
            none x i (no a) g = let e : i ≡ n = omega arith in ap (goes slot) e ∙ more x

        go : Dec (slot ≡ slot_for kind n) → with (score_among kind counts n) (slot_for kind n) (score counts n) slot ≡ score_among kind counts (n + 1) slot
        go (yes e) =
            simp (eq-eqb slot (slot_for kind n) e) refl
            ∙ sym (in_own (n + 1) n (omega arith) (omega arith))
            ∙ ap (score_among kind counts (n + 1)) (sym e)
        go (no x) = simp (ne_eqb slot (slot_for kind n) x) refl ∙ other x (dec_lt (first n (goes slot)) n)

    pub row_next : (n : ℕ) → n < asked kind → row_of (with (score_among kind counts n) (slot_for kind n) (score counts n)) ≡ row_of (score_among kind counts (n + 1))
    row_next n h = row_same _ _ (λ slot a b. in_next n h slot)

-- What a student adds to the lines.
use Prim.Native.Nat.{ℕ, suc, ◌+◌, ◌≤◌, ◌<◌}
use native.Mathlib.Omega.{arith}
use native.Mathlib.Numerals.{add-one}
use mathlib.Core.Path.{◌≡◌, refl, sym, ap, ◌∙◌}
use mathlib.Core.Bool.{Bool, true, false}
use mathlib.Core.List.{List, [], ◌∷◌, ◌++◌, append_assoc, append-nil}
use lib.ListN.{length, get_or, drop}
use lib.Seq.{drop-cons, drop-drop}
use lib.Dec.{eqb}
use borrow.Author.Tests.{eq-eqb, ne_eqb}
use Rattle.std.proofs.lemmas.List.{nil_from_length}
use Rattle.paper.specs.Lists.{pick}
use Rattle.listing.specs.Lines.{refused_line}
use Rattle.printed.specs.Report.{Columns, eligible_line}
use Rattle.printed.proofs.Columns.{at}
use Rattle.lines.specs.Inner.{line_noted, after_noted, lines_noted, eligible_noted}

-- no fewer are eligible with more students
after-least : (j number : ℕ) → j ≤ after_noted j number
after-least j number = go (eqb number 0)
  where
    go : (b : Bool) → j ≤ pick b (suc j) j
    go true = omega arith
    go false = omega arith

-- an eligible student is one more and has the line of the columns, a refused one is none and has the refusal's
pub eligible-adds : (c : Columns) (j id number place : ℕ) → number ≡ 0 → (line_noted c j id number place ≡ eligible_line c j id) × (after_noted j number ≡ j + 1)
eligible-adds c j id number place e =
    (ap (λ (b : Bool). pick b (eligible_line c j id) (refused_line id number place)) (eq-eqb number 0 e), ap (λ (b : Bool). pick b (suc j) j) (eq-eqb number 0 e) ∙ sym (add-one j))

pub refused-adds : (c : Columns) (j id number place : ℕ) → (number ≡ 0 → ⊥) → (line_noted c j id number place ≡ refused_line id number place) × (after_noted j number ≡ j)
refused-adds c j id number place e =
    (ap (λ (b : Bool). pick b (eligible_line c j id) (refused_line id number place)) (ne_eqb number 0 e), ap (λ (b : Bool). pick b (suc j) j) (ne_eqb number 0 e))

pub eligible-least : (j : ℕ) (numbers : List ℕ) → j ≤ eligible_noted j numbers
unfolding eligible_noted
eligible-least j [] = omega arith
eligible-least j (number ∷ numbers) = omega (arith, after-least j number, eligible-least (after_noted j number) numbers)

-- all lines are those so far and those of the students who are left, before whom j are eligible
pub record Far (c : Columns) (all sofar : List ℕ) (j : ℕ) (ids numbers places : List ℕ) : Type 0 where
  pub lines : all ≡ sofar ++ lines_noted c j ids numbers places

pub far_none : (c : Columns) (ids numbers places : List ℕ) → Far c (lines_noted c 0 ids numbers places) [] 0 ids numbers places
far_none c ids numbers places = record { lines = refl }

-- what follows of those listed so far
module _ {c : Columns} {all sofar : List ℕ} {j : ℕ} {ids numbers places : List ℕ} (f : Far c all sofar j ids numbers places) where
  pub far-all : length numbers ≡ 0 → all ≡ sofar
  unfolding lines_noted
  far-all h = f.lines ∙ ap (λ (ns : List ℕ). sofar ++ lines_noted c j ids ns places) (nil_from_length numbers h) ∙ append-nil sofar

  pub far-more : (id number place k : ℕ) (line later more rest : List ℕ) → ids ≡ id ∷ later → numbers ≡ number ∷ more → places ≡ place ∷ rest
      → line ≡ line_noted c j id number place → k ≡ after_noted j number → Far c all (sofar ++ line) k later more rest
  unfolding lines_noted
  far-more id number place k line later more rest i n p x u =
      let next : lines_noted c j ids numbers places ≡ line ++ lines_noted c k later more rest = rw (i, n, p, x, u) refl in
      record { lines = f.lines ∙ ap (λ (t : List ℕ). sofar ++ t) next ∙ sym (append_assoc sofar line (lines_noted c k later more rest)) }

-- of lists, beside what the code needs now

-- an eligible student is one more, a refused one is none
pub one_more : (j number k : ℕ) → number ≡ 0 → k ≡ j + 1 → k ≡ after_noted j number
one_more j number k e h = h ∙ add-one j ∙ sym (ap (λ (b : Bool). pick b (suc j) j) (eq-eqb number 0 e))

pub none_more : (j number k : ℕ) → (number ≡ 0 → ⊥) → k ≡ j → k ≡ after_noted j number
none_more j number k e h = h ∙ sym (ap (λ (b : Bool). pick b (suc j) j) (ne_eqb number 0 e))

module _ (c : Columns) (ids numbers places : List ℕ) where
  -- the lines from the i-th student on
  abbrev lines_from : ℕ → ℕ → List ℕ
  lines_from i j = lines_noted c j (drop i ids) (drop i numbers) (drop i places)

  numbers_next : (i : ℕ) → i < length numbers → drop i numbers ≡ get_or numbers i 0 ∷ drop (i + 1) numbers
  numbers_next i l = drop-cons numbers i 0 l ∙ ap (λ (k : ℕ). get_or numbers i 0 ∷ drop k numbers) (sym (add-one i))

  lines_next : (i j : ℕ) → i < length numbers → lines_from i j ≡ line_noted c j (get_or ids i 0) (get_or numbers i 0) (get_or places i 0) ++ lines_from (i + 1) (after_noted j (get_or numbers i 0))
  unfolding lines_noted
  lines_next i j l =
      ap (λ (ns : List ℕ). lines_noted c j (drop i ids) ns (drop i places)) (numbers_next i l)
      ∙ rw (at i ids, at i places, drop-drop 1 i ids, drop-drop 1 i places) refl

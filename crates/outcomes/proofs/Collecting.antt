-- What a student adds to what is noted: to the aggregates, the numbers and the places.
use Prim.Native.Nat.{ℕ, suc, ◌+◌, ◌-◌, ◌*◌, ◌≤◌, ◌<◌}
use native.Mathlib.Omega.{arith}
use mathlib.Core.Path.{◌≡◌, refl, sym, ap, ◌∙◌}
use mathlib.Core.List.{List, [], ◌∷◌, ◌++◌, append_assoc, append-nil}
use lib.ListN.{length, get_or, take, set, length-set}
use lib.Seq.{take-suc-set, take-length}
use Rattle.paper.specs.Limits.{result_bytes}
use Rattle.paper.specs.Rulings.{Outcome, accepted, refused, number_in, place_in}
use Rattle.sets.specs.declared.BestSet.{BestSet}
use Rattle.held.specs.Held.{Enrolled}
use Rattle.printed.specs.Report.{outcome, with_aggregate, aggregates_of, after_one}
use Rattle.outcomes.specs.Inner.{students_in, outcome_at, numbers_of, places_of, Noted, joined}
use Rattle.outcomes.proofs.Standing.{from, student_at, next, none}

-- a list to which the outcome of each student adds
record Made (outcomes : Enrolled → Outcome BestSet) (of : List Enrolled → List ℕ) (add : Outcome BestSet → List ℕ → List ℕ) : Type 0 where
  of_none : of [] ≡ []
  of-more : (s : Enrolled) (ss : List Enrolled) → of (s ∷ ss) ≡ add (outcomes s) (of ss)

aggregates-made : (outcomes : Enrolled → Outcome BestSet) → Made outcomes (aggregates_of outcomes) with_aggregate
unfolding aggregates_of
aggregates-made outcomes = record { of_none = refl; of-more = λ s ss. refl }

numbers_made : (outcomes : Enrolled → Outcome BestSet) → Made outcomes (numbers_of outcomes) (λ o rest. number_in o ∷ rest)
numbers_made outcomes = record { of_none = refl; of-more = λ s ss. refl }

places-made : (outcomes : Enrolled → Outcome BestSet) → Made outcomes (places_of outcomes) (λ o rest. place_in o ∷ rest)
places-made outcomes = record { of_none = refl; of-more = λ s ss. refl }

-- a number put after the first m of a buffer
put_next : (buffer : List ℕ) (m v : ℕ) (w : List ℕ) → m < length buffer → take m buffer ++ (v ∷ w) ≡ take (suc m) (set buffer m v) ++ w
put_next buffer m v w h = sym (append_assoc (take m buffer) (v ∷ []) w) ∙ ap (λ (t : List ℕ). t ++ w) (sym (take-suc-set buffer m v h))

join_next : (o : Outcome BestSet) (buffer : List ℕ) (m : ℕ) (w : List ℕ) → m < length buffer → take m buffer ++ with_aggregate o w ≡ take (after_one m o) (joined o buffer m) ++ w
join_next (refused f) buffer m w h = refl
join_next (accepted v) buffer m w h = put_next buffer m v.aggregate w h

pub after-most : (m : ℕ) (o : Outcome BestSet) → after_one m o ≤ m + 1
after-most m (accepted v) = omega arith
after-most m (refused f) = omega arith

pub joined-long : (o : Outcome BestSet) (buffer : List ℕ) (j : ℕ) → length (joined o buffer j) ≡ length buffer
joined-long (accepted v) buffer j = length-set buffer j v.aggregate
joined-long (refused f) buffer j = refl

-- of n students in buffers i are done, their results end at a place
module _ (catalogue table : List ℕ) (year n : ℕ) (counts results : List ℕ) where
  abbrev out : Enrolled → Outcome BestSet
  out = outcome catalogue table year

  -- the outcome of the next
  abbrev pub Told : ℕ → ℕ → Outcome BestSet → Type 0
  Told i place o = o ≡ outcome_at catalogue table year results place (get_or counts i 0)

  told_is : (ids : List ℕ) (i place : ℕ) (o : Outcome BestSet) → Told i place o → out (student_at ids counts results i place) ≡ o
  unfolding outcome
  told_is ids i place o e = sym e

  -- a list of all is m of a buffer and that of the rest
  abbrev Partly : (List Enrolled → List ℕ) → ℕ → ℕ → List ℕ → ℕ → Type 0
  Partly of i place buffer m = (ids : List ℕ) → of (students_in n ids counts results) ≡ take m buffer ++ of (from n ids counts results i place)

  partly_none : (of : List Enrolled → List ℕ) (buffer : List ℕ) → Partly of 0 0 buffer 0
  partly_none of buffer ids = let e : n ≡ n - 0 = omega arith in ap (λ (k : ℕ). of (students_in k ids counts results)) e

  partly_all : {of : List Enrolled → List ℕ} {add : Outcome BestSet → List ℕ → List ℕ} → Made out of add
      → (i place : ℕ) (buffer : List ℕ) (m : ℕ) → n ≤ i → Partly of i place buffer m → (ids : List ℕ) → take m buffer ≡ of (students_in n ids counts results)
  partly_all {of = of} made i place buffer m h g ids =
      sym (g ids ∙ ap (λ (t : List ℕ). take m buffer ++ t) (ap of (none n ids counts results i place h) ∙ made.of_none) ∙ append-nil (take m buffer))

  partly_more : {of : List Enrolled → List ℕ} {add : Outcome BestSet → List ℕ → List ℕ} → Made out of add
      → (i place : ℕ) (buffer : List ℕ) (m : ℕ) (o : Outcome BestSet) (b : List ℕ) (k : ℕ) → i < n → Told i place o
      → ((w : List ℕ) → take m buffer ++ add o w ≡ take k b ++ w) → Partly of i place buffer m → Partly of (i + 1) (place + result_bytes * get_or counts i 0) b k
  partly_more {of = of} {add = add} made i place buffer m o b k l e step g ids =
      let others = from n ids counts results (i + 1) (place + result_bytes * get_or counts i 0) in
      let rest : of (from n ids counts results i place) ≡ add o (of others) =
      ap of (next n ids counts results i place l) ∙ made.of-more (student_at ids counts results i place) others ∙ ap (λ (o : Outcome BestSet). add o (of others)) (told_is ids i place o e) in
      g ids ∙ ap (λ (t : List ℕ). take m buffer ++ t) rest ∙ step (of others)

  -- a column of which the first i are those of the first i students, with one more
  column_more : {of : List Enrolled → List ℕ} {f : Outcome BestSet → ℕ} → Made out of (λ o rest. f o ∷ rest)
      → (i place : ℕ) (column : List ℕ) (o : Outcome BestSet) (v : ℕ) → i < n → i < length column → Told i place o → v ≡ f o
      → Partly of i place column i → Partly of (i + 1) (place + result_bytes * get_or counts i 0) (set column i v) (i + 1)
  column_more made i place column o v l q e y g =
      let z : suc i ≡ i + 1 = omega arith in
      partly_more made i place column i o (set column i v) (i + 1) l e
      (λ w. ap (λ (k : ℕ). take i column ++ (k ∷ w)) (sym y) ∙ put_next column i v w q ∙ ap (λ (k : ℕ). take k (set column i v) ++ w) z) g

  -- of the first i students the aggregates of the eligible, m in number, the numbers and the places
  pub record Gathered (i place : ℕ) (buffer : List ℕ) (m : ℕ) (numbers places : List ℕ) : Type 0 where
    aggregates : Partly (aggregates_of out) i place buffer m
    numbered : Partly (numbers_of out) i place numbers i
    placed : Partly (places_of out) i place places i

  pub gathered_none : (buffer numbers places : List ℕ) → Gathered 0 0 buffer 0 numbers places
  gathered_none buffer numbers places =
      record { aggregates = partly_none (aggregates_of out) buffer; numbered = partly_none (numbers_of out) numbers; placed = partly_none (places_of out) places }

-- what follows of those gathered so far
module _ {catalogue table : List ℕ} {year n : ℕ} {counts results : List ℕ} {i place : ℕ} {buffer : List ℕ} {m : ℕ} {numbers places : List ℕ}
    (g : Gathered catalogue table year n counts results i place buffer m numbers places) where
  abbrev outcomes : Enrolled → Outcome BestSet
  outcomes = outcome catalogue table year

  pub gathered_all : i ≡ n → length numbers ≡ n → length places ≡ n → (ids : List ℕ) → Noted outcomes (students_in n ids counts results) (take m buffer) numbers places
  gathered_all h p q ids =
      let whole : (xs : List ℕ) → length xs ≡ n → xs ≡ take i xs = λ xs l. sym (ap (λ (k : ℕ). take k xs) (h ∙ sym l) ∙ take-length xs) in
      record {
        aggregates_are = partly_all catalogue table year n counts results (aggregates-made outcomes) i place buffer m (omega arith) g.aggregates ids;
        numbers_are = whole numbers p ∙ partly_all catalogue table year n counts results (numbers_made outcomes) i place numbers i (omega arith) g.numbered ids;
        places_are = whole places q ∙ partly_all catalogue table year n counts results (places-made outcomes) i place places i (omega arith) g.placed ids;
      }

  pub gathered_more : (o : Outcome BestSet) (b : List ℕ) (k number at : ℕ) → i < n → m < length buffer → i < length numbers → i < length places
      → Told catalogue table year n counts results i place o → b ≡ joined o buffer m → k ≡ after_one m o → number ≡ number_in o → at ≡ place_in o
      → Gathered catalogue table year n counts results (i + 1) (place + result_bytes * get_or counts i 0) b k (set numbers i number) (set places i at)
  gathered_more o b k number at l h p q e x u y z =
      record {
        aggregates =
            partly_more catalogue table year n counts results (aggregates-made outcomes) i place buffer m o b k l e
            (λ w. join_next o buffer m w h ∙ sym (ap (λ (t : List ℕ). take k t ++ w) x ∙ ap (λ (j : ℕ). take j (joined o buffer m) ++ w) u)) g.aggregates;
        numbered = column_more catalogue table year n counts results (numbers_made outcomes) i place numbers o number l p e y g.numbered;
        placed = column_more catalogue table year n counts results (places-made outcomes) i place places o at l q e z g.placed;
      }

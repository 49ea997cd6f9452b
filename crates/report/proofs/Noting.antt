-- The lines of what is noted are those of the students.
use Prim.Native.Nat.{ℕ, zero, suc, ◌+◌, ◌*◌, ◌≤◌, ◌<◌}
use native.Mathlib.Omega.{arith}
use mathlib.Core.Path.{◌≡◌, refl, sym, ap, ◌∙◌}
use mathlib.Core.Bool.{Bool, true, false}
use mathlib.Core.List.{List, [], ◌∷◌, ◌++◌}
use lib.ListN.{length, get_or, take, drop}
use lib.Seq.{get_or-take, take_at}
use lib.Dec.{eqb}
use borrow.Author.Tests.{ne_eqb, eqb-true}
use Rattle.paper.specs.Limits.{result_bytes}
use Rattle.paper.specs.Lists.{pick}
use Rattle.paper.specs.Rulings.{Outcome, accepted, refused, number_of, number_in, place_in}
use Rattle.paper.proofs.Ruled.{Refusing, some_number}
use Rattle.results.specs.Results.{student}
use Rattle.sets.specs.declared.BestSet.{BestSet}
use Rattle.sets.proofs.Meeting.{computed-tabled}
use Rattle.ranks.proofs.Promised.{computed as ranks-computed}
use Rattle.placements.specs.Placing.{remainder}
use Rattle.placements.proofs.Placed.{best-exists}
use Rattle.listing.specs.Lines.{cohort_line, student_line, refused_line}
use Rattle.held.specs.Held.{Enrolled, ids_of}
use Rattle.printed.specs.Report.{Columns, columns_of, outcome, with_aggregate, aggregates_of, line_of, after_one, lines_of, listed}
use Rattle.printed.specs.InnerCohorts.{columns}
use Rattle.outcomes.specs.Inner.{students_in, numbers_of, places_of, Noted}
use Rattle.lines.specs.Inner.{line_noted, after_noted, lines_noted, eligible_noted}
use Rattle.report.specs.Inner.{listed_noted}
use Rattle.lines.proofs.Lining.{eligible-least}

-- what is noted of a student tells its line and whether it is eligible
line_told : (c : Columns) (j id : ℕ) (o : Outcome BestSet) → Refusing o → line_noted c j id (number_in o) (place_in o) ≡ line_of c j id o
line_told c j id (accepted v) h = refl
line_told c j id (refused f) h = rw (ne_eqb (number_of f) 0 (λ e. omega (arith, some_number f h))) refl

after-told : (j : ℕ) (o : Outcome BestSet) → Refusing o → after_noted j (number_in o) ≡ after_one j o
after-told j (accepted v) h = refl
after-told j (refused f) h = rw (ne_eqb (number_of f) 0 (λ e. omega (arith, some_number f h))) refl

module _ (out : Enrolled → Outcome BestSet) (tabled : (s : Enrolled) → Refusing (out s)) where
  lines_told : (c : Columns) (j : ℕ) (ss : List Enrolled) → lines_noted c j (ids_of ss) (numbers_of out ss) (places_of out ss) ≡ lines_of out c j ss
  unfolding lines_noted lines_of
  lines_told c j [] = refl
  lines_told c j (s ∷ ss) =
      rw (line_told c j s.id (out s) (tabled s), after-told j (out s) (tabled s)) (ap (λ (t : List ℕ). line_of c j s.id (out s) ++ t) (lines_told c (after_one j (out s)) ss))

  eligible-told : (j : ℕ) (ss : List Enrolled) → eligible_noted j (numbers_of out ss) ≡ j + length (aggregates_of out ss)
  unfolding eligible_noted aggregates_of
  eligible-told j [] = omega arith
  eligible-told j (s ∷ ss) = ap (λ (k : ℕ). eligible_noted k (numbers_of out ss)) (after-told j (out s) (tabled s)) ∙ go (out s) (λ k. eligible-told k ss)
    where
      go : (o : Outcome BestSet) → ((k : ℕ) → eligible_noted k (numbers_of out ss) ≡ k + length (aggregates_of out ss))
          → eligible_noted (after_one j o) (numbers_of out ss) ≡ j + length (with_aggregate o (aggregates_of out ss))
      go (accepted v) r = omega (arith, r (suc j))
      go (refused f) r = r j

-- only the eligible are read of the columns
same_line : (c d : Columns) (j id number place : ℕ) → (number ≡ 0 → line_noted c j id 0 place ≡ line_noted d j id 0 place) → line_noted c j id number place ≡ line_noted d j id number place
same_line c d j id number place h = go (eqb number 0) refl
  where
    one : Columns → List ℕ
    one e = student_line id (get_or e.aggregates j 0) (get_or e.ranks j 0) (get_or e.percentiles j 0) (get_or e.bands j 0)

    go : (b : Bool) → eqb number 0 ≡ b → pick b (one c) (refused_line id number place) ≡ pick b (one d) (refused_line id number place)
    go true e = h (eqb-true number 0 e)
    go false e = refl

same_lines : (c d : Columns) (n : ℕ) → ((j id place : ℕ) → j < n → line_noted c j id 0 place ≡ line_noted d j id 0 place)
    → (j : ℕ) (ids numbers places : List ℕ) → eligible_noted j numbers ≤ n → lines_noted c j ids numbers places ≡ lines_noted d j ids numbers places
unfolding lines_noted eligible_noted
same_lines c d n h j ids [] places e = refl
same_lines c d n h j ids (number ∷ numbers) places e =
    rw (same_line c d j (get_or ids 0 0) number (get_or places 0 0) (λ z. h j (get_or ids 0 0) (get_or places 0 0) (below z)))
    (ap (λ (t : List ℕ). line_noted d j (get_or ids 0 0) number (get_or places 0 0) ++ t) (same_lines c d n h (after_noted j number) (drop 1 ids) numbers (drop 1 places) e))
  where
    below : number ≡ 0 → j < n
    below z =
        let one : after_noted j number ≡ suc j = ap (after_noted j) z in
        omega (arith, e, eligible-least (after_noted j number) numbers)

-- a number of a list's front
in_front : (n : ℕ) (xs ys : List ℕ) (j : ℕ) → take n xs ≡ ys → j < n → get_or xs j 0 ≡ get_or ys j 0
in_front n xs ys j e l = sym (get_or-take n xs j 0 l) ∙ ap (λ (l : List ℕ). get_or l j 0) e

-- so columns that begin with those of the eligible will do
pub front_lines : (aggregates table : List ℕ) (Y : ℕ) (ranks percentiles bands x y z : List ℕ) → columns aggregates ranks percentiles bands ≡ columns_of aggregates table Y
    → (ids numbers places : List ℕ) → eligible_noted 0 numbers ≡ length aggregates
    → lines_noted (columns aggregates (ranks ++ x) (percentiles ++ y) (bands ++ z)) 0 ids numbers places ≡ lines_noted (columns_of aggregates table Y) 0 ids numbers places
front_lines aggregates table Y ranks percentiles bands x y z e ids numbers places h =
    let n = length aggregates in
    let r = ap (λ (c : Columns). c.ranks) e in
    let p = ap (λ (c : Columns). c.percentiles) e in
    let b = ap (λ (c : Columns). c.bands) e in
    let long = ranks-computed aggregates in
    let ranks_are = take_at ranks x n (ap length r ∙ long.ranks_long) ∙ r in
    let percentiles_are = take_at percentiles y n (ap length p ∙ long.percentiles_long) ∙ p in
    let bands-are = take_at bands z n (ap length b ∙ (best-exists aggregates table Y).keeps.long) ∙ b in
    same_lines (columns aggregates (ranks ++ x) (percentiles ++ y) (bands ++ z)) (columns_of aggregates table Y) n
    (λ j id place l. λ i. student_line id (get_or aggregates j 0) (in_front n (ranks ++ x) _ j ranks_are l i) (in_front n (percentiles ++ y) _ j percentiles_are l i) (in_front n (bands ++ z) _ j bands-are l i))
    0 ids numbers places (omega (arith, h))

-- the ids of the students in buffers, and how many they are
ids-in : (ids counts results : List ℕ) → ids_of (students_in (length ids) ids counts results) ≡ ids
unfolding students_in
ids-in [] counts results = refl
ids-in (id ∷ ids) counts results = ap (λ (l : List ℕ). id ∷ l) (ids-in ids (drop 1 counts) (drop (result_bytes * get_or counts 0 0) results))

number-in : (n : ℕ) (ids counts results : List ℕ) → length (students_in n ids counts results) ≡ n
unfolding students_in
number-in zero ids counts results = refl
number-in (suc n) ids counts results = ap suc (number-in n (drop 1 ids) (drop 1 counts) (drop (result_bytes * get_or counts 0 0) results))

-- so the listing of what is noted is that of the students
module _ (catalogue table : List ℕ) (year : ℕ) (shares : List ℕ) (Y : ℕ) (ids counts results : List ℕ) where
  abbrev out : Enrolled → Outcome BestSet
  out = outcome catalogue table year

  abbrev those : List Enrolled
  those = students_in (length counts) ids counts results

  out-tabled : (s : Enrolled) → Refusing (out s)
  unfolding outcome
  out-tabled s = computed-tabled (student catalogue year s.results) table

  pub eligible-are : (aggregates numbers places : List ℕ) → Noted out those aggregates numbers places → eligible_noted 0 numbers ≡ length aggregates
  eligible-are aggregates numbers places k = ap (eligible_noted 0) k.numbers_are ∙ eligible-told out out-tabled 0 those ∙ zero_more ∙ sym (ap length k.aggregates_are)
    where
      zero_more : 0 + length (aggregates_of out those) ≡ length (aggregates_of out those)
      zero_more = omega arith

  pub listed-told : (aggregates numbers places : List ℕ) → length ids ≡ length counts → Noted out those aggregates numbers places
      → listed_noted ids numbers places aggregates shares Y ≡ listed out shares Y those
  listed-told aggregates numbers places l k =
      let agg = aggregates_of out those in
      let ids-are : ids ≡ ids_of those = sym (ap ids_of (ap (λ (j : ℕ). students_in j ids counts results) (sym l)) ∙ ids-in ids counts results) in
      let many : length ids ≡ length those = l ∙ sym (number-in (length counts) ids counts results) in
      (λ i. cohort_line (many i) (length (k.aggregates_are i)) (remainder (k.aggregates_are i) shares Y) ++ lines_noted (columns_of (k.aggregates_are i) shares Y) 0 (ids-are i) (k.numbers_are i) (k.places_are i))
      ∙ ap (λ (t : List ℕ). cohort_line (length those) (length agg) (remainder agg shares Y) ++ t) (lines_told out out-tabled (columns_of agg shares Y) 0 those)

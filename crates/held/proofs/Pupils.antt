-- Laws of the students: one more student, one more result.
use Prim.Native.Nat.{ℕ, suc, ◌+◌, ◌-◌, ◌/◌, ◌≤◌}
use native.Mathlib.Omega.{arith}
use mathlib.Core.Path.{◌≡◌, refl, sym, ap, ◌∙◌}
use mathlib.Core.List.{List, [], ◌∷◌, ◌++◌, append_assoc, append-nil, map-append}
use lib.ListN.{length, set, length-append}
use Rattle.paper.specs.Limits.{result_bytes}
use Rattle.held.specs.Held.{Enrolled, counted, latest, ids_of, counts_of, results_of}
use Rattle.held.specs.Taking.{fresh, joined}

-- a student more, with no result
pub ids-fresh : (ss : List Enrolled) (id : ℕ) → ids_of (ss ++ (fresh id ∷ [])) ≡ ids_of ss ++ (id ∷ [])
ids-fresh ss id = map-append (λ s. s.id) ss (fresh id ∷ [])

pub counts-fresh : (ss : List Enrolled) (id : ℕ) → counts_of (ss ++ (fresh id ∷ [])) ≡ counts_of ss ++ (0 ∷ [])
counts-fresh ss id = map-append counted ss (fresh id ∷ [])

pub results-fresh : (ss : List Enrolled) (id : ℕ) → results_of (ss ++ (fresh id ∷ [])) ≡ results_of ss
unfolding results_of
results-fresh [] id = refl
results-fresh (s ∷ ss) id = ap (λ (z : List ℕ). s.results ++ z) (results-fresh ss id)

pub latest-fresh : (ss : List Enrolled) (id : ℕ) → latest (ss ++ (fresh id ∷ [])) ≡ 0
latest-fresh [] id = refl
latest-fresh (s ∷ []) id = refl
latest-fresh (s ∷ (t ∷ ss)) id = latest-fresh (t ∷ ss) id

-- each student has one id and one number
pub length_ids : (ss : List Enrolled) → length (ids_of ss) ≡ length ss
length_ids [] = refl
length_ids (s ∷ ss) = ap suc (length_ids ss)

pub length-counts : (ss : List Enrolled) → length (counts_of ss) ≡ length ss
length-counts [] = refl
length-counts (s ∷ ss) = ap suc (length-counts ss)

-- a result more leaves the students and their ids
pub same_number : (ss : List Enrolled) (v : List ℕ) → length (joined ss v) ≡ length ss
same_number [] v = refl
same_number (s ∷ []) v = refl
same_number (s ∷ (t ∷ ss)) v = ap suc (same_number (t ∷ ss) v)

pub same-ids : (ss : List Enrolled) (v : List ℕ) → ids_of (joined ss v) ≡ ids_of ss
same-ids [] v = refl
same-ids (s ∷ []) v = refl
same-ids (s ∷ (t ∷ ss)) v = ap (λ (z : List ℕ). s.id ∷ z) (same-ids (t ∷ ss) v)

-- and is counted for the latest student
one_more : (xs v : List ℕ) → length v ≡ result_bytes → length (xs ++ v) / result_bytes ≡ length xs / result_bytes + 1
one_more xs v h = omega (arith, length-append xs v)

pub latest-more : (ss : List Enrolled) (v : List ℕ) → length v ≡ result_bytes → 1 ≤ length ss → latest (joined ss v) ≡ latest ss + 1
latest-more [] v h k = absurd (omega arith)
latest-more (s ∷ []) v h k = one_more s.results v h
latest-more (s ∷ (t ∷ [])) v h k = one_more t.results v h
latest-more (s ∷ (t ∷ (u ∷ ss))) v h k = latest-more (t ∷ (u ∷ ss)) v h (omega arith)

pub counts-more : (ss : List Enrolled) (v : List ℕ) → length v ≡ result_bytes → 1 ≤ length ss → counts_of (joined ss v) ≡ set (counts_of ss) (length ss - 1) (latest ss + 1)
counts-more [] v h k = absurd (omega arith)
counts-more (s ∷ []) v h k = ap (λ (n : ℕ). n ∷ []) (one_more s.results v h)
counts-more (s ∷ (t ∷ ss)) v h k =
    let e : suc (suc (length ss) - 1) ≡ suc (suc (length ss)) - 1 = omega arith in
    ap (λ (z : List ℕ). counted s ∷ z) (counts-more (t ∷ ss) v h (omega arith))
    ∙ ap (λ (m : ℕ). set (counts_of (s ∷ (t ∷ ss))) m (latest (t ∷ ss) + 1)) e

pub results-more : (ss : List Enrolled) (v : List ℕ) → 1 ≤ length ss → results_of (joined ss v) ≡ results_of ss ++ v
unfolding results_of
results-more [] v k = absurd (omega arith)
results-more (s ∷ []) v k = append-nil (s.results ++ v) ∙ ap (λ (z : List ℕ). z ++ v) (sym (append-nil s.results))
results-more (s ∷ (t ∷ ss)) v k = ap (λ (z : List ℕ). s.results ++ z) (results-more (t ∷ ss) v (omega arith)) ∙ sym (append_assoc s.results (results_of (t ∷ ss)) v)

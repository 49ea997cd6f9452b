-- The students that stand in buffers.
use Prim.Native.Nat.{ℕ, suc, ◌+◌, ◌-◌, ◌*◌, ◌≤◌, ◌<◌}
use native.Mathlib.Omega.{arith}
use mathlib.Core.Path.{◌≡◌, refl, ap, ◌∙◌}
use mathlib.Core.List.{List, [], ◌∷◌, ◌++◌, append_assoc}
use lib.ListN.{length, get_or, take, drop}
use lib.Seq.{drop-drop, take_at, drop_at}
use Rattle.paper.specs.Limits.{result_bytes}
use Rattle.held.specs.Held.{Enrolled, counted, ids_of, counts_of, results_of}
use Rattle.held.specs.Meaning.{Each, FewResults}
use Rattle.outcomes.specs.Inner.{students_in}
use Rattle.printed.proofs.Columns.{at}

-- those from i on, whose results stand from a place on
abbrev pub from : ℕ → List ℕ → List ℕ → List ℕ → ℕ → ℕ → List Enrolled
from n ids counts results i place = students_in (n - i) (drop i ids) (drop i counts) (drop place results)

abbrev pub student_at : List ℕ → List ℕ → List ℕ → ℕ → ℕ → Enrolled
student_at ids counts results i place = record { id = get_or ids i 0; results = take (result_bytes * get_or counts i 0) (drop place results) }

-- the next, and then those after it
pub next : (n : ℕ) (ids counts results : List ℕ) (i place : ℕ) → i < n
    → from n ids counts results i place ≡ student_at ids counts results i place ∷ from n ids counts results (i + 1) (place + result_bytes * get_or counts i 0)
unfolding students_in
next n ids counts results i place l =
    let e : n - i ≡ suc (n - (i + 1)) = omega arith in
    ap (λ (k : ℕ). students_in k (drop i ids) (drop i counts) (drop place results)) e ∙ step
  where
    step : students_in (suc (n - (i + 1))) (drop i ids) (drop i counts) (drop place results)
        ≡ student_at ids counts results i place ∷ from n ids counts results (i + 1) (place + result_bytes * get_or counts i 0)
    step =
        rw (at i ids, at i counts, drop-drop 1 i ids, drop-drop 1 i counts, drop-drop (result_bytes * get_or counts i 0) place results) refl

pub none : (n : ℕ) (ids counts results : List ℕ) (i place : ℕ) → n ≤ i → from n ids counts results i place ≡ []
unfolding students_in
none n ids counts results i place h = let e : n - i ≡ 0 = omega arith in ap (λ (k : ℕ). students_in k (drop i ids) (drop i counts) (drop place results)) e

-- students laid into buffers stand there
pub stand : (ss : List Enrolled) (rest : List ℕ) → Each FewResults ss → students_in (length ss) (ids_of ss) (counts_of ss) (results_of ss ++ rest) ≡ ss
unfolding students_in results_of
stand [] rest h = refl
stand (s ∷ ss) rest h =
    let a = append_assoc s.results (results_of ss) rest in
    let l : length s.results ≡ result_bytes * counted s = h.0.0 in
    let t : take (result_bytes * counted s) ((s.results ++ results_of ss) ++ rest) ≡ s.results = ap (take (result_bytes * counted s)) a ∙ take_at s.results (results_of ss ++ rest) (result_bytes * counted s) l in
    let d : drop (result_bytes * counted s) ((s.results ++ results_of ss) ++ rest) ≡ results_of ss ++ rest = ap (drop (result_bytes * counted s)) a ∙ drop_at s.results (results_of ss ++ rest) (result_bytes * counted s) l in
    rw (t, d) (ap (λ (l : List Enrolled). s ∷ l) (stand ss rest h.1))

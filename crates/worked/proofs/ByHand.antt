-- The list of the examples holds the paper's that are marked P and those of requests E2 and E5: each, none twice, and no other.
use Prim.Native.Nat.{ℕ, suc}
use mathlib.Core.Path.{◌≡◌, refl}
use mathlib.Core.Bool.{Bool, true, false, ◌&&◌}
use mathlib.Core.List.{List, [], ◌∷◌, ◌++◌, map}
use lib.ListN.{length, replicate}
use Rattle.paper.specs.Words.{◌=?◌, when◌then◌else◌}
use Rattle.paper.specs.Bytes.{word, long, word_bytes, long_bytes}
use Rattle.scores.specs.Scores.{found, slot_of}
use Rattle.scores.specs.Rows.{slots_from}
use Rattle.seek.specs.Sets.{ones_from, sum_over}
use Rattle.results.specs.Scoring.{score_found, score}
use Rattle.results.specs.Results.{Student}
use Rattle.sets.specs.Examples.{seven, eight, nine, eleven, table3}
use Rattle.sets.specs.Promise.{total_of}
use Rattle.curve.specs.Examples.{aged17}
use Rattle.worked.specs.Example.{Example, best-set◌by◌is◌, figures◌give◌, rate◌band◌has◌, aggregates◌by◌of◌get◌leaving◌, cohort◌by◌and◌of◌have◌rank◌get◌leaving◌}
use Rattle.worked.specs.Worked.{six, from2012, from2011, english1990, again2021, sixth, sum0050, sum0049, sum0149, sum0150, at100, over100, examples}

-- the results of students, one after another
abbrev results_of : List Student → List ℕ
results_of [] = []
results_of (s ∷ students) = s.results ++ results_of students

-- what an example asks: the best set of results; Y and r of ten figures; of a rate the entry of a band; of Y the bands of aggregates; of Y those of students
abbrev asks : Example → List ℕ
asks (best-set s by table is o) = s.results
asks (figures q give o) = q
asks (rate r band k has v) = r ∷ k ∷ []
asks (aggregates xs by table of Y get atars leaving n) = Y ∷ xs
asks (cohort ss by scores and table of Y have xs rank ranks get atars leaving n) = Y ∷ results_of ss

-- how many there are
pub twenty_eight : length examples ≡ 28
unfolding examples
twenty_eight = refl

-- students 7, 8, 9 and 11; six Generals; 2012 to 2016, 2011 to 2016, English of 1990, English of 2012 again in 2021; a sixth at 50.0011, sums of 250.0050
-- and 250.0049, scores of 1000000 and 1000001; r=5000 at k=1, 500, 1000, 1999; r=2500 at k=1999; r=7500 at k=0, 1;
-- Y=100000 with E=24995, 24994, 75004, 75005; Y=2000, aggregates 400.00, 400.00, 300.00; Y=1, two different; four students by their sums
pub members : map asks examples
    ≡ seven.results ∷ eight.results ∷ nine.results ∷ eleven.results ∷ six.results
    ∷ from2012.results ∷ from2011.results ∷ english1990.results ∷ again2021.results
    ∷ sixth.results ∷ sum0050.results ∷ sum0049.results ∷ at100.results ∷ over100.results
    ∷ (5000 ∷ 1 ∷ []) ∷ (5000 ∷ 500 ∷ []) ∷ (5000 ∷ 1000 ∷ []) ∷ (5000 ∷ 1999 ∷ []) ∷ (2500 ∷ 1999 ∷ []) ∷ (7500 ∷ 0 ∷ []) ∷ (7500 ∷ 1 ∷ [])
    ∷ aged17 100000 24995 ∷ aged17 100000 24994 ∷ aged17 100000 75004 ∷ aged17 100000 75005
    ∷ (2000 ∷ 40000 ∷ 40000 ∷ 30000 ∷ []) ∷ (1 ∷ 40000 ∷ 30000 ∷ [])
    ∷ (2000 ∷ results_of (sum0050 ∷ sum0149 ∷ sum0150 ∷ sum0049 ∷ [])) ∷ []
unfolding examples
members = refl

-- two lists are the same; how often a list stands in others
abbrev same : List ℕ → List ℕ → Bool
same [] [] = true
same [] (y ∷ ys) = false
same (x ∷ xs) [] = false
same (x ∷ xs) (y ∷ ys) = x =? y && same xs ys

abbrev times : List ℕ → List (List ℕ) → ℕ
times x [] = 0
times x (y ∷ ys) = when same x y then suc (times x ys) else times x ys

-- none is there twice
pub once : map (λ x. times x (map asks examples)) (map asks examples) ≡ replicate 28 1
unfolding examples
once = refl

-- what the five of each come to, unrounded: the sums of two that share an aggregate differ
pub sums : (total_of sum0050 table3 31 ≡ 2500050) × (total_of sum0149 table3 31 ≡ 2500149) × (total_of sum0150 table3 31 ≡ 2500150) × (total_of sum0049 table3 31 ≡ 2500049)
    × (total_of sixth table3 31 ≡ 2500050) × (total_of sixth table3 47 ≡ 2500051)
unfolding slots_from word_bytes long_bytes word long found slot_of ones_from sum_over score_found score
sums = (refl, refl, refl, refl, refl, refl)

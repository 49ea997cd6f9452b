-- Students worked by hand, computed from the definitions.
use Prim.Native.Nat.{ℕ}
use mathlib.Core.Path.{◌≡◌, refl}
use mathlib.Core.List.{List, [], ◌∷◌}
use lib.ListN.{replicate}
use Rattle.paper.specs.Lists.{first}
use Rattle.paper.specs.Bytes.{word, long, word_bytes, long_bytes}
use Rattle.paper.specs.Rounding.{nearest}
use Rattle.paper.specs.Rulings.{Outcome, accepted, refused, ◌at◌, in_turn}
use Rattle.paper.specs.Letters.{letter_b, letter_c, letter_d, letter_y}
use Rattle.paper.specs.Limits.{missing, most_results}
use Rattle.catalogue.specs.Catalogue.{outside}
use Rattle.scores.specs.Scores.{found, slot_of}
use Rattle.scores.specs.Rows.{slots_from}
use Rattle.seek.specs.Sets.{ones_from, sum_over, count_over}
use Rattle.results.specs.Results.{student}
use Rattle.results.specs.Scoring.{score_found, score}
use Rattle.results.specs.Counting.{usable, usable_at, shows_english, kept}
use Rattle.sets.specs.Rules.{wrong, unscored, repeated}
use Rattle.sets.specs.Promise.{aggregate_of}
use Rattle.sets.specs.declared.BestSet.{BestSet}
use Rattle.sets.specs.Computed.{admissible, earlier, chosen, computed}
use Rattle.sets.specs.Examples.{one_score, table, result, seven, eight, nine, catalogue2, table2, dated, three, english10}

abbrev pub gives : ℕ → ℕ → Outcome BestSet
gives aggregate set = accepted (record { aggregate = aggregate; set = set })

-- student 7 without Methods, 8 without Essential Mathematics, 9 without a set
pub students : (computed seven table ≡ gives 36000 61) × (computed eight table ≡ gives 35500 47) × (computed nine table ≡ refused (8 at 0))
unfolding slots_from word_bytes long_bytes first word long in_turn outside found slot_of ones_from sum_over count_over score_found score usable usable_at shows_english kept wrong unscored repeated admissible earlier chosen aggregate_of nearest
students = (refl, refl, refl)

abbrev pub best : List ℕ → Outcome BestSet
best results = computed (student catalogue2 2021 results) table2

-- six Generals at 50.00, one an English C: positions 0 to 4
pub generals : best (result 0 letter_c 50 (result 1 letter_b 50 (three (result 8 letter_b 50 [])))) ≡ gives 25000 31
unfolding slots_from word_bytes long_bytes first word long in_turn outside found slot_of ones_from sum_over count_over score_found score usable usable_at shows_english kept wrong unscored repeated admissible earlier chosen aggregate_of nearest
generals = refl

-- the same with the catalogue's last first: the positions are those of the results
pub other-order : best (result 8 letter_b 50 (result 0 letter_c 50 (result 1 letter_b 50 (three [])))) ≡ gives 25000 31
unfolding slots_from word_bytes long_bytes first word long in_turn outside found slot_of ones_from sum_over count_over score_found score usable usable_at shows_english kept wrong unscored repeated admissible earlier chosen aggregate_of nearest
other-order = refl

-- English 10, and five better Generals: it needn't be in the five
pub outside-five : best english10 ≡ gives 25000 62
unfolding slots_from word_bytes long_bytes first word long in_turn outside found slot_of ones_from sum_over count_over score_found score usable usable_at shows_english kept wrong unscored repeated admissible earlier chosen aggregate_of nearest
outside-five = refl

-- a subject with its external examination: one of the two; a D is no pass; the later of two results of a subject counts, and a C since repeated with a D still serves; a Certificate III counts, a Certificate II does not
pub rules : (best (result 0 letter_b 50 (result 1 letter_b 90 (result 2 letter_b 95 (three [])))) ≡ gives 29500 61)
    × (best (result 0 letter_d 50 (result 1 letter_b 90 (three []))) ≡ refused (7 at 0))
    × (best (result 0 letter_c 50 (dated 1 letter_b 90 2020 (result 1 letter_b 40 (three [])))) ≡ gives 24000 61)
    × (best (dated 0 letter_c 90 2020 (result 0 letter_d 50 (result 1 letter_b 40 (three [])))) ≡ gives 24000 62)
    × (best (result 0 letter_c 50 (result 6 letter_y 0 (three []))) ≡ gives 27000 31)
    × (best (result 0 letter_c 50 (result 7 letter_y 0 (three []))) ≡ refused (8 at 0))
unfolding slots_from word_bytes long_bytes first word long in_turn outside found slot_of ones_from sum_over count_over score_found score usable usable_at shows_english kept wrong unscored repeated admissible earlier chosen aggregate_of nearest
rules = (refl, refl, refl, refl, refl, refl)

-- 1 of the catalogue before all else; 11 before 14; 14 before the results' 1; 2 at 16; of two results 3, 4, 5 in turn; 6 at the later one
pub refusals : (computed (student (0 ∷ []) 0 []) [] ≡ refused (1 at 0)) × (computed (student catalogue2 0 (0 ∷ [])) [] ≡ refused (11 at 0))
    × (computed (student catalogue2 1983 (0 ∷ [])) table2 ≡ refused (14 at 0)) × (computed (student catalogue2 10000 (0 ∷ [])) table2 ≡ refused (14 at 0))
    × (best (result 0 letter_b 50 (0 ∷ [])) ≡ refused (1 at 1)) × (best (replicate 102 0) ≡ refused (2 at most_results))
    × (best (result 0 letter_b 50 (result 9 letter_b 50 [])) ≡ refused (3 at 1)) × (best (result 0 70 50 (result 9 letter_b 50 [])) ≡ refused (4 at 0))
    × (best (result 0 letter_b 50 (result 6 letter_y 1 [])) ≡ refused (4 at 1)) × (best (dated 0 letter_b 50 1979 []) ≡ refused (4 at 0)) × (best (dated 0 letter_b 50 2022 []) ≡ refused (4 at 0))
    × (best (three (result 0 letter_b 50 (result 4 letter_b 60 (result 0 letter_b 50 [])))) ≡ refused (6 at 4)) × (best [] ≡ refused (7 at 0))
unfolding slots_from word_bytes long_bytes first word long in_turn outside found slot_of ones_from sum_over count_over score_found score usable usable_at shows_english kept wrong unscored repeated admissible earlier chosen aggregate_of nearest
refusals = (refl, refl, refl, refl, refl, refl, refl, refl, refl, refl, refl, refl, refl)

-- one subject and one result: its slot holds 1000000, 1000001, what was missing in 16 bits, or is missing
abbrev pub one_row : ℕ → Outcome BestSet
one_row score = computed (student (1 ∷ 1 ∷ 0 ∷ 0 ∷ 1 ∷ []) 2021 (result 0 letter_c 50 [])) (one_score 50 score)

pub slot : (one_row 1000000 ≡ refused (8 at 0)) × (one_row 1000001 ≡ refused (5 at 0)) × (one_row 65535 ≡ refused (8 at 0)) × (one_row missing ≡ refused (5 at 0))
unfolding slots_from word_bytes long_bytes first word long in_turn outside found slot_of ones_from sum_over count_over score_found score usable usable_at shows_english kept wrong unscored repeated admissible earlier chosen aggregate_of nearest
slot = (refl, refl, refl, refl)

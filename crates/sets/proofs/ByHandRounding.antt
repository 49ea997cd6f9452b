-- Scores to four decimals, computed: the set by the unrounded sum, and the aggregate rounded once.
use Prim.Native.Nat.{ℕ}
use mathlib.Core.Path.{◌≡◌, refl}
use mathlib.Core.List.{List, [], ◌∷◌, ◌++◌}
use lib.ListN.{replicate}
use Rattle.paper.specs.Bytes.{word, long, word_bytes, long_bytes}
use Rattle.paper.specs.Lists.{first}
use Rattle.paper.specs.Rounding.{nearest}
use Rattle.paper.specs.Rulings.{Outcome, in_turn}
use Rattle.paper.specs.Letters.{letter_c}
use Rattle.catalogue.specs.Catalogue.{outside}
use Rattle.scores.specs.Scores.{found, slot_of}
use Rattle.seek.specs.Sets.{ones_from, sum_over, count_over}
use Rattle.results.specs.Results.{student}
use Rattle.results.specs.Scoring.{score_found, score}
use Rattle.results.specs.Counting.{usable, usable_at, shows_english, kept}
use Rattle.sets.specs.Rules.{wrong, unscored, repeated}
use Rattle.sets.specs.Promise.{aggregate_of}
use Rattle.sets.specs.declared.BestSet.{BestSet}
use Rattle.sets.specs.Computed.{admissible, earlier, chosen, computed}
use Rattle.sets.specs.Examples.{catalogue3, dated}
use Rattle.sets.proofs.ByHand.{gives}

-- a sum in hundredths, nearest, halves up: below a half, a half, above it; what ends in 45 is not rounded twice; to the greatest sum
pub halves : (aggregate_of 0 ≡ 0) × (aggregate_of 1 ≡ 0) × (aggregate_of 49 ≡ 0) × (aggregate_of 50 ≡ 1) × (aggregate_of 51 ≡ 1) × (aggregate_of 99 ≡ 1) × (aggregate_of 100 ≡ 1) × (aggregate_of 149 ≡ 1)
    × (aggregate_of 150 ≡ 2) × (aggregate_of 2500045 ≡ 25000) × (aggregate_of 2500049 ≡ 25000) × (aggregate_of 2500050 ≡ 25001) × (aggregate_of 2500150 ≡ 25002) × (aggregate_of 4999949 ≡ 49999)
    × (aggregate_of 4999950 ≡ 50000) × (aggregate_of 5000000 ≡ 50000)
unfolding aggregate_of nearest
halves = (refl, refl, refl, refl, refl, refl, refl, refl, refl, refl, refl, refl, refl, refl, refl, refl)

-- the scores of those that a student has of seven Generals, each in slot 1 of its row
abbrev pub rows : List ℕ → List ℕ
rows [] = []
rows (score ∷ scores) = long_bytes score ++ (replicate 396 255 ++ rows scores)

abbrev pub five : List ℕ → List ℕ
five more = dated 0 letter_c 1 2021 (dated 1 letter_c 1 2021 (dated 2 letter_c 1 2021 (dated 3 letter_c 1 2021 (dated 4 letter_c 1 2021 more))))

-- a student of five results by their scores, and one of six
abbrev pub of_five : ℕ → ℕ → ℕ → ℕ → ℕ → Outcome BestSet
of_five a b c d e = computed (student catalogue3 2021 (five [])) (rows (a ∷ b ∷ c ∷ d ∷ e ∷ 0 ∷ 0 ∷ []))

abbrev pub of_six : ℕ → ℕ → ℕ → ℕ → ℕ → ℕ → Outcome BestSet
of_six a b c d e f = computed (student catalogue3 2021 (five (dated 5 letter_c 1 2021 []))) (rows (a ∷ b ∷ c ∷ d ∷ e ∷ f ∷ 0 ∷ []))

-- no score is rounded before the sum: five that end in 40 come to 2 hundredths more, in 50 to 2.5, in 60 to 3; one at 87.3812 and four at 84.8109
pub rounded-once : (of_five 500040 500040 500040 500040 500040 ≡ gives 25002 31) × (of_five 500050 500050 500050 500050 500050 ≡ gives 25003 31) × (of_five 500060 500060 500060 500060 500060 ≡ gives 25003 31)
    × (of_five 873812 848109 848109 848109 848109 ≡ gives 42662 31) × (of_five 65535 65535 65535 65535 65535 ≡ gives 3277 31) × (of_five 1000000 1000000 1000000 1000000 1000000 ≡ gives 50000 31)
unfolding first word long word_bytes long_bytes in_turn outside found slot_of ones_from sum_over count_over score_found score usable usable_at shows_english kept wrong unscored repeated admissible earlier chosen aggregate_of nearest
rounded-once = (refl, refl, refl, refl, refl, refl)

-- a sum that ends in 50 goes up, in 49 down
pub sum-halves : (of_five 500000 500000 500000 500000 500049 ≡ gives 25000 31) × (of_five 500000 500000 500000 500000 500050 ≡ gives 25001 31) × (of_five 500049 500001 500000 500000 500000 ≡ gives 25001 31)
unfolding first word long word_bytes long_bytes in_turn outside found slot_of ones_from sum_over count_over score_found score usable usable_at shows_english kept wrong unscored repeated admissible earlier chosen aggregate_of nearest
sum-halves = (refl, refl, refl)

-- the set by the unrounded sum: by the rounded one both sets come to 250.00, and that of positions 0 to 4 would come first; where the sums are the same it does
pub by_unrounded : (of_six 500000 500000 500000 500000 500000 500001 ≡ gives 25000 47) × (of_six 500000 500000 500000 500000 500000 500000 ≡ gives 25000 31) × (of_six 500000 500000 500000 500000 500001 500000 ≡ gives 25000 31)
    × (of_six 499999 500000 500000 500000 500000 500000 ≡ gives 25000 62)
unfolding first word long word_bytes long_bytes in_turn outside found slot_of ones_from sum_over count_over score_found score usable usable_at shows_english kept wrong unscored repeated admissible earlier chosen aggregate_of nearest
by_unrounded = (refl, refl, refl, refl)

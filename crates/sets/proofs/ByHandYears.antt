-- The years of a set and of the results, computed: five consecutive years, whichever they are.
use Prim.Native.Nat.{ℕ}
use mathlib.Core.Path.{◌≡◌, refl}
use mathlib.Core.Bool.{Bool, true, false}
use mathlib.Core.List.{List, []}
use Rattle.paper.specs.Bytes.{word, long, word_bytes, long_bytes}
use Rattle.paper.specs.Lists.{first}
use Rattle.paper.specs.Rounding.{nearest}
use Rattle.paper.specs.Rulings.{refused, ◌at◌, in_turn}
use Rattle.paper.specs.Letters.{letter_a, letter_b, letter_c, letter_d, letter_y}
use Rattle.catalogue.specs.Catalogue.{outside}
use Rattle.scores.specs.Scores.{found, slot_of}
use Rattle.scores.specs.Rows.{slots_from}
use Rattle.seek.specs.Sets.{ones_from, sum_over, count_over}
use Rattle.results.specs.Results.{student}
use Rattle.results.specs.Scoring.{score_found, score}
use Rattle.results.specs.Counting.{usable, usable_at, shows_english, kept}
use Rattle.sets.specs.Rules.{wrong, unscored, repeated}
use Rattle.sets.specs.Promise.{aggregate_of}
use Rattle.sets.specs.Computed.{admissible, earlier, chosen}
use Rattle.sets.specs.Examples.{dated, mature, renewed, long_ago}
use Rattle.sets.proofs.ByHand.{gives, best}
use Rattle.sets.proofs.ByHandSets.{catalogue, english, maths, biology, chemistry, physics, more_english, hospitality, certificate}

-- English, Mathematics, Biology, Chemistry and Physics of these years, in this order; as a set
abbrev pub taken : ℕ → ℕ → ℕ → ℕ → ℕ → List ℕ → List ℕ
taken a b c d e more = dated english letter_a 1 a (dated maths letter_a 1 b (dated biology letter_a 1 c (dated chemistry letter_a 1 d (dated physics letter_a 1 e more))))

abbrev pub of_years : ℕ → ℕ → ℕ → ℕ → ℕ → Bool
of_years a b c d e = admissible (student catalogue 2021 (taken a b c d e [])) 31

-- the latest exceeds the earliest by four, or by five: whichever years they are, first or last in the list
pub spans : (of_years 2012 2013 2014 2015 2016 ≡ true) × (of_years 2016 2015 2014 2013 2012 ≡ true) × (of_years 2011 2013 2014 2015 2016 ≡ false) × (of_years 2012 2013 2014 2015 2017 ≡ false)
    × (of_years 2017 2018 2019 2020 2021 ≡ true) × (of_years 2016 2018 2019 2020 2021 ≡ false) × (of_years 2021 2020 2019 2018 2016 ≡ false) × (of_years 1980 1981 1982 1983 1984 ≡ true)
    × (of_years 1985 1981 1982 1983 1980 ≡ false) × (of_years 1990 1990 1990 1990 1990 ≡ true)
unfolding admissible kept usable_at usable first word ones_from sum_over count_over
spans = (refl, refl, refl, refl, refl, refl, refl, refl, refl, refl)

-- each member counts: four years before the others, five before, four after, five after
pub each-before : (of_years 2012 2016 2016 2016 2016 ≡ true) × (of_years 2011 2016 2016 2016 2016 ≡ false) × (of_years 2016 2012 2016 2016 2016 ≡ true) × (of_years 2016 2011 2016 2016 2016 ≡ false)
    × (of_years 2016 2016 2012 2016 2016 ≡ true) × (of_years 2016 2016 2011 2016 2016 ≡ false) × (of_years 2016 2016 2016 2012 2016 ≡ true) × (of_years 2016 2016 2016 2011 2016 ≡ false)
    × (of_years 2016 2016 2016 2016 2012 ≡ true) × (of_years 2016 2016 2016 2016 2011 ≡ false)
unfolding admissible kept usable_at usable first word ones_from sum_over count_over
each-before = (refl, refl, refl, refl, refl, refl, refl, refl, refl, refl)

pub each_after : (of_years 2020 2016 2016 2016 2016 ≡ true) × (of_years 2021 2016 2016 2016 2016 ≡ false) × (of_years 2016 2020 2016 2016 2016 ≡ true) × (of_years 2016 2021 2016 2016 2016 ≡ false)
    × (of_years 2016 2016 2020 2016 2016 ≡ true) × (of_years 2016 2016 2021 2016 2016 ≡ false) × (of_years 2016 2016 2016 2020 2016 ≡ true) × (of_years 2016 2016 2016 2021 2016 ≡ false)
    × (of_years 2016 2016 2016 2016 2020 ≡ true) × (of_years 2016 2016 2016 2016 2021 ≡ false)
unfolding admissible kept usable_at usable first word ones_from sum_over count_over
each_after = (refl, refl, refl, refl, refl, refl, refl, refl, refl, refl)

-- not from the first of the list: each is within four years of it, and two are five and eight apart
pub not_from_first : (of_years 2014 2012 2016 2013 2015 ≡ true) × (of_years 2014 2012 2017 2014 2014 ≡ false) × (of_years 2014 2017 2014 2014 2012 ≡ false) × (of_years 2014 2010 2014 2018 2014 ≡ false)
unfolding admissible kept usable_at usable first word ones_from sum_over count_over
not_from_first = (refl, refl, refl, refl)

-- each kind counts: four Generals of 2016, with an Applied before them and a Certificate III after them
abbrev pub with_fifth : ℕ → ℕ → ℕ → Bool
with_fifth subject letter year =
    admissible (student catalogue 2021 (dated english letter_a 1 2016 (dated biology letter_a 1 2016 (dated chemistry letter_a 1 2016 (dated physics letter_a 1 2016 (dated subject letter 0 year [])))))) 31

pub each-kind : (with_fifth hospitality letter_a 2012 ≡ true) × (with_fifth hospitality letter_a 2011 ≡ false) × (with_fifth certificate letter_y 2020 ≡ true) × (with_fifth certificate letter_y 2021 ≡ false)
unfolding admissible kept usable_at usable first word ones_from sum_over count_over
each-kind = (refl, refl, refl, refl)

-- years of two bytes, in 9999: 2047 and 2048 differ in both; 2012 and 2268 in the first alone
abbrev pub in9999 : ℕ → ℕ → ℕ → ℕ → ℕ → Bool
in9999 a b c d e = admissible (student catalogue 9999 (taken a b c d e [])) 31

pub two_bytes : (in9999 2044 2045 2046 2047 2048 ≡ true) × (in9999 2043 2045 2046 2047 2048 ≡ false) × (in9999 2012 2268 2012 2012 2012 ≡ false)
unfolding admissible kept usable_at usable first word ones_from sum_over count_over
two_bytes = (refl, refl, refl)

-- over the five, and not over all results: with a sixth of 1990 or of 2021
abbrev pub besides : ℕ → ℕ → Bool
besides year set = admissible (student catalogue 2021 (taken 2012 2013 2014 2015 2016 (dated more_english letter_a 1 year []))) set

pub over-five : (besides 1990 31 ≡ true) × (besides 2021 31 ≡ true) × (besides 1990 62 ≡ false) × (besides 2021 62 ≡ false) × (besides 2017 62 ≡ true) × (besides 2017 61 ≡ false)
unfolding admissible kept usable_at usable first word ones_from sum_over count_over
over-five = (refl, refl, refl, refl, refl, refl)

-- a student of 2012 to 2016 is accepted in 2021, and one of 2013 to 2017; of 2011 to 2016, or 2012 to 2017, there is no set
pub stretches : (best (mature 2012 2016 []) ≡ gives 25000 31) × (best (mature 2011 2016 []) ≡ refused (8 at 0)) × (best (mature 2012 2017 []) ≡ refused (8 at 0)) × (best (mature 2013 2017 []) ≡ gives 25000 31)
unfolding slots_from word_bytes long_bytes first word long in_turn outside found slot_of ones_from sum_over count_over score_found score usable usable_at shows_english kept wrong unscored repeated admissible earlier chosen aggregate_of nearest
stretches = (refl, refl, refl, refl)

-- English of 1990, and five of 2021: it serves, and is none of the five; a D of 1990 does not. English of 2021, after five of 2012 to 2016
pub old_english : (best (long_ago letter_c) ≡ gives 25000 62) × (best (long_ago letter_d) ≡ refused (7 at 0))
    × (best (dated 1 letter_b 50 2012 (dated 3 letter_b 50 2013 (dated 4 letter_b 50 2014 (dated 5 letter_b 50 2015 (dated 8 letter_b 50 2016 (dated 0 letter_c 90 2021 [])))))) ≡ gives 25000 31)
unfolding slots_from word_bytes long_bytes first word long in_turn outside found slot_of ones_from sum_over count_over score_found score usable usable_at shows_english kept wrong unscored repeated admissible earlier chosen aggregate_of nearest
old_english = (refl, refl, refl)

-- 7 before 8: English D of 2011 and four of 2013 to 2016; a C of 1990 alone is 8
pub seven-first : (best (dated 0 letter_d 50 2011 (dated 1 letter_b 50 2013 (dated 3 letter_b 50 2014 (dated 4 letter_b 50 2015 (dated 5 letter_b 50 2016 []))))) ≡ refused (7 at 0))
    × (best (dated 0 letter_c 50 1990 []) ≡ refused (8 at 0))
unfolding slots_from word_bytes long_bytes first word long in_turn outside found slot_of ones_from sum_over count_over score_found score usable usable_at shows_english kept wrong unscored repeated admissible earlier chosen aggregate_of nearest
seven-first = (refl, refl)

-- English of 2012 and again in 2016 or 2017: the five are the later one and those of 2013 to 2016; again in 2018 or 2021 it takes the one of 2012 out of the set that
-- needed it, and there is none
pub repeats : (best (renewed 2016) ≡ gives 29000 62) × (best (renewed 2017) ≡ gives 29000 62) × (best (renewed 2018) ≡ refused (8 at 0)) × (best (renewed 2021) ≡ refused (8 at 0))
unfolding slots_from word_bytes long_bytes first word long in_turn outside found slot_of ones_from sum_over count_over score_found score usable usable_at shows_english kept wrong unscored repeated admissible earlier chosen aggregate_of nearest
repeats = (refl, refl, refl, refl)

-- six results: the five highest are of 2012 and 2017, and the best within five years is another; of those that tie the first that may
pub other-set : (best (dated 0 letter_c 90 2012 (dated 1 letter_b 50 2016 (dated 3 letter_b 60 2016 (dated 4 letter_b 70 2016 (dated 5 letter_b 80 2017 (dated 8 letter_b 40 2017 [])))))) ≡ gives 30000 62)
    × (best (dated 0 letter_c 50 2012 (dated 1 letter_b 50 2016 (dated 3 letter_b 50 2016 (dated 4 letter_b 50 2016 (dated 5 letter_b 50 2017 (dated 8 letter_b 50 2016 [])))))) ≡ gives 25000 47)
unfolding slots_from word_bytes long_bytes first word long in_turn outside found slot_of ones_from sum_over count_over score_found score usable usable_at shows_english kept wrong unscored repeated admissible earlier chosen aggregate_of nearest
other-set = (refl, refl)

-- of two stretches, 2012 to 2016 and 2013 to 2017, the better: the later one, and the earlier one
pub better-stretch : (best (mature 2012 2016 (dated 8 letter_b 90 2017 [])) ≡ gives 29000 62)
    × (best (mature 2012 2016 (dated 8 letter_b 40 2017 [])) ≡ gives 25000 31)
unfolding slots_from word_bytes long_bytes first word long in_turn outside found slot_of ones_from sum_over count_over score_found score usable usable_at shows_english kept wrong unscored repeated admissible earlier chosen aggregate_of nearest
better-stretch = (refl, refl)

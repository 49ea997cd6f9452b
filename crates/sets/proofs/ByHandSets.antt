-- Sets of results, computed: which are admissible, what they come to, and which comes first.
use Prim.Native.Nat.{ℕ, ◌+◌, ◌^◌}
use mathlib.Core.Path.{◌≡◌, refl}
use mathlib.Core.Bool.{Bool, true, false}
use mathlib.Core.List.{List, [], ◌∷◌, ◌++◌}
use lib.ListN.{replicate}
use Rattle.paper.specs.Words.{◌=?◌, when◌then◌else◌}
use Rattle.paper.specs.Bytes.{word, long}
use Rattle.paper.specs.Lists.{first}
use Rattle.paper.specs.Rounding.{nearest}
use Rattle.paper.specs.Rulings.{refused, ◌at◌, in_turn}
use Rattle.paper.specs.Letters.{letter_a, letter_c, letter_y}
use Rattle.catalogue.specs.Catalogue.{outside}
use Rattle.scores.specs.Scores.{found, slot_of}
use Rattle.seek.specs.Sets.{ones_from, positions, sum_over, count_over, comes_to}
use Rattle.results.specs.Results.{Student, student}
use Rattle.results.specs.Scoring.{score_found, score}
use Rattle.results.specs.Counting.{usable, usable_at, shows_english, kept}
use Rattle.sets.specs.Rules.{wrong, unscored, repeated}
use Rattle.sets.specs.Promise.{aggregate_of}
use Rattle.sets.specs.Computed.{admissible, earlier, one, chosen, computed}
use Rattle.sets.specs.Examples.{dated}
use Rattle.sets.proofs.ByHand.{gives}

-- the subjects of a catalogue. General: English, Mathematics, three more; extensions: English, Mathematics
abbrev pub english : ℕ
english = 0

abbrev pub maths : ℕ
maths = 1

abbrev pub biology : ℕ
biology = 2

abbrev pub chemistry : ℕ
chemistry = 3

abbrev pub physics : ℕ
physics = 4

abbrev pub more_english : ℕ
more_english = 5

abbrev pub more_maths : ℕ
more_maths = 6

-- Applied: English, Mathematics, and two of no strand; a Certificate III; a short course
abbrev pub applied_english : ℕ
applied_english = 7

abbrev pub applied_maths : ℕ
applied_maths = 8

abbrev pub hospitality : ℕ
hospitality = 9

abbrev pub certificate : ℕ
certificate = 10

abbrev pub short : ℕ
short = 11

-- of the identity 3, as Biology: an examination, one more, and another General; of 259 a General; of others the examinations of English and Mathematics
abbrev pub biology_examination : ℕ
biology_examination = 12

abbrev pub biology_again : ℕ
biology_again = 13

abbrev pub marine_biology : ℕ
marine_biology = 14

abbrev pub other259 : ℕ
other259 = 15

abbrev pub english_examination : ℕ
english_examination = 16

abbrev pub maths_examination : ℕ
maths_examination = 17

-- an extension that has the identity 3 too, which no catalogue may
abbrev pub biology_extension : ℕ
biology_extension = 18

abbrev pub catalogue : List ℕ
catalogue =
    1 ∷ 1 ∷ 0 ∷ 0 ∷ 1
    ∷ 1 ∷ 2 ∷ 0 ∷ 0 ∷ 2
    ∷ 1 ∷ 0 ∷ 0 ∷ 0 ∷ 3
    ∷ 1 ∷ 0 ∷ 0 ∷ 0 ∷ 4
    ∷ 1 ∷ 0 ∷ 0 ∷ 0 ∷ 5
    ∷ 2 ∷ 1 ∷ 0 ∷ 0 ∷ 0
    ∷ 2 ∷ 2 ∷ 0 ∷ 0 ∷ 0
    ∷ 4 ∷ 1 ∷ 0 ∷ 0 ∷ 0
    ∷ 4 ∷ 2 ∷ 0 ∷ 0 ∷ 0
    ∷ 4 ∷ 0 ∷ 0 ∷ 0 ∷ 0
    ∷ 6 ∷ 0 ∷ 3 ∷ 0 ∷ 0
    ∷ 5 ∷ 0 ∷ 0 ∷ 0 ∷ 0
    ∷ 3 ∷ 0 ∷ 0 ∷ 0 ∷ 3
    ∷ 3 ∷ 0 ∷ 0 ∷ 0 ∷ 3
    ∷ 1 ∷ 0 ∷ 0 ∷ 0 ∷ 3
    ∷ 1 ∷ 0 ∷ 0 ∷ 1 ∷ 3
    ∷ 3 ∷ 1 ∷ 0 ∷ 0 ∷ 6
    ∷ 3 ∷ 2 ∷ 0 ∷ 0 ∷ 7
    ∷ 2 ∷ 0 ∷ 0 ∷ 0 ∷ 3
    ∷ []

-- results of 2021, one to a subject; and their student
abbrev pub taken : List ℕ → List ℕ
taken [] = []
taken (subject ∷ more) = dated subject (when subject =? certificate then letter_y else letter_a) 1 2021 (taken more)

abbrev pub of2021 : List ℕ → Student
of2021 subjects = student catalogue 2021 (taken subjects)

-- a set of five subjects is admissible
abbrev pub five : ℕ → ℕ → ℕ → ℕ → ℕ → Bool
five a b c d e = admissible (of2021 (a ∷ b ∷ c ∷ d ∷ e ∷ [])) 31

-- at least four of them General: five, four and three, with Applied, with VET; kinds 2 and 3 count as General, a short course counts for nothing
pub four-generals : (five english maths biology chemistry physics ≡ true) × (five english biology chemistry physics hospitality ≡ true) × (five english biology chemistry physics certificate ≡ true)
    × (five english biology chemistry hospitality certificate ≡ false) × (five english more_maths chemistry physics hospitality ≡ true) × (five english biology_examination chemistry physics hospitality ≡ true)
    × (five english biology chemistry physics short ≡ false)
unfolding admissible kept usable_at usable first word ones_from sum_over count_over
four-generals = (refl, refl, refl, refl, refl, refl, refl)

-- not both a General and an Applied of strand 1: each kind that counts as General, in either order; the Applied alone, the General with an Applied of another strand, two Generals are admissible
pub strand_1 : (five english biology chemistry physics applied_english ≡ false) × (five applied_english biology chemistry physics english ≡ false) × (five more_english biology chemistry physics applied_english ≡ false)
    × (five english_examination biology chemistry physics applied_english ≡ false) × (five maths biology chemistry physics applied_english ≡ true) × (five english biology chemistry physics applied_maths ≡ true)
    × (five english more_english english_examination biology physics ≡ true)
unfolding admissible kept usable_at usable first word ones_from sum_over count_over
strand_1 = (refl, refl, refl, refl, refl, refl, refl)

-- not both of strand 2
pub strand_2 : (five maths biology chemistry physics applied_maths ≡ false) × (five applied_maths biology chemistry physics maths ≡ false) × (five more_maths biology chemistry physics applied_maths ≡ false)
    × (five maths_examination biology chemistry physics applied_maths ≡ false) × (five maths biology chemistry physics hospitality ≡ true) × (five maths more_maths maths_examination biology physics ≡ true)
unfolding admissible kept usable_at usable first word ones_from sum_over count_over
strand_2 = (refl, refl, refl, refl, refl, refl)

-- no two of kinds 1 or 3 with one identity: 1 and 3, 3 and 3, 1 and 1; 3 and 259 are two; kind 2 is free of it
pub identities : (five english biology biology_examination chemistry physics ≡ false) × (five biology_examination english chemistry physics biology ≡ false) × (five english biology_again biology_examination chemistry physics ≡ false)
    × (five english biology marine_biology chemistry physics ≡ false) × (five english biology other259 chemistry physics ≡ true) × (five english marine_biology maths chemistry physics ≡ true)
    × (five english more_english more_maths chemistry physics ≡ true) × (five english biology biology_extension chemistry physics ≡ true) × (five english biology_extension biology chemistry physics ≡ true)
unfolding admissible kept usable_at usable first word ones_from sum_over count_over
identities = (refl, refl, refl, refl, refl, refl, refl, refl, refl)

-- five results: of six all, five and four; of five one that is not there
abbrev pub six : List ℕ
six = english ∷ maths ∷ biology ∷ chemistry ∷ physics ∷ certificate ∷ []

pub fives : (admissible (of2021 six) 63 ≡ false) × (admissible (of2021 six) 31 ≡ true) × (admissible (of2021 six) 62 ≡ true) × (admissible (of2021 six) 15 ≡ false)
    × (admissible (of2021 (english ∷ maths ∷ biology ∷ chemistry ∷ physics ∷ [])) 47 ≡ false)
unfolding admissible kept usable_at usable first word ones_from sum_over count_over
fives = (refl, refl, refl, refl, refl)

-- kept results: Biology of two years, and four more of 2021; the later one, and not the earlier
abbrev pub repeats : ℕ → ℕ → Student
repeats early late = student catalogue 2021 (dated biology letter_a 1 early (dated biology letter_a 1 late (taken (english ∷ maths ∷ chemistry ∷ physics ∷ []))))

pub kept-only : (admissible (repeats 2020 2021) 61 ≡ false) × (admissible (repeats 2020 2021) 62 ≡ true) × (admissible (repeats 2021 2020) 61 ≡ true) × (admissible (repeats 2021 2020) 62 ≡ false)
    × (admissible (repeats 2012 2017) 62 ≡ true) × (admissible (repeats 2017 2018) 61 ≡ false) × (admissible (repeats 2018 2017) 62 ≡ false)
unfolding admissible kept usable_at usable first word ones_from sum_over count_over
kept-only = (refl, refl, refl, refl, refl, refl, refl)

-- a 16-bit number, bit i for result i
pub bits : (positions 0 ≡ []) × (positions 1 ≡ 0 ∷ []) × (positions 61 ≡ 0 ∷ 2 ∷ 3 ∷ 4 ∷ 5 ∷ []) × (positions 32768 ≡ 15 ∷ []) × (positions 63488 ≡ 11 ∷ 12 ∷ 13 ∷ 14 ∷ 15 ∷ [])
unfolding ones_from
bits = (refl, refl, refl, refl, refl)

-- the last five of sixteen results, and no set past 16 bits
abbrev pub sixteen : Student
sixteen = student catalogue 2021 (taken (replicate 11 short ++ (english ∷ maths ∷ biology ∷ chemistry ∷ physics ∷ [])))

pub sixteenth : (admissible sixteen 63488 ≡ true) × (admissible sixteen 31744 ≡ false) × (admissible (of2021 six) (31 + 2 ^ 16) ≡ false)
unfolding admissible kept usable_at usable first word ones_from sum_over count_over
sixteenth = (refl, refl, refl)

-- the sum of five scores, 0 to 5000000
pub sums : (comes_to (λ i. 0) 31 ≡ 0) × (comes_to (λ i. 1000000) 31 ≡ 5000000) × (comes_to (λ i. 10 ^ i) 61 ≡ 111101) × (comes_to (λ i. i) 63488 ≡ 65)
unfolding ones_from sum_over
sums = (refl, refl, refl, refl)

-- dictionary order of positions, and not the smaller number: 79 is 0, 1, 2, 3, 6, and 55 is 0, 1, 2, 4, 5
pub dictionary : (earlier (positions 79) (positions 55) ≡ true) × (earlier (positions 55) (positions 79) ≡ false) × (earlier (positions 31) (positions 47) ≡ true) × (earlier (positions 62) (positions 61) ≡ false)
    × (earlier (positions 31) (positions 31) ≡ false)
unfolding earlier ones_from
dictionary = (refl, refl, refl, refl, refl)

-- seven results that tie: Mathematics at 3 goes neither with Applied Mathematics at 4 nor with its examination, of no strand, at 5; so 0, 1, 2, 3, 6 comes first
abbrev pub tied : List ℕ
tied =
    1 ∷ 1 ∷ 0 ∷ 0 ∷ 1
    ∷ 1 ∷ 0 ∷ 0 ∷ 0 ∷ 2
    ∷ 1 ∷ 0 ∷ 0 ∷ 0 ∷ 3
    ∷ 1 ∷ 2 ∷ 0 ∷ 0 ∷ 4
    ∷ 4 ∷ 2 ∷ 0 ∷ 0 ∷ 0
    ∷ 3 ∷ 0 ∷ 0 ∷ 0 ∷ 4
    ∷ 1 ∷ 0 ∷ 0 ∷ 0 ∷ 5
    ∷ []

abbrev pub seven : Student
seven =
    student tied 2021
    (dated 0 letter_c 1 2021
    (dated 1 letter_c 1 2021 (dated 2 letter_c 1 2021 (dated 3 letter_c 1 2021 (dated 4 letter_c 0 2021 (dated 5 letter_c 1 2021 (dated 6 letter_c 1 2021 [])))))))

pub ties : (admissible seven 79 ≡ true) × (admissible seven 55 ≡ true) × (admissible seven 31 ≡ false) × (admissible seven 47 ≡ false) × (chosen (admissible seven) (λ set. 0) (2 ^ 7) ≡ one 79)
unfolding admissible kept usable_at usable first word ones_from sum_over count_over earlier chosen
ties = (refl, refl, refl, refl, refl)

-- and with all scores 0 an aggregate of 0
pub zeros : computed seven (replicate 2800 0) ≡ gives 0 79
unfolding first word long in_turn outside found slot_of ones_from sum_over count_over score_found score usable usable_at shows_english kept wrong unscored repeated admissible earlier chosen aggregate_of nearest
zeros = refl

-- 7 before 8; 8 with English alone
pub seven-before_eight : (computed (student tied 2021 (dated 1 letter_c 1 2021 [])) (replicate 2800 0) ≡ refused (7 at 0)) × (computed (student tied 2021 (dated 0 letter_c 1 2021 [])) (replicate 2800 0) ≡ refused (8 at 0))
unfolding first word long in_turn outside found slot_of ones_from sum_over count_over score_found score usable usable_at shows_english kept wrong unscored repeated admissible earlier chosen aggregate_of nearest
seven-before_eight = (refl, refl)

-- The rules of the best set before 8 and their order, computed: of two that are broken the one that stands first decides.
use Prim.Native.Nat.{ℕ, ◌/◌, ◌%◌}
use mathlib.Core.Path.{◌≡◌, refl}
use mathlib.Core.List.{List, [], ◌∷◌, ◌++◌}
use lib.ListN.{replicate}
use Rattle.paper.specs.Bytes.{word, long}
use Rattle.paper.specs.Lists.{first}
use Rattle.paper.specs.Rulings.{Outcome, accepted, refused, ◌at◌, in_turn, judged}
use Rattle.paper.specs.Letters.{letter_a, letter_c, letter_d, letter_n, letter_y}
use Rattle.catalogue.specs.Catalogue.{outside}
use Rattle.catalogue.proofs.ByHand.{biology, bad}
use Rattle.scores.specs.Scores.{found, slot_of}
use Rattle.results.specs.Results.{student}
use Rattle.results.specs.Scoring.{score_found}
use Rattle.results.specs.Counting.{usable, usable_at, shows_english}
use Rattle.sets.specs.Rules.{wrong, unscored, repeated, student_rules}
use Rattle.sets.specs.Promise.{ruling}

-- over 64 subjects before 11; 3 of the catalogue before 11; and whatever the table's length, before 14 and the rest
pub catalogue-first : (ruling (student (biology 64) 0 []) [] ≡ refused (11 at 0)) × (ruling (student (biology 65) 0 []) [] ≡ refused (2 at 64)) × (ruling (student bad 0 (0 ∷ [])) [] ≡ refused (3 at 0))
    × (ruling (student bad 2021 []) (replicate 400 0) ≡ refused (3 at 0)) × (ruling (student (1 ∷ []) 2021 []) [] ≡ refused (1 at 0))
unfolding first word outside
catalogue-first = (refl, refl, refl, refl, refl)

-- a table of another length than 400 bytes to a subject: with none, with one, with two subjects; one of 200 bytes to a subject; before the year
pub lengths : (ruling (student [] 2021 []) [] ≡ refused (7 at 0)) × (ruling (student [] 2021 []) (0 ∷ []) ≡ refused (11 at 0)) × (ruling (student (biology 1) 2021 []) (replicate 399 0) ≡ refused (11 at 0))
    × (ruling (student (biology 1) 2021 []) (replicate 400 0) ≡ refused (7 at 0)) × (ruling (student (biology 1) 2021 []) (replicate 401 0) ≡ refused (11 at 0))
    × (ruling (student (biology 2) 2021 []) (replicate 800 0) ≡ refused (7 at 0))
    × (ruling (student (biology 1) 2021 []) (replicate 200 0) ≡ refused (11 at 0)) × (ruling (student (biology 2) 2021 []) (replicate 400 0) ≡ refused (11 at 0))
    × (ruling (student (biology 1) 1983 []) (replicate 399 0) ≡ refused (11 at 0))
unfolding first word outside in_turn repeated usable_at shows_english usable
lengths = (refl, refl, refl, refl, refl, refl, refl, refl, refl)

-- the assessment year, 1984 to 9999, and not 65536 + 2021; before the results' 1 and 2
pub assessment_years : (ruling (student [] 0 []) [] ≡ refused (14 at 0)) × (ruling (student [] 1983 []) [] ≡ refused (14 at 0)) × (ruling (student [] 1984 []) [] ≡ refused (7 at 0))
    × (ruling (student [] 9999 []) [] ≡ refused (7 at 0)) × (ruling (student [] 10000 []) [] ≡ refused (14 at 0)) × (ruling (student [] 65535 []) [] ≡ refused (14 at 0))
    × (ruling (student [] 10000 (0 ∷ [])) [] ≡ refused (14 at 0)) × (ruling (student [] 1983 (replicate 102 0)) [] ≡ refused (14 at 0))
    × (ruling (student [] 67557 []) [] ≡ refused (14 at 0))
unfolding first word outside in_turn repeated usable_at shows_english usable
assessment_years = (refl, refl, refl, refl, refl, refl, refl, refl, refl)

-- results not whole, at the number of whole ones; over 16 of them; 16 are taken, of subjects that are not in the catalogue
pub result-bytes : (ruling (student [] 2021 (replicate 1 0)) [] ≡ refused (1 at 0)) × (ruling (student [] 2021 (replicate 5 0)) [] ≡ refused (1 at 0)) × (ruling (student [] 2021 (replicate 6 0)) [] ≡ refused (3 at 0))
    × (ruling (student [] 2021 (replicate 7 0)) [] ≡ refused (1 at 1)) × (ruling (student [] 2021 (replicate 96 0)) [] ≡ refused (3 at 0)) × (ruling (student [] 2021 (replicate 97 0)) [] ≡ refused (1 at 16))
    × (ruling (student [] 2021 (replicate 102 0)) [] ≡ refused (2 at 16)) × (ruling (student [] 2021 (replicate 103 0)) [] ≡ refused (1 at 17))
unfolding first word outside in_turn repeated usable_at shows_english usable wrong
result-bytes = (refl, refl, refl, refl, refl, refl, refl, refl)

-- English, another General, a Certificate III and a short course; each has scores in its slots 1 and 2 alone
abbrev pub row : List ℕ
row = 0 ∷ 0 ∷ 0 ∷ 100 ∷ 0 ∷ 0 ∷ 0 ∷ 200 ∷ replicate 392 255

abbrev pub in2021 : List ℕ → Outcome (Unit {0})
in2021 results = ruling (student (1 ∷ 1 ∷ 0 ∷ 0 ∷ 7 ∷ 1 ∷ 0 ∷ 0 ∷ 0 ∷ 8 ∷ 6 ∷ 0 ∷ 3 ∷ 0 ∷ 0 ∷ 5 ∷ 0 ∷ 0 ∷ 0 ∷ 0 ∷ []) 2021 results) (row ++ (row ++ (row ++ row)))

-- subject, letter, number, year, and more
abbrev pub took : ℕ → ℕ → ℕ → ℕ → List ℕ → List ℕ
took subject letter number year more = 0 ∷ subject ∷ letter ∷ number ∷ year / 256 ∷ year % 256 ∷ more

-- English C with a score; one with none; a letter that is none; a subject that is none
abbrev pub good : List ℕ → List ℕ
good more = took 0 letter_c 1 2021 more

abbrev pub slotless : List ℕ → List ℕ
slotless more = took 1 letter_c 3 2021 more

abbrev pub letterless : List ℕ → List ℕ
letterless more = took 1 70 1 2021 more

abbrev pub unknown : List ℕ → List ℕ
unknown more = took 4 letter_c 1 2021 more

-- of one result 3 before 4, and 4 before 5; a year of 1979 is 4, with no slot too, and one of 1980 with no slot is 5
pub one-result : (in2021 (took 4 70 1 2021 []) ≡ refused (3 at 0)) × (in2021 (took 4 letter_c 1 1979 []) ≡ refused (3 at 0)) × (in2021 (took 0 70 3 2021 []) ≡ refused (4 at 0)) × (in2021 (took 0 letter_c 0 2021 []) ≡ refused (4 at 0))
    × (in2021 (took 0 letter_c 101 2021 []) ≡ refused (4 at 0)) × (in2021 (took 0 letter_c 3 2021 []) ≡ refused (5 at 0)) × (in2021 (took 0 letter_c 3 1979 []) ≡ refused (4 at 0))
    × (in2021 (took 0 letter_c 3 1980 []) ≡ refused (5 at 0))
unfolding first word long outside in_turn repeated usable_at shows_english usable wrong unscored score_found found slot_of
one-result = (refl, refl, refl, refl, refl, refl, refl, refl)

-- subjects of the catalogue: the last of it, and one past it; one of 256 and more
pub subjects : (in2021 (took 3 letter_c 0 2021 []) ≡ refused (7 at 0)) × (in2021 (unknown []) ≡ refused (3 at 0)) × (in2021 (1 ∷ 0 ∷ letter_c ∷ 1 ∷ 7 ∷ 229 ∷ []) ≡ refused (3 at 0))
unfolding first word long outside in_turn repeated usable_at shows_english usable wrong unscored score_found found slot_of
subjects = (refl, refl, refl)

-- each result in turn: whatever the first breaks comes before what the second does
pub in_turn_lem : (in2021 (slotless (unknown [])) ≡ refused (5 at 0)) × (in2021 (slotless (letterless [])) ≡ refused (5 at 0)) × (in2021 (letterless (unknown [])) ≡ refused (4 at 0)) × (in2021 (unknown (slotless [])) ≡ refused (3 at 0))
    × (in2021 (letterless (slotless [])) ≡ refused (4 at 0)) × (in2021 (good (slotless (unknown []))) ≡ refused (5 at 1)) × (in2021 (unknown (unknown [])) ≡ refused (3 at 0))
unfolding first word long outside in_turn repeated usable_at shows_english usable wrong unscored score_found found slot_of
in_turn_lem = (refl, refl, refl, refl, refl, refl, refl)

-- 5 of a result that was replaced and has no slot, however old it is; with its slot it is accepted
pub replaced : (in2021 (took 0 letter_c 3 2020 (good [])) ≡ refused (5 at 0)) × (in2021 (took 0 letter_c 3 2016 (good [])) ≡ refused (5 at 0)) × (in2021 (good (took 0 letter_c 3 1980 [])) ≡ refused (5 at 1))
    × (in2021 (good (took 0 letter_c 2 1980 [])) ≡ accepted tt)
unfolding first word long outside in_turn repeated usable_at shows_english usable wrong unscored score_found found slot_of
replaced = (refl, refl, refl, refl)

-- 5 of any result before 6, of old ones too
pub five-before_six : (in2021 (slotless (slotless [])) ≡ refused (5 at 0)) × (in2021 (took 1 letter_c 1 2021 (slotless [])) ≡ refused (5 at 1)) × (in2021 (good (good (slotless []))) ≡ refused (5 at 2))
    × (in2021 (took 1 letter_c 1 1990 (took 1 letter_c 1 1990 (took 0 letter_c 3 1991 []))) ≡ refused (5 at 2))
unfolding first word long outside in_turn repeated usable_at shows_english usable wrong unscored score_found found slot_of
five-before_six = (refl, refl, refl, refl)

-- 6: two usable results of one subject and year, the later one, and of two such the lower; another year or subject, be its entry the same, a short course, VET with N are none;
-- of old years as of new ones, of VET too, and where a later result replaces both; 2040 and 2296, whose low bytes are the same, are two years
pub twice : (in2021 (good (good [])) ≡ refused (6 at 1)) × (in2021 (good (took 1 letter_c 1 2021 (took 1 letter_c 2 2021 (good [])))) ≡ refused (6 at 2)) × (in2021 (good (took 0 letter_c 1 2020 [])) ≡ accepted tt)
    × (in2021 (good (took 1 letter_c 1 2021 [])) ≡ accepted tt) × (in2021 (good (took 3 letter_c 0 2021 (took 3 letter_c 0 2021 []))) ≡ accepted tt)
    × (in2021 (good (took 2 letter_n 0 2021 (took 2 letter_n 0 2021 []))) ≡ accepted tt) × (in2021 (good (took 1 letter_c 1 2016 (took 1 letter_c 1 2016 []))) ≡ refused (6 at 2))
    × (in2021 (good (took 1 letter_c 1 1980 (took 1 letter_c 2 1980 []))) ≡ refused (6 at 2)) × (in2021 (good (took 1 letter_c 1 1980 (took 1 letter_c 2 1981 []))) ≡ accepted tt) × (in2021 (good (took 2 letter_y 0 2021 (took 2 letter_y 0 2021 []))) ≡ refused (6 at 2))
    × (in2021 (good (took 2 letter_y 0 2021 (took 2 letter_n 0 2021 []))) ≡ accepted tt) × (in2021 (good (took 2 letter_n 0 2021 (took 2 letter_y 0 2021 []))) ≡ accepted tt)
    × (ruling (student (biology 2) 2021 (took 0 letter_c 1 2021 (took 1 letter_c 1 2021 []))) (replicate 800 0) ≡ refused (7 at 0))
    × (in2021 (took 0 letter_c 1 2016 (took 0 letter_c 2 2016 (good []))) ≡ refused (6 at 1)) × (in2021 (good (took 2 letter_y 0 1990 (took 2 letter_y 0 1990 []))) ≡ refused (6 at 2))
    × (ruling (student (biology 1) 2300 (took 0 letter_c 1 2040 (took 0 letter_c 1 2296 []))) (replicate 400 0) ≡ refused (7 at 0))
unfolding first word long outside in_turn repeated usable_at shows_english usable wrong unscored score_found found slot_of
twice = (refl, refl, refl, refl, refl, refl, refl, refl, refl, refl, refl, refl, refl, refl, refl, refl)

-- 6 before 7, of old results too; and a student without English is well-formed
pub six-before_seven : (in2021 (took 0 letter_d 1 2021 (took 0 letter_d 1 2021 [])) ≡ refused (6 at 1)) × (in2021 (took 0 letter_d 1 1990 (took 0 letter_d 1 1990 [])) ≡ refused (6 at 1)) × (in2021 (took 0 letter_d 1 2021 []) ≡ refused (7 at 0)) × (in2021 (took 1 letter_a 1 2021 []) ≡ refused (7 at 0))
    × (judged (student_rules (student (biology 1) 2021 (took 0 letter_a 1 2021 [])) (replicate 400 0)) (tt {0}) ≡ accepted tt)
    × (ruling (student (biology 1) 2021 (took 0 letter_a 1 2021 [])) (replicate 400 0) ≡ refused (7 at 0))
unfolding first word long outside in_turn repeated usable_at shows_english usable wrong unscored score_found found slot_of
six-before_seven = (refl, refl, refl, refl, refl, refl)

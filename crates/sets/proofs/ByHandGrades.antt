-- Letters, numbers, years and slots of a result, computed: when it is refused 4, and when 5.
use Prim.Native.Nat.{ℕ}
use mathlib.Core.Path.{◌≡◌, refl}
use mathlib.Core.Bool.{Bool, true, false, not}
use mathlib.Core.List.{List, [], ◌∷◌}
use Rattle.paper.specs.Bytes.{word, long, word_bytes, long_bytes}
use Rattle.paper.specs.Lists.{listed}
use Rattle.paper.specs.Letters.{letter_a, letter_b, letter_c, letter_d, letter_e, letter_n, letter_y}
use Rattle.paper.specs.Limits.{missing}
use Rattle.catalogue.proofs.ByHandEntries.{those, bytes}
use Rattle.scores.specs.Scores.{found, slot_of}
use Rattle.scores.specs.Rows.{slots_from}
use Rattle.results.specs.Scoring.{score_found}
use Rattle.results.specs.Counting.{usable}
use Rattle.results.proofs.ByHandResults.{read}
use Rattle.sets.specs.Rules.{wrong, unscored}
use Rattle.sets.specs.Examples.{one_score}

-- kind, letter, number: right for the kind, of a result of 2021
abbrev pub right : ℕ → ℕ → ℕ → Bool
right kind letter number = not (wrong 2021 (read 0 letter number 2021 kind 0 0 0))

abbrev pub a_to_e : List ℕ
a_to_e = letter_a ∷ letter_b ∷ letter_c ∷ letter_d ∷ letter_e ∷ []

-- kinds 1 to 3: letter A to E, number 1 to 100
pub generals : (bytes (λ l. right 1 l 50) ≡ a_to_e) × (bytes (λ l. right 2 l 50) ≡ a_to_e) × (bytes (λ l. right 3 l 50) ≡ a_to_e) × (bytes (right 1 letter_a) ≡ listed 1 100 (λ n. n))
    × (bytes (right 2 letter_c) ≡ listed 1 100 (λ n. n)) × (bytes (right 3 letter_e) ≡ listed 1 100 (λ n. n))
unfolding wrong listed
generals = (refl, refl, refl, refl, refl, refl)

-- kinds 4 and 5: letter A to E, number 0
pub others : (bytes (λ l. right 4 l 0) ≡ a_to_e) × (bytes (λ l. right 5 l 0) ≡ a_to_e) × (bytes (right 4 letter_a) ≡ 0 ∷ []) × (bytes (right 4 letter_e) ≡ 0 ∷ []) × (bytes (right 5 letter_a) ≡ 0 ∷ [])
    × (bytes (right 5 letter_e) ≡ 0 ∷ [])
unfolding wrong
others = (refl, refl, refl, refl, refl, refl)

-- VET: Y or N, number 0
pub certificates : (bytes (λ l. right 6 l 0) ≡ letter_n ∷ letter_y ∷ []) × (bytes (right 6 letter_y) ≡ 0 ∷ []) × (bytes (right 6 letter_n) ≡ 0 ∷ [])
unfolding wrong
certificates = (refl, refl, refl)

-- assessment year, kind, letter, number, year: the year is right
abbrev pub dates : ℕ → ℕ → ℕ → ℕ → ℕ → Bool
dates year kind letter number own = not (wrong year (read 0 letter number own kind 0 0 0))

-- year 1980 to the assessment year, for each kind
pub years : (those 1970 60 (dates 2021 1 letter_a 50) ≡ listed 1980 42 (λ y. y)) × (those 1970 60 (dates 2021 2 letter_a 50) ≡ listed 1980 42 (λ y. y)) × (those 1970 60 (dates 2021 3 letter_a 50) ≡ listed 1980 42 (λ y. y))
    × (those 1970 60 (dates 2021 4 letter_a 0) ≡ listed 1980 42 (λ y. y)) × (those 1970 60 (dates 2021 5 letter_a 0) ≡ listed 1980 42 (λ y. y)) × (those 1970 60 (dates 2021 6 letter_n 0) ≡ listed 1980 42 (λ y. y))
unfolding wrong listed
years = (refl, refl, refl, refl, refl, refl)

-- in the first assessment year and the last
pub end_years : (those 1975 15 (dates 1984 1 letter_a 50) ≡ 1980 ∷ 1981 ∷ 1982 ∷ 1983 ∷ 1984 ∷ []) × (dates 9999 1 letter_a 50 1980 ≡ true) × (dates 9999 1 letter_a 50 9999 ≡ true) × (dates 9999 1 letter_a 50 10000 ≡ false)
unfolding wrong
end_years = (refl, refl, refl, refl)

-- what the slot holds, kind, level, letter, number, year: a usable result without a score
abbrev pub lacks : ℕ → ℕ → ℕ → ℕ → ℕ → ℕ → Bool
lacks value kind level letter number year = unscored (one_score 1 value) (read 0 letter number year kind 0 level 0)

-- a missing slot or one over 1000000: a General of number 1, a Certificate III with Y
pub slots-lacking : (lacks 0 1 0 letter_a 1 2021 ≡ false) × (lacks 1000000 1 0 letter_a 1 2021 ≡ false) × (lacks 1000001 1 0 letter_a 1 2021 ≡ true) × (lacks 4294967294 1 0 letter_a 1 2021 ≡ true)
    × (lacks missing 1 0 letter_a 1 2021 ≡ true) × (lacks 1000000 6 3 letter_y 0 2021 ≡ false) × (lacks 1000001 6 3 letter_y 0 2021 ≡ true) × (lacks missing 6 3 letter_y 0 2021 ≡ true)
unfolding slots_from word_bytes long_bytes unscored usable score_found found slot_of word long
slots-lacking = (refl, refl, refl, refl, refl, refl, refl, refl)

-- its own slot: of Generals of number 1 and 2, and of an Applied A, where slot 1 alone has a score
pub own-slot : (lacks 500000 2 0 letter_a 1 2021 ≡ false) × (lacks 500000 2 0 letter_a 2 2021 ≡ true) × (lacks 500000 3 0 letter_a 1 2021 ≡ false) × (lacks 500000 3 0 letter_a 100 2021 ≡ true) × (lacks 500000 4 0 letter_a 0 2021 ≡ true)
unfolding slots_from word_bytes long_bytes unscored usable score_found found slot_of word long
own-slot = (refl, refl, refl, refl, refl)

-- asked of usable results only: not of a short course, of VET with N, of a Certificate II; of a General of any year, of 2021, 2016 and 1980, of an Applied
-- and a Certificate III of 1990
pub usable-only : (lacks missing 5 0 letter_a 0 2021 ≡ false) × (lacks missing 6 3 letter_n 0 2021 ≡ false) × (lacks missing 6 2 letter_y 0 2021 ≡ false) × (lacks missing 1 0 letter_a 1 2021 ≡ true)
    × (lacks missing 1 0 letter_a 1 2016 ≡ true) × (lacks missing 1 0 letter_a 1 1980 ≡ true) × (lacks 500000 1 0 letter_a 1 1980 ≡ false)
    × (lacks missing 4 0 letter_a 0 1990 ≡ true) × (lacks missing 6 3 letter_y 0 1990 ≡ true) × (lacks 500000 6 3 letter_y 0 1990 ≡ false)
unfolding slots_from word_bytes long_bytes unscored usable score_found found slot_of word long
usable-only = (refl, refl, refl, refl, refl, refl, refl, refl, refl, refl)

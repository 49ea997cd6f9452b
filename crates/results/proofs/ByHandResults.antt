-- Results, computed: how they are read, and what they score.
use Prim.Native.Nat.{ℕ, ◌*◌}
use mathlib.Core.Path.{◌≡◌, refl}
use mathlib.Core.List.{List, [], ◌∷◌, ◌++◌}
use lib.ListN.{replicate}
use Rattle.paper.specs.Bytes.{word, long, word_bytes, long_bytes}
use Rattle.paper.specs.Lists.{listed}
use Rattle.paper.specs.Letters.{letter_a, letter_b, letter_c, letter_d, letter_e, letter_y}
use Rattle.catalogue.proofs.ByHandEntries.{two, entry_of}
use Rattle.scores.specs.Scores.{scaled, absent, too_high, found, slot_of}
use Rattle.scores.specs.Rows.{slots_from, row_of}
use Rattle.results.specs.Results.{held_in, result_of}
use Rattle.results.specs.Scoring.{score_found, worth, score, own_identity}
use Rattle.results.specs.declared.reading.StudentResult.{StudentResult}

-- 6 bytes: subject (two), letter, number, year (two); the subject is its place in the catalogue from 0
abbrev pub pair : List ℕ
pair = 1 ∷ 2 ∷ 3 ∷ 4 ∷ 5 ∷ 6 ∷ 0 ∷ 1 ∷ 9 ∷ 10 ∷ 11 ∷ 12 ∷ []

abbrev pub read : ℕ → ℕ → ℕ → ℕ → ℕ → ℕ → ℕ → ℕ → StudentResult
read subject letter number year kind strand level identity = record { subject = subject; letter = letter; number = number; year = year; entry = entry_of kind strand level identity }

pub fields : (result_of two pair 0 ≡ read 258 3 4 1286 0 0 0 0) × (result_of two pair 1 ≡ read 1 9 10 2828 6 7 8 2314) × (result_of two (replicate 6 0) 0 ≡ read 0 0 0 0 1 2 3 1029)
unfolding word
fields = (refl, refl, refl)

-- how many whole results there are
pub whole : (held_in (replicate 5 0) ≡ 0) × (held_in (replicate 6 0) ≡ 1) × (held_in (replicate 11 0) ≡ 1) × (held_in (replicate 12 0) ≡ 2)
whole = (refl, refl, refl, refl)

-- a table of two rows: slot j holds j in the first, 10000 j in the second
abbrev pub table : List ℕ
table = row_of (λ j. j) ++ row_of (λ j. 10000 * j)

-- kind, letter, number: the score of a result of the first subject, and of the second
abbrev pub own_score : ℕ → ℕ → ℕ → ℕ
own_score kind letter number = score table (read 0 letter number 2021 kind 0 0 0)

abbrev pub second_score : ℕ → ℕ → ℕ → ℕ
second_score kind letter number = score table (read 1 letter number 2021 kind 0 0 0)

-- General by its number
pub general-scores : (own_score 1 letter_e 85 ≡ 85) × (own_score 2 letter_e 85 ≡ 85) × (own_score 3 letter_e 85 ≡ 85) × (own_score 1 letter_a 1 ≡ 1) × (own_score 1 letter_a 100 ≡ 100) × (second_score 1 letter_a 100 ≡ 1000000)
    × (second_score 3 letter_a 1 ≡ 10000)
unfolding score score_found found slot_of word long word_bytes long_bytes slots_from
general-scores = (refl, refl, refl, refl, refl, refl, refl)

-- Applied A to E, VET
pub other-scores : (own_score 4 letter_a 0 ≡ 90) × (own_score 4 letter_b 0 ≡ 70) × (own_score 4 letter_c 0 ≡ 50) × (own_score 4 letter_d 0 ≡ 30) × (own_score 4 letter_e 0 ≡ 10) × (own_score 6 letter_y 0 ≡ 1)
    × (second_score 4 letter_b 0 ≡ 700000) × (second_score 6 letter_y 0 ≡ 10000)
unfolding score score_found found slot_of word long word_bytes long_bytes slots_from
other-scores = (refl, refl, refl, refl, refl, refl, refl, refl)

-- 0 where there is no score
pub unworthy : (worth absent ≡ 0) × (worth too_high ≡ 0) × (worth (scaled 1000000) ≡ 1000000)
unworthy = (refl, refl, refl)

-- one table serves all years
pub all_years_lem : (score table (read 1 letter_a 85 1980 1 0 0 1) ≡ 850000) × (score table (read 1 letter_a 85 2021 1 0 0 1) ≡ 850000) × (score table (read 1 letter_a 85 9999 1 0 0 1) ≡ 850000)
unfolding score score_found found slot_of word long word_bytes long_bytes slots_from
all_years_lem = (refl, refl, refl)

-- the identity of a result of kinds 1 or 3: of the kinds from 0 to 7; of two bytes
abbrev pub identity_of : ℕ → ℕ → ℕ
identity_of identity kind = own_identity (read 0 letter_a 50 2021 kind 0 0 identity)

pub identities : (listed 0 8 (identity_of 7) ≡ 0 ∷ 7 ∷ 0 ∷ 7 ∷ 0 ∷ 0 ∷ 0 ∷ 0 ∷ []) × (identity_of 256 1 ≡ 256) × (identity_of 65535 3 ≡ 65535)
unfolding own_identity listed
identities = (refl, refl, refl)

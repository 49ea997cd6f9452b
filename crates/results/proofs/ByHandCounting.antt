-- Which results count, computed: usable, English, kept.
use Prim.Native.Nat.{ℕ, ◌/◌, ◌%◌}
use mathlib.Core.Path.{◌≡◌, refl}
use mathlib.Core.Bool.{Bool, true, false}
use mathlib.Core.List.{List, [], ◌∷◌}
use Rattle.paper.specs.Bytes.{word}
use Rattle.paper.specs.Lists.{first, listed}
use Rattle.paper.specs.Letters.{letter_a, letter_b, letter_c, letter_d, letter_e, letter_n, letter_y}
use Rattle.catalogue.proofs.ByHandEntries.{those, bytes}
use Rattle.results.specs.Results.{Student, student, held}
use Rattle.results.specs.Counting.{usable, passes, shows_english, usable_at, kept}
use Rattle.results.specs.declared.reading.StudentResult.{StudentResult}
use Rattle.results.proofs.ByHandResults.{read}

-- kind, strand, level, letter, year: a result
abbrev pub made : ℕ → ℕ → ℕ → ℕ → ℕ → StudentResult
made kind strand level letter year = read 0 letter 0 year kind strand level 0

-- kind, level, letter: a result of 2021 is usable
abbrev pub counts : ℕ → ℕ → ℕ → Bool
counts kind level letter = usable (made kind 0 level letter 2021)

-- the same, of a year
abbrev pub of_year : ℕ → ℕ → ℕ → ℕ → Bool
of_year kind level letter year = usable (made kind 0 level letter year)

-- kinds 1 to 4, with any letter; of the others VET alone, with Y and level 3 or more
pub kinds : (bytes (λ k. counts k 0 letter_a) ≡ 1 ∷ 2 ∷ 3 ∷ 4 ∷ []) × (bytes (λ k. counts k 0 letter_e) ≡ 1 ∷ 2 ∷ 3 ∷ 4 ∷ []) × (bytes (λ k. counts k 3 letter_y) ≡ 1 ∷ 2 ∷ 3 ∷ 4 ∷ 6 ∷ [])
unfolding usable
kinds = (refl, refl, refl)

-- VET: Y and not N; level 3 or more
pub certificates : (bytes (counts 6 3) ≡ letter_y ∷ []) × (bytes (counts 6 6) ≡ letter_y ∷ []) × (those 0 7 (λ l. counts 6 l letter_y) ≡ 3 ∷ 4 ∷ 5 ∷ 6 ∷ []) × (those 0 7 (λ l. counts 6 l letter_n) ≡ [])
unfolding usable
certificates = (refl, refl, refl, refl)

-- of any year, for each kind: 1980 to 2021, and 9999
abbrev pub years : (ℕ → Bool) → List ℕ
years right = those 1980 42 right

abbrev pub all_years : List ℕ
all_years = listed 1980 42 (λ y. y)

pub any_year : (years (of_year 1 0 letter_a) ≡ all_years) × (years (of_year 2 0 letter_a) ≡ all_years) × (years (of_year 3 0 letter_a) ≡ all_years) × (years (of_year 4 0 letter_a) ≡ all_years)
    × (years (of_year 6 3 letter_y) ≡ all_years) × (of_year 1 0 letter_a 9999 ≡ true)
unfolding usable listed
any_year = (refl, refl, refl, refl, refl, refl)

-- English: letter A, B or C, for each usable kind, Applied too
pub letters : (bytes (λ l. passes (made 1 1 0 l 2021)) ≡ letter_a ∷ letter_b ∷ letter_c ∷ []) × (bytes (λ l. passes (made 2 1 0 l 2021)) ≡ letter_a ∷ letter_b ∷ letter_c ∷ [])
    × (bytes (λ l. passes (made 3 1 0 l 2021)) ≡ letter_a ∷ letter_b ∷ letter_c ∷ []) × (bytes (λ l. passes (made 4 1 0 l 2021)) ≡ letter_a ∷ letter_b ∷ letter_c ∷ [])
unfolding usable
letters = (refl, refl, refl, refl)

-- strand 1; usable, by its kind; from any year
pub english : (bytes (λ s. passes (made 1 s 0 letter_a 2021)) ≡ 1 ∷ []) × (bytes (λ s. passes (made 4 s 0 letter_c 2021)) ≡ 1 ∷ []) × (bytes (λ k. passes (made k 1 0 letter_c 2021)) ≡ 1 ∷ 2 ∷ 3 ∷ 4 ∷ [])
    × (years (λ y. passes (made 1 1 0 letter_c y)) ≡ all_years) × (years (λ y. passes (made 2 1 0 letter_c y)) ≡ all_years) × (years (λ y. passes (made 3 1 0 letter_c y)) ≡ all_years)
    × (years (λ y. passes (made 4 1 0 letter_c y)) ≡ all_years)
unfolding usable listed
english = (refl, refl, refl, refl, refl, refl, refl)

-- subjects of a small catalogue: English, its external examination, a Certificate III, a short course, another Certificate III
abbrev pub general : ℕ
general = 0

abbrev pub examination : ℕ
examination = 1

abbrev pub certificate : ℕ
certificate = 2

abbrev pub short : ℕ
short = 3

abbrev pub another : ℕ
another = 4

abbrev pub in2021 : List ℕ → Student
in2021 results = student (1 ∷ 1 ∷ 0 ∷ 0 ∷ 7 ∷ 3 ∷ 0 ∷ 0 ∷ 0 ∷ 7 ∷ 6 ∷ 0 ∷ 3 ∷ 0 ∷ 0 ∷ 5 ∷ 0 ∷ 0 ∷ 0 ∷ 0 ∷ 6 ∷ 0 ∷ 3 ∷ 0 ∷ 0 ∷ []) 2021 results

-- subject, letter, year, and more
abbrev pub took : ℕ → ℕ → ℕ → List ℕ → List ℕ
took subject letter year more = 0 ∷ subject ∷ letter ∷ 50 ∷ year / 256 ∷ year % 256 ∷ more

-- English is shown by some result, whichever, from any year; a result since repeated still serves; one that is not usable does not
pub shown : (shows_english (in2021 []) ≡ false) × (shows_english (in2021 (took general letter_c 2021 (took examination letter_a 2021 []))) ≡ true)
    × (shows_english (in2021 (took examination letter_a 2021 (took examination letter_a 2020 (took general letter_c 2021 [])))) ≡ true)
    × (shows_english (in2021 (took examination letter_a 2021 (took general letter_d 2021 []))) ≡ false) × (shows_english (in2021 (took general letter_c 2020 (took general letter_e 2021 []))) ≡ true)
    × (shows_english (in2021 (took general letter_c 2016 (took general letter_e 2021 []))) ≡ true) × (shows_english (in2021 (took general letter_c 1980 (took examination letter_e 2021 []))) ≡ true)
    × (shows_english (in2021 (took general letter_d 1990 (took short letter_a 2021 []))) ≡ false)
unfolding usable shows_english first word
shown = (refl, refl, refl, refl, refl, refl, refl, refl)

-- the positions of the results that are kept
abbrev pub keeps : List ℕ → List ℕ
keeps results = those 0 (held (in2021 results)) (kept (in2021 results))

-- a usable result, however old; a later usable one of the same subject replaces it, whichever comes first and however much later; in the same year neither does
pub kept-latest : (keeps (took general letter_a 2021 []) ≡ 0 ∷ []) × (keeps (took general letter_a 1980 []) ≡ 0 ∷ []) × (keeps (took general letter_a 2020 (took general letter_e 2021 [])) ≡ 1 ∷ [])
    × (keeps (took general letter_a 2021 (took general letter_e 2020 [])) ≡ 0 ∷ []) × (keeps (took general letter_a 2019 (took general letter_a 2021 (took general letter_a 2020 []))) ≡ 1 ∷ [])
    × (keeps (took general letter_a 2021 (took general letter_e 2021 [])) ≡ 0 ∷ 1 ∷ []) × (keeps (took general letter_a 2017 (took general letter_e 2021 [])) ≡ 1 ∷ [])
    × (keeps (took general letter_a 2016 (took general letter_e 2021 [])) ≡ 1 ∷ []) × (keeps (took general letter_e 2021 (took general letter_a 2012 [])) ≡ 0 ∷ [])
    × (keeps (took general letter_a 1980 (took general letter_e 1985 (took general letter_a 1984 []))) ≡ 1 ∷ []) × (keeps (took general letter_a 1980 (took general letter_e 2021 [])) ≡ 1 ∷ [])
    × (keeps (took general letter_a 2047 (took general letter_e 2048 [])) ≡ 1 ∷ [])
unfolding usable usable_at kept first word
kept-latest = (refl, refl, refl, refl, refl, refl, refl, refl, refl, refl, refl, refl)

-- a later result that is not usable does not replace it: VET with N; nor does one of another subject, be it its external examination
-- or its entry the same
pub kept-still : (keeps (took certificate letter_y 2020 (took certificate letter_n 2021 [])) ≡ 0 ∷ []) × (keeps (took certificate letter_n 2020 (took certificate letter_y 2021 [])) ≡ 1 ∷ [])
    × (keeps (took certificate letter_y 2020 (took certificate letter_y 2021 [])) ≡ 1 ∷ [])
    × (keeps (took general letter_a 2020 (took examination letter_a 2021 [])) ≡ 0 ∷ 1 ∷ []) × (keeps (took short letter_a 2020 (took general letter_a 2020 (took short letter_a 2021 []))) ≡ 1 ∷ [])
    × (keeps (took certificate letter_y 2020 (took another letter_y 2021 [])) ≡ 0 ∷ 1 ∷ [])
unfolding usable usable_at kept first word
kept-still = (refl, refl, refl, refl, refl, refl)

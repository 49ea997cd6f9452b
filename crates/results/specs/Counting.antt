-- Which results count: usable, English, kept.
use Rattle.std.specs.Prelude.{ℕ, Bool, not, ◌&&◌, ◌||◌}
use Rattle.paper.specs.Letters.{letter_a, letter_c, letter_y}
use Rattle.paper.specs.Lists.{some}
use Rattle.paper.specs.Ranges.{within}
use Rattle.paper.specs.Words.{◌≤?◌, ◌<?◌, ◌=?◌}
use Rattle.catalogue.specs.Kinds.{english, certificate_iii, is_general, is_applied, is_vet}
use Rattle.results.specs.Results.{Student, held, result}
use Rattle.results.specs.declared.reading.StudentResult.{StudentResult}

-- kinds 1 to 3 count as General
abbrev pub of_general : StudentResult → Bool
of_general r = is_general r.entry.kind

abbrev pub of_applied : StudentResult → Bool
of_applied r = is_applied r.entry.kind

abbrev pub of_strand : ℕ → StudentResult → Bool
of_strand strand r = r.entry.strand =? strand

-- the same of result i
abbrev pub general_at : Student → ℕ → Bool
general_at s i = of_general (result s i)

abbrev pub applied_at : Student → ℕ → Bool
applied_at s i = of_applied (result s i)

abbrev pub strand_at : ℕ → Student → ℕ → Bool
strand_at strand s i = of_strand strand (result s i)

-- usable: kinds 1 to 4, or VET with Y and level 3 or more; of any year
unfoldable pub usable : StudentResult → Bool
usable r = of_general r || (of_applied r || (is_vet r.entry.kind && (r.letter =? letter_y && certificate_iii ≤? r.entry.level)))

-- a usable result with strand 1 and letter A, B or C
abbrev pub passes : StudentResult → Bool
passes r = usable r && (of_strand english r && within letter_a letter_c r.letter)

abbrev pub passes_at : Student → ℕ → Bool
passes_at s i = passes (result s i)

-- English: some usable result with strand 1 has letter A, B or C
unfoldable pub shows_english : Student → Bool
shows_english s = some (held s) (passes_at s)

-- result i is one of the student's, and usable
unfoldable pub usable_at : Student → ℕ → Bool
usable_at s i = i <? held s && usable (result s i)

-- result j is usable, of the same subject as result i
abbrev pub same_subject : Student → ℕ → ℕ → Bool
same_subject s i j = usable_at s j && (result s j).subject =? (result s i).subject

-- and in a later year
abbrev pub later : Student → ℕ → ℕ → Bool
later s i j = same_subject s i j && (result s i).year <? (result s j).year

-- kept: a usable result with no usable result of the same subject in a later year
unfoldable pub kept : Student → ℕ → Bool
kept s i = usable_at s i && not (some (held s) (later s i))

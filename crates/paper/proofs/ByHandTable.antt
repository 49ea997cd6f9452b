-- The table of refusals, the paper's widths and limits, and numbers at the ends of their ranges, computed.
use mathlib.Core.Path.{◌≡◌, refl}
use mathlib.Core.Bool.{true, false}
use mathlib.Core.List.{[], ◌∷◌}
use Rattle.paper.specs.Limits.{entry_bytes, result_bytes, figure_bytes, most_subjects, most_results, slots, slot_bytes, row_bytes, missing, missing_byte, whole_score, score_parts, top_score, most_count, members, least_general, most_span, most_aggregate, first_year, least_year, most_year, figure_count, most_figure, most_population, least_rate, most_rate, top_band, band_count, most_entry, most_students, most_tallied, most_values, tally_count, most_bytes, catalogue_bytes, most_slots, table_bytes, results_bytes, top_school, school_count, most_listed, standing_count, most_standing}
use Rattle.paper.specs.Units.{hundredths}
use Rattle.paper.specs.Letters.{letter_a, letter_b, letter_c, letter_d, letter_e, letter_n, letter_y}
use Rattle.paper.specs.Ranges.{within}
use Rattle.paper.specs.Rounding.{nearest}
use Rattle.paper.specs.Bytes.{word, long, word_bytes, long_bytes}
use Rattle.paper.specs.Rulings.{◌at◌}
use Rattle.paper.specs.Refusals.{fault}
use Rattle.paper.specs.declared.refusal.Refusal.TheVariants.{Malformed, TooMany, WrongSubject, WrongResult, WrongScore, Again, NoSet, WrongAggregate, WrongEntry, WrongYear, WrongCount}

-- the table of refusals, by number: those that are not in ByHand; 8 has its own place
pub numbers :
    (fault (Malformed 40) ≡ 1 at 40)
    × (fault (TooMany 40) ≡ 2 at 40)
    × (fault (WrongSubject 40) ≡ 3 at 40)
    × (fault (WrongResult 40) ≡ 4 at 40)
    × (fault (WrongScore 40) ≡ 5 at 40)
    × (fault (Again 40) ≡ 6 at 40)
    × (fault NoSet ≡ 8 at 0)
    × (fault (WrongAggregate 40) ≡ 12 at 40)
    × (fault (WrongEntry 40) ≡ 13 at 40)
    × (fault (WrongYear 40) ≡ 14 at 40)
    × (fault (WrongCount 40) ≡ 15 at 40)
numbers = (refl, refl, refl, refl, refl, refl, refl, refl, refl, refl, refl)

-- a catalogue entry is 5 bytes, a result 6, a figure 4; 100 slots of 32 bits per subject, 400 bytes; 4294967295 means missing, and each of its
-- four bytes is 255
pub widths : (entry_bytes ≡ 5) × (result_bytes ≡ 6) × (figure_bytes ≡ 4) × (slots ≡ 100) × (slot_bytes ≡ 4) × (row_bytes ≡ 400) × (missing ≡ 4294967295)
    × (long_bytes missing ≡ missing_byte ∷ missing_byte ∷ missing_byte ∷ missing_byte ∷ []) × (missing_byte ≡ 255)
unfolding word_bytes long_bytes
widths = (refl, refl, refl, refl, refl, refl, refl, refl, refl)

-- 64 subjects, 16 results a student, 512 students in a file or by direct count, 100000 by tally, 65536 file bytes; and the buffers that hold them
pub limits :
    (most_subjects ≡ 64)
    × (most_results ≡ 16)
    × (most_students ≡ 512)
    × (most_tallied ≡ 100000)
    × (most_values ≡ 100000)
    × (most_bytes ≡ 65536)
    × (catalogue_bytes ≡ 320)
    × (most_slots ≡ 6400)
    × (table_bytes ≡ 25600)
    × (results_bytes ≡ 49152)
limits = (refl, refl, refl, refl, refl, refl, refl, refl, refl, refl)

-- five of a set, four of them General, a latest year of at most four more than the earliest; scores in ten-thousandths, to 1000000, an aggregate in
-- hundredths to 50000, 50001 counts; students at a result to 1000000
pub sets : (members ≡ 5) × (least_general ≡ 4) × (most_span ≡ 4) × (whole_score ≡ 100) × (score_parts ≡ 10000) × (top_score ≡ 1000000) × (hundredths ≡ 100) × (most_aggregate ≡ 50000)
    × (tally_count ≡ 50001) × (most_count ≡ 1000000)
sets = (refl, refl, refl, refl, refl, refl, refl, refl, refl, refl)

-- results from 1980, assessment years 1984 to 9999
pub years : (first_year ≡ 1980) × (least_year ≡ 1984) × (most_year ≡ 9999)
years = (refl, refl, refl)

-- Q and E for ages 16 to 20, to 1000000, Y to 1000000, r 2500 to 7500; bands 0 to 1999, 2000 entries in millionths
pub population : (figure_count ≡ 10) × (most_figure ≡ 1000000) × (most_population ≡ 1000000) × (least_rate ≡ 2500) × (most_rate ≡ 7500) × (top_band ≡ 1999) × (band_count ≡ 2000) × (most_entry ≡ 1000000)
population = (refl, refl, refl, refl, refl, refl, refl, refl)

-- schools 0 to 127; a list of at most 100000, beside 128 rows of 2000 counts, to 4294967295
pub schools : (top_school ≡ 127) × (school_count ≡ 128) × (most_listed ≡ 100000) × (standing_count ≡ 256000) × (most_standing ≡ 4294967295)
schools = (refl, refl, refl, refl, refl)

-- the letters by their codes
pub letters : (letter_a ≡ 65) × (letter_b ≡ 66) × (letter_c ≡ 67) × (letter_d ≡ 68) × (letter_e ≡ 69) × (letter_n ≡ 78) × (letter_y ≡ 89)
letters = (refl, refl, refl, refl, refl, refl, refl)

-- from 3 to 5: both ends are within, what is next to them is not
pub ranges : (within 3 5 2 ≡ false) × (within 3 5 3 ≡ true) × (within 3 5 4 ≡ true) × (within 3 5 5 ≡ true) × (within 3 5 6 ≡ false)
ranges = (refl, refl, refl, refl, refl)

-- to the nearest whole, halves up: 0, just below a half, a half, just below one and a half, one and a half, 1
pub halves : (nearest 0 7 ≡ 0) × (nearest 49 100 ≡ 0) × (nearest 50 100 ≡ 1) × (nearest 149 100 ≡ 1) × (nearest 150 100 ≡ 2) × (nearest 7 7 ≡ 1)
unfolding nearest
halves = (refl, refl, refl, refl, refl, refl)

-- all numbers are big-endian: the greatest of two bytes and of four, and those at which another byte begins
pub ends :
    (word (255 ∷ 255 ∷ []) 0 ≡ 65535)
    × (word (1 ∷ 0 ∷ []) 0 ≡ 256)
    × (long (255 ∷ 255 ∷ 255 ∷ 255 ∷ []) 0 ≡ 4294967295)
    × (long (1 ∷ 0 ∷ 0 ∷ 0 ∷ []) 0 ≡ 16777216)
    × (long (0 ∷ 1 ∷ 0 ∷ 0 ∷ []) 0 ≡ 65536)
    × (word_bytes 255 ≡ 0 ∷ 255 ∷ [])
    × (word_bytes 65535 ≡ 255 ∷ 255 ∷ [])
    × (long_bytes 65535 ≡ 0 ∷ 0 ∷ 255 ∷ 255 ∷ [])
    × (long_bytes 65536 ≡ 0 ∷ 1 ∷ 0 ∷ 0 ∷ [])
unfolding word long word_bytes long_bytes
ends = (refl, refl, refl, refl, refl, refl, refl, refl, refl)

-- The paper's widths, limits and tops, each by one name; what is a product of others is derived from them.
use Rattle.std.specs.Prelude.{ℕ, ◌+◌, ◌*◌, ◌%◌}
use Rattle.paper.specs.Units.{hundredths, ten_thousandths}

-- the bytes of a catalogue entry, of a result, of a figure; the subjects of a catalogue, the results of a student
abbrev pub entry_bytes : ℕ
entry_bytes = 5

abbrev pub result_bytes : ℕ
result_bytes = 6

abbrev pub figure_bytes : ℕ
figure_bytes = 4

abbrev pub most_subjects : ℕ
most_subjects = 64

abbrev pub most_results : ℕ
most_results = 16

-- the score table: the slots of a row, the bytes of a slot and of a row, what a missing slot holds and each byte of it; the greatest
-- score, 100; the parts of one in which scores are, and the greatest score in these
abbrev pub slots : ℕ
slots = 100

abbrev pub slot_bytes : ℕ
slot_bytes = 4

abbrev pub row_bytes : ℕ
row_bytes = slots * slot_bytes

abbrev pub missing : ℕ
missing = 4294967295

abbrev pub missing_byte : ℕ
missing_byte = missing % 256

abbrev pub whole_score : ℕ
whole_score = 100

abbrev pub score_parts : ℕ
score_parts = ten_thousandths

abbrev pub top_score : ℕ
top_score = whole_score * score_parts

-- the greatest count of students at a result, and of all in a subject
abbrev pub most_count : ℕ
most_count = 1000000

-- the members of a set, the Generals that it has at least, the years by which its latest may exceed its earliest, and the greatest aggregate,
-- five times the greatest score, in hundredths
abbrev pub members : ℕ
members = 5

abbrev pub least_general : ℕ
least_general = 4

abbrev pub most_span : ℕ
most_span = 4

abbrev pub most_aggregate : ℕ
most_aggregate = members * whole_score * hundredths

-- the first year of a result, and the assessment years
abbrev pub first_year : ℕ
first_year = 1980

abbrev pub least_year : ℕ
least_year = 1984

abbrev pub most_year : ℕ
most_year = 9999

-- the ages 16 to 20, the figures Q and E of each, the greatest figure, the greatest Y, and the rates in ten-thousandths
abbrev pub ages : ℕ
ages = 5

abbrev pub figure_count : ℕ
figure_count = 2 * ages

abbrev pub most_figure : ℕ
most_figure = 1000000

abbrev pub most_population : ℕ
most_population = 1000000

abbrev pub least_rate : ℕ
least_rate = 2500

abbrev pub most_rate : ℕ
most_rate = 7500

-- the bands, of which the top is 1999
abbrev pub top_band : ℕ
top_band = 1999

abbrev pub band_count : ℕ
band_count = top_band + 1

-- the hundredths of an ATAR from a band to the next
abbrev pub band_step : ℕ
band_step = 5

-- the greatest participation entry in millionths
abbrev pub most_entry : ℕ
most_entry = 1000000

-- the students of a file or by direct count, those by tally, the values that are ranked, and the counts of a tally
abbrev pub most_students : ℕ
most_students = 512

abbrev pub most_tallied : ℕ
most_tallied = 100000

abbrev pub most_values : ℕ
most_values = 100000

abbrev pub tally_count : ℕ
tally_count = most_aggregate + 1

-- the schools, numbered from 0; the students that a list holds at most, the entries of the summary beside it, one to each band of each school, and
-- the greatest count that an entry holds
abbrev pub top_school : ℕ
top_school = 127

abbrev pub school_count : ℕ
school_count = top_school + 1

abbrev pub most_listed : ℕ
most_listed = 100000

abbrev pub standing_count : ℕ
standing_count = school_count * band_count

abbrev pub most_standing : ℕ
most_standing = 4294967295

-- the bytes that a file has at most; a whole catalogue, the slots of a whole table and its bytes, and all results of a file
abbrev pub most_bytes : ℕ
most_bytes = 65536

abbrev pub catalogue_bytes : ℕ
catalogue_bytes = most_subjects * entry_bytes

abbrev pub most_slots : ℕ
most_slots = most_subjects * slots

abbrev pub table_bytes : ℕ
table_bytes = most_subjects * row_bytes

abbrev pub results_bytes : ℕ
results_bytes = most_students * (most_results * result_bytes)

-- Small listings, computed: who is eligible, and what stands in each line.
use Prim.Native.Nat.{ℕ}
use mathlib.Core.Path.{◌≡◌, refl}
use mathlib.Core.List.{List, [], ◌∷◌, ◌++◌}
use lib.ListN.{get_or, replicate}
use Rattle.paper.specs.Rounding.{nearest}
use Rattle.paper.specs.Lists.{sum, count, first, listed}
use Rattle.paper.specs.Words.{◌=?◌, when◌then◌else◌}
use Rattle.paper.specs.Rulings.{Outcome, accepted, refused, ◌at◌, in_turn}
use Rattle.paper.specs.Bytes.{word, long}
use Rattle.paper.specs.Parts.{laid}
use Rattle.catalogue.specs.Catalogue.{outside}
use Rattle.results.specs.Counting.{usable, usable_at, shows_english}
use Rattle.sets.specs.declared.BestSet.{BestSet}
use Rattle.curve.specs.Population.{S, E}
use Rattle.ranks.specs.Ranking.{ranks_of, percentiles_of}
use Rattle.placements.specs.Placing.{remainder}
use Rattle.placements.specs.Bands.{bands_of}
use Rattle.held.specs.Held.{Enrolled}
use Rattle.held.specs.Judging.{holds_id}
use Rattle.held.specs.Reading.{body, reading}
use Rattle.fields.specs.Fields.{pieces}
use Rattle.listing.specs.Text.{digits_in, digits, atar}
use Rattle.listing.specs.Lines.{cohort_line, student_line, refused_line, file_line}
use Rattle.printed.specs.Report.{outcome, aggregates_of, lines_of, listed as listing, text_of}
use Rattle.printed.specs.Promise.{ruling, written}
use Rattle.printed.specs.InnerCohorts.{columns}
use Rattle.printed.proofs.ByHand.{head}

-- students 9, 7, 10, 8 and 11, of whom 7 has 360.00, 8 and 11 have 355.00, and 9 and 10 are refused
abbrev enrolled : ℕ → Enrolled
enrolled id = record { id = id; results = [] }

abbrev five : List Enrolled
five = enrolled 9 ∷ enrolled 7 ∷ enrolled 10 ∷ enrolled 8 ∷ enrolled 11 ∷ []

abbrev gets : ℕ → Outcome BestSet
gets aggregate = accepted (record { aggregate = aggregate; set = 31 })

abbrev outcomes : Enrolled → Outcome BestSet
outcomes s =
    when s.id =? 7 then gets 36000
    else when s.id =? 8 then gets 35500
    else when s.id =? 11 then gets 35500
    else when s.id =? 10 then refused (4 at 3)
    else refused (8 at 0)

-- the eligible alone, in file order
abbrev three : List ℕ
three = 36000 ∷ 35500 ∷ 35500 ∷ []

pub eligible : aggregates_of outcomes five ≡ three
unfolding aggregates_of
eligible = refl

-- an aggregate of 0 is one too
pub zero_eligible : aggregates_of (λ s. gets 0) (enrolled 9 ∷ []) ≡ 0 ∷ []
unfolding aggregates_of
zero_eligible = refl

-- a line per student in file order: id, aggregate, rank, percentile, ATAR; or id, refused, number, place. A refused student takes nobody's place
pub each_line :
    lines_of outcomes (columns three (3 ∷ 2 ∷ 1 ∷ []) (100000 ∷ 66667 ∷ 5 ∷ []) (1949 ∷ 1849 ∷ 601 ∷ [])) 0 five
    ≡ refused_line 9 8 0 ++ (student_line 7 36000 3 100000 1949 ++ (refused_line 10 4 3 ++ (student_line 8 35500 2 66667 1849 ++ student_line 11 35500 1 5 601)))
unfolding lines_of digits digits_in atar
each_line = refl

-- of any table and Y: students, eligible, remainder; ranks and bands over the eligible students, who alone are the cohort
pub over-eligible : (table : List ℕ) (Y : ℕ) →
    listing outcomes table Y five
    ≡ cohort_line 5 3 (remainder three table Y)
    ++ (refused_line 9 8 0
    ++ (student_line 7 36000 3 100000 (get_or (bands_of three table Y) 0 0)
    ++ (refused_line 10 4 3
    ++ (student_line 8 35500 2 66667 (get_or (bands_of three table Y) 1 0)
    ++ (student_line 11 35500 2 66667 (get_or (bands_of three table Y) 2 0) ++ [])))))
unfolding lines_of aggregates_of ranks_of percentiles_of listed count sum nearest
over-eligible table Y = refl

-- tag 6 results are judged per student and refuse that student only: student 9 has none, 10 one of a subject that is not there, and 11 none
abbrev student : ℕ → List ℕ
student id = 5 ∷ 0 ∷ 4 ∷ 0 ∷ 0 ∷ 0 ∷ id ∷ []

pub refused-alone :
    text_of (head ++ (student 9 ++ (student 10 ++ ((6 ∷ 0 ∷ 6 ∷ 0 ∷ 0 ∷ 65 ∷ 2 ∷ 7 ∷ 229 ∷ []) ++ student 11))))
    ≡ cohort_line 3 0 0 ++ (refused_line 9 7 0 ++ (refused_line 10 3 0 ++ refused_line 11 7 0))
unfolding text_of reading body pieces digits digits_in word long sum first nearest S E holds_id aggregates_of lines_of outcome remainder count in_turn listed outside shows_english usable usable_at
refused-alone = refl

-- a bad file: refused, number, place; and nothing of its students
pub bad-file : (text_of (1 ∷ 0 ∷ 2 ∷ 7 ∷ 191 ∷ []) ≡ file_line 14 0) × (text_of (head ++ (student 9 ++ student 9)) ≡ file_line 6 55)
unfolding text_of reading body pieces word long sum first nearest S E holds_id listed
bad-file = (refl, refl)

-- the text at the front of the lent buffer, and the rest as it was; 11: a buffer of another length than 65536
pub text_lent : written [] (replicate 14 9) ≡ file_line 1 0 ++ (9 ∷ 9 ∷ [])
unfolding text_of reading body pieces digits digits_in laid
text_lent = refl

pub buffer_lengths : (ruling [] (replicate 65535 9) ≡ refused (11 at 0)) × (ruling [] (replicate 65536 9) ≡ accepted 12) × (ruling [] (replicate 65537 9) ≡ refused (11 at 0))
unfolding text_of reading body pieces digits digits_in
buffer_lengths = (refl, refl, refl)

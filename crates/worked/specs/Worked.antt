-- The paper's examples that are marked P, and the students of requests E2 and E5.
use Rattle.std.specs.Prelude.{List, [], ◌∷◌}
use Rattle.paper.specs.Letters.{letter_b, letter_c}
use Rattle.paper.specs.Rulings.{refused, ◌at◌}
use Rattle.results.specs.Results.{Student, student}
use Rattle.sets.specs.Examples.{seven, eight, nine, eleven, table, result, catalogue2, table2, three, mature, renewed, long_ago, table3, fine}
use Rattle.curve.specs.Examples.{aged17}
use Rattle.tally.specs.Examples.{full}
use Rattle.worked.specs.Example.{◌·◌, chosen, counted, Example, best-set◌by◌is◌, figures◌give◌, rate◌band◌has◌, aggregates◌by◌of◌get◌leaving◌, cohort◌by◌and◌of◌have◌rank◌get◌leaving◌}

-- six Generals at 50.00, one an English C
abbrev pub six : Student
six = student catalogue2 2021 (result 0 letter_c 50 (result 1 letter_b 50 (three (result 8 letter_b 50 []))))

-- in 2021: one who passed everything from 2012 to 2016, or from 2011; with English of 1990; with English of 2012 and again in 2021
abbrev pub from2012 : Student
from2012 = student catalogue2 2021 (mature 2012 2016 [])

abbrev pub from2011 : Student
from2011 = student catalogue2 2021 (mature 2011 2016 [])

abbrev pub english1990 : Student
english1990 = student catalogue2 2021 (long_ago letter_c)

abbrev pub again2021 : Student
again2021 = student catalogue2 2021 (renewed 2021)

-- to four decimals: five at 50.0010, and a sixth at 50.0011; five whose sum is 250.0050, 250.0049, 250.0149 or 250.0150; one of the five at 100.0000,
-- or with one more in its slot
abbrev pub sixth : Student
sixth = fine 10 10 10 10 (result 4 letter_b 10 (result 5 letter_b 11 []))

abbrev pub sum0050 : Student
sum0050 = fine 10 10 10 10 (result 4 letter_b 10 [])

abbrev pub sum0049 : Student
sum0049 = fine 10 10 10 10 (result 4 letter_b 9 [])

abbrev pub sum0149 : Student
sum0149 = fine 30 30 30 30 (result 4 letter_b 29 [])

abbrev pub sum0150 : Student
sum0150 = fine 30 30 30 30 (result 4 letter_b 30 [])

abbrev pub at100 : Student
at100 = fine 10 10 10 10 (result 6 letter_b 99 [])

abbrev pub over100 : Student
over100 = fine 10 10 10 10 (result 6 letter_b 100 [])

unfoldable pub examples : List Example
examples =
    -- students 7, 8, 9 and 11; six Generals
    best-set seven by table is chosen (360 · 00) (0 ∷ 2 ∷ 3 ∷ 4 ∷ 5 ∷ [])
    ∷ best-set eight by table is chosen (355 · 00) (0 ∷ 1 ∷ 2 ∷ 3 ∷ 5 ∷ [])
    ∷ best-set nine by table is refused (8 at 0)
    ∷ best-set eleven by table is chosen (355 · 00) (0 ∷ 1 ∷ 2 ∷ 3 ∷ 4 ∷ [])
    ∷ best-set six by table2 is chosen (250 · 00) (0 ∷ 1 ∷ 2 ∷ 3 ∷ 4 ∷ [])
    -- spans of four and of five; English from any year; a repeat goes to the latest
    ∷ best-set from2012 by table2 is chosen (250 · 00) (0 ∷ 1 ∷ 2 ∷ 3 ∷ 4 ∷ [])
    ∷ best-set from2011 by table2 is refused (8 at 0)
    ∷ best-set english1990 by table2 is chosen (250 · 00) (1 ∷ 2 ∷ 3 ∷ 4 ∷ 5 ∷ [])
    ∷ best-set again2021 by table2 is refused (8 at 0)
    -- the greatest unrounded sum; a sum that ends in 50 goes up, in 49 down; score 1000000 and 1000001
    ∷ best-set sixth by table3 is chosen (250 · 01) (0 ∷ 1 ∷ 2 ∷ 3 ∷ 5 ∷ [])
    ∷ best-set sum0050 by table3 is chosen (250 · 01) (0 ∷ 1 ∷ 2 ∷ 3 ∷ 4 ∷ [])
    ∷ best-set sum0049 by table3 is chosen (250 · 00) (0 ∷ 1 ∷ 2 ∷ 3 ∷ 4 ∷ [])
    ∷ best-set at100 by table3 is chosen (300 · 00) (0 ∷ 1 ∷ 2 ∷ 3 ∷ 4 ∷ [])
    ∷ best-set over100 by table3 is refused (5 at 4)
    -- r=5000, r=2500 and r=7500
    ∷ rate 5000 band 1 has 0
    ∷ rate 5000 band 500 has 62500
    ∷ rate 5000 band 1000 has 500000
    ∷ rate 5000 band 1999 has 999999
    ∷ rate 2500 band 1999 has 998500
    ∷ rate 7500 band 0 has 0
    ∷ rate 7500 band 1 has 1499
    -- Y=100000
    ∷ figures aged17 100000 24995 give counted 100000 2500
    ∷ figures aged17 100000 24994 give refused (10 at 0)
    ∷ figures aged17 100000 75004 give counted 100000 7500
    ∷ figures aged17 100000 75005 give refused (10 at 0)
    -- full table: Y=2000; Y=1, two different
    ∷ aggregates 400 · 00 ∷ 400 · 00 ∷ 300 · 00 ∷ [] by full of 2000 get 99 · 90 ∷ 99 · 90 ∷ 99 · 85 ∷ [] leaving 0
    ∷ aggregates 400 · 00 ∷ 300 · 00 ∷ [] by full of 1 get 0 · 00 ∷ 0 · 00 ∷ [] leaving 1
    -- sums of 250.0050 and 250.0149 are one aggregate, rank and band; 250.0150 is above them, 250.0049 below
    ∷ cohort sum0050 ∷ sum0149 ∷ sum0150 ∷ sum0049 ∷ [] by table3 and full of 2000 have 250 · 01 ∷ 250 · 01 ∷ 250 · 02 ∷ 250 · 00 ∷ [] rank 3 ∷ 3 ∷ 4 ∷ 1 ∷ []
    get 99 · 85 ∷ 99 · 85 ∷ 99 · 95 ∷ 99 · 80 ∷ [] leaving 0
    ∷ []

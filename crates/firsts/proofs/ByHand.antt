-- First scores worked by hand, and each limit and each two rules in their order, computed.
use Prim.Native.Nat.{ℕ}
use mathlib.Core.Path.{◌≡◌, refl}
use mathlib.Core.List.{List, [], ◌∷◌, ◌++◌}
use lib.ListN.{replicate, set}
use Rattle.paper.specs.Limits.{slots, missing}
use Rattle.paper.specs.Lists.{sum, first, listed}
use Rattle.paper.specs.Rounding.{nearest}
use Rattle.paper.specs.Bytes.{word, long, word_bytes, long_bytes}
use Rattle.paper.specs.Parts.{laid, put}
use Rattle.paper.specs.Rulings.{accepted, refused, ◌at◌}
use Rattle.scores.specs.Scores.{in_row}
use Rattle.scores.specs.Rows.{slots_from}
use Rattle.firsts.specs.Counts.{below, total, score}
use Rattle.firsts.specs.Row.{asked, slot_for, score_in, row_for}
use Rattle.firsts.specs.Promise.{ruling, written}

-- what each slot of a row holds, slot 1 first
abbrev slotted : List ℕ → List ℕ
slotted row = listed 1 slots (λ slot. long row (in_row slot))

-- 100 counts: six that are given, from the worst result on, and then nobody
abbrev hundred : List ℕ → List ℕ
hundred given = given ++ replicate 94 0

-- of 64 students 1 has the worst result, 63 the next: 1/128 of 100 is 0.78125, which goes up; 65/128 is 50.78125, and all that nobody got is 100
pub general_row_lem : listed 0 3 (score (hundred (1 ∷ 63 ∷ 0 ∷ 0 ∷ 0 ∷ 0 ∷ []))) ≡ 7813 ∷ 507813 ∷ 1000000 ∷ []
unfolding score sum listed nearest
general_row_lem = refl

pub general-slots : slotted (row_for 1 (hundred (1 ∷ 63 ∷ 0 ∷ 0 ∷ 0 ∷ 0 ∷ []))) ≡ 7813 ∷ 507813 ∷ replicate 98 1000000
unfolding row_for slots_from score_in score sum first listed nearest word long word_bytes long_bytes
general-slots = refl

-- all below, and all there are
pub below_each : (listed 0 6 (below (2 ∷ 1 ∷ 0 ∷ 4 ∷ 1 ∷ [])) ≡ 0 ∷ 2 ∷ 3 ∷ 3 ∷ 7 ∷ 8 ∷ []) × (total (2 ∷ 1 ∷ 0 ∷ 4 ∷ 1 ∷ []) ≡ 8)
unfolding sum listed
below_each = (refl, refl)

-- of 8 students 2 have E, 1 D, none C, 4 B and 1 A: half the count at it and all below, over 8; C, which nobody got, has a score too
pub applied-row : listed 0 5 (score (2 ∷ 1 ∷ 0 ∷ 4 ∷ 1 ∷ [])) ≡ 125000 ∷ 312500 ∷ 375000 ∷ 625000 ∷ 937500 ∷ []
unfolding score sum listed nearest
applied-row = refl

-- above a half, a half, below: 3.84615.., 2.34375, 46.15384..; 45.45454.. is rounded once, for 45.45455 would go up; one student alone has 50.0000
pub halves : (score (1 ∷ 12 ∷ []) 0 ≡ 38462) × (score (3 ∷ 61 ∷ []) 0 ≡ 23438) × (score (12 ∷ 1 ∷ []) 0 ≡ 461538) × (score (10 ∷ 1 ∷ []) 0 ≡ 454545) × (score (1 ∷ []) 0 ≡ 500000)
unfolding score sum nearest
halves = (refl, refl, refl, refl, refl)

-- of as many as may be: 1 in 1000000 has half a ten-thousandth, which goes up, and 999999 have 49.99995; 1 in 999999 has a little more than half, and
-- 999998 a little less than 49.99995
pub halves-of_most : (score (1 ∷ 999999 ∷ []) 0 ≡ 1) × (score (999999 ∷ 1 ∷ []) 0 ≡ 500000) × (score (1 ∷ 999998 ∷ []) 0 ≡ 1) × (score (999998 ∷ 1 ∷ []) 0 ≡ 499999)
unfolding score sum nearest
halves-of_most = (refl, refl, refl, refl)

-- 100 counts for each kind of General, 5 for Applied, none for VET; kinds 0, 5 and 7 are refused before that is asked
pub asked-each : listed 0 8 asked ≡ 0 ∷ 100 ∷ 100 ∷ 100 ∷ 5 ∷ 0 ∷ 0 ∷ 0 ∷ []
unfolding listed
asked-each = refl

-- General 1 to 100 into slots 1 to 100, Applied E to A into 10, 30, 50, 70, 90
pub slots-each : (listed 0 100 (slot_for 1) ≡ listed 1 100 (λ i. i)) × (listed 0 100 (slot_for 3) ≡ listed 1 100 (λ i. i)) × (listed 0 5 (slot_for 4) ≡ 10 ∷ 30 ∷ 50 ∷ 70 ∷ 90 ∷ [])
unfolding listed
slots-each = (refl, refl, refl)

-- the other slots of Applied are missing
abbrev gap : ℕ → List ℕ → List ℕ
gap n rest = replicate n missing ++ rest

pub applied-slots : slotted (row_for 4 (2 ∷ 1 ∷ 0 ∷ 4 ∷ 6 ∷ [])) ≡ gap 9 (76923 ∷ gap 19 (192308 ∷ gap 19 (230769 ∷ gap 19 (384615 ∷ gap 19 (769231 ∷ gap 10 [])))))
unfolding row_for slots_from score_in score sum first listed nearest word long word_bytes long_bytes
applied-slots = refl

-- extensions and external examinations as General
pub generals : (row_for 2 (hundred (1 ∷ 63 ∷ 0 ∷ 0 ∷ 0 ∷ 0 ∷ [])) ≡ row_for 1 (hundred (1 ∷ 63 ∷ 0 ∷ 0 ∷ 0 ∷ 0 ∷ []))) × (row_for 3 (hundred (1 ∷ 63 ∷ 0 ∷ 0 ∷ 0 ∷ 0 ∷ [])) ≡ row_for 1 (hundred (1 ∷ 63 ∷ 0 ∷ 0 ∷ 0 ∷ 0 ∷ [])))
unfolding row_for slots_from score_in score sum first nearest word_bytes long_bytes
generals = (refl, refl)

-- VET: 50.0000 in slot 1, the rest missing; a total of 0: all missing
pub vet-slots : slotted (row_for 6 []) ≡ 500000 ∷ replicate 99 missing
unfolding row_for slots_from listed word long word_bytes long_bytes
vet-slots = refl

pub nobody : (slotted (row_for 1 (replicate 100 0)) ≡ replicate 100 missing) × (slotted (row_for 4 (replicate 5 0)) ≡ replicate 100 missing)
unfolding row_for sum listed word long
nobody = (refl, refl)

-- a total of 1, at the best result and in the middle: with nobody at it and below it a result has 0.0000, and is not missing
pub one-alone :
    (slotted (row_for 1 (replicate 99 0 ++ (1 ∷ []))) ≡ replicate 99 0 ++ (500000 ∷ []))
    × (slotted (row_for 4 (0 ∷ 0 ∷ 1 ∷ 0 ∷ 0 ∷ [])) ≡ gap 9 (0 ∷ gap 19 (0 ∷ gap 19 (500000 ∷ gap 19 (1000000 ∷ gap 19 (1000000 ∷ gap 10 []))))))
unfolding row_for slots_from score_in score sum first listed nearest word long word_bytes long_bytes
one-alone = (refl, refl)

-- the subject's row and no other byte
pub row-alone : written 4 1 (2 ∷ 1 ∷ 0 ∷ 4 ∷ 1 ∷ []) (replicate 1200 7) ≡ replicate 400 7 ++ (row_for 4 (2 ∷ 1 ∷ 0 ∷ 4 ∷ 1 ∷ []) ++ replicate 400 7)
unfolding row_for put laid slots_from score_in score sum first nearest word_bytes long_bytes
row-alone = refl

-- tables by their bytes, and counts that nothing refuses
abbrev bytes : ℕ → List ℕ
bytes n = replicate n 0

abbrev ones : ℕ → List ℕ
ones n = replicate n 1

-- 3: kinds 1 to 4 and 6 are taken, 0, 7 and 257 are not, nor a short course
pub kinds :
    (ruling 0 0 [] (bytes 400) ≡ refused (3 at 0))
    × (ruling 1 0 (ones 100) (bytes 400) ≡ accepted tt)
    × (ruling 2 0 (ones 100) (bytes 400) ≡ accepted tt)
    × (ruling 3 0 (ones 100) (bytes 400) ≡ accepted tt)
    × (ruling 4 0 (ones 5) (bytes 400) ≡ accepted tt)
    × (ruling 5 0 [] (bytes 400) ≡ refused (3 at 0))
    × (ruling 6 0 [] (bytes 400) ≡ accepted tt)
    × (ruling 7 0 [] (bytes 400) ≡ refused (3 at 0))
    × (ruling 257 0 (ones 100) (bytes 400) ≡ refused (3 at 0))
unfolding sum first
kinds = (refl, refl, refl, refl, refl, refl, refl, refl, refl)

-- 3: the last row and the one after it, of 2 and of 65; a table with none, one byte short of one, and one of 200 bytes, half a row
pub rows-there :
    (ruling 6 1 [] (bytes 800) ≡ accepted tt)
    × (ruling 6 2 [] (bytes 800) ≡ refused (3 at 0))
    × (ruling 6 0 [] [] ≡ refused (3 at 0))
    × (ruling 6 0 [] (bytes 399) ≡ refused (3 at 0))
    × (ruling 6 0 [] (bytes 200) ≡ refused (3 at 0))
    × (ruling 6 536870912 [] (bytes 800) ≡ refused (3 at 0))
    × (ruling 6 64 [] (bytes 26000) ≡ accepted tt)
unfolding sum first
rows-there = (refl, refl, refl, refl, refl, refl, refl)

-- 11: one count too few and one too many, of each; a table not of whole rows, one of three rows of 200 bytes too
pub lengths :
    (ruling 1 0 (ones 99) (bytes 400) ≡ refused (11 at 0))
    × (ruling 1 0 (ones 101) (bytes 400) ≡ refused (11 at 0))
    × (ruling 4 0 (ones 4) (bytes 400) ≡ refused (11 at 0))
    × (ruling 4 0 (ones 6) (bytes 400) ≡ refused (11 at 0))
    × (ruling 6 0 (ones 1) (bytes 400) ≡ refused (11 at 0))
    × (ruling 6 0 [] (bytes 401) ≡ refused (11 at 0))
    × (ruling 6 0 [] (bytes 600) ≡ refused (11 at 0))
    × (ruling 6 0 [] (bytes 799) ≡ refused (11 at 0))
lengths = (refl, refl, refl, refl, refl, refl, refl, refl)

-- 15: 1000000 and one more, at its index, the lowest of two; then a total of 1000000 and one more
pub most :
    (ruling 4 0 (0 ∷ 0 ∷ 1000000 ∷ 0 ∷ 0 ∷ []) (bytes 400) ≡ accepted tt)
    × (ruling 4 0 (0 ∷ 0 ∷ 1000001 ∷ 0 ∷ 0 ∷ []) (bytes 400) ≡ refused (15 at 2))
    × (ruling 4 0 (0 ∷ 1000001 ∷ 0 ∷ 0 ∷ 1000001 ∷ []) (bytes 400) ≡ refused (15 at 1))
    × (ruling 1 0 (set (ones 100) 99 1000001) (bytes 400) ≡ refused (15 at 99))
    × (ruling 4 0 (1 ∷ 0 ∷ 0 ∷ 0 ∷ 999999 ∷ []) (bytes 400) ≡ accepted tt)
    × (ruling 4 0 (1 ∷ 0 ∷ 0 ∷ 0 ∷ 1000000 ∷ []) (bytes 400) ≡ refused (15 at 0))
    × (ruling 1 0 (set (ones 100) 99 999901) (bytes 400) ≡ accepted tt)
    × (ruling 1 0 (set (ones 100) 99 999902) (bytes 400) ≡ refused (15 at 0))
unfolding sum first
most = (refl, refl, refl, refl, refl, refl, refl, refl)

-- 3 before 11: a short course, a kind and a row that are not there, with a count and bytes too many; 11 before 15, of counts and of the table;
-- a count over before the total
pub in_order :
    (ruling 5 0 (ones 1) (bytes 401) ≡ refused (3 at 0))
    × (ruling 7 0 (ones 1) (bytes 401) ≡ refused (3 at 0))
    × (ruling 4 1 (ones 6) (bytes 401) ≡ refused (3 at 0))
    × (ruling 4 0 (ones 5) (bytes 300) ≡ refused (3 at 0))
    × (ruling 4 0 (replicate 6 1000001) (bytes 400) ≡ refused (11 at 0))
    × (ruling 4 0 (replicate 5 1000001) (bytes 401) ≡ refused (11 at 0))
    × (ruling 4 0 (1000000 ∷ 0 ∷ 0 ∷ 1000001 ∷ 0 ∷ []) (bytes 400) ≡ refused (15 at 3))
unfolding sum first
in_order = (refl, refl, refl, refl, refl, refl, refl)

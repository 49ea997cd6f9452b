-- The values of each tag, judged by computing: each range at its ends and past them. The field stands at offset 8, and each place is that.
use Prim.Native.Nat.{ℕ}
use mathlib.Core.Path.{◌≡◌, refl}
use mathlib.Core.List.{List, [], ◌∷◌, ◌++◌}
use lib.ListN.{replicate}
use Rattle.paper.specs.Lists.{sum, first, listed}
use Rattle.paper.specs.Bytes.{word, long, word_bytes, long_bytes}
use Rattle.paper.specs.Parts.{laid}
use Rattle.paper.specs.Rounding.{nearest}
use Rattle.paper.specs.Rulings.{Outcome, accepted, refused, ◌at◌, judged}
use Rattle.catalogue.specs.Catalogue.{outside}
use Rattle.scores.specs.Scores.{found}
use Rattle.scores.specs.Rows.{stored}
use Rattle.curve.specs.Population.{S, E}
use Rattle.held.specs.Held.{Held, Enrolled}
use Rattle.held.specs.Judging.{holds_id, value_rules}

-- what is held: two subjects, of which the first has 50.0000 in slot 2, 0.0000 in slot 3 and 100.0000 in slot 4; the students 260 and 16777220
abbrev table : List ℕ
table = stored (stored (stored (replicate 800 255) 0 2 500000) 0 3 0) 0 4 1000000

abbrev enrolled : ℕ → Enrolled
enrolled id = record { id = id; results = [] }

abbrev held : Held
held = record {
  year = 2021;
  catalogue = 1 ∷ 1 ∷ 0 ∷ 0 ∷ 9 ∷ 1 ∷ 0 ∷ 0 ∷ 0 ∷ 8 ∷ [];
  table = table;
  figures = [];
  students = enrolled 260 ∷ enrolled 16777220 ∷ [];
}

-- or a subject of each kind, of which the last has 50.0000 in slot 1
abbrev of_each_kind : Held
of_each_kind = record {
  year = 2021;
  catalogue = 1 ∷ 1 ∷ 0 ∷ 0 ∷ 9 ∷ 2 ∷ 0 ∷ 0 ∷ 0 ∷ 0 ∷ 3 ∷ 0 ∷ 0 ∷ 0 ∷ 9 ∷ 4 ∷ 2 ∷ 0 ∷ 0 ∷ 0 ∷ 5 ∷ 0 ∷ 0 ∷ 0 ∷ 0 ∷ 6 ∷ 0 ∷ 3 ∷ 0 ∷ 0 ∷ [];
  table = stored (replicate 2400 255) 5 1 500000;
  figures = [];
  students = [];
}

-- a field of a tag and a value is judged, by what is held
abbrev judged_by : Held → ℕ → List ℕ → Outcome (Unit {0})
judged_by held tag v = judged (value_rules held (record { tag = tag; value = v }) 8) tt

abbrev judged_as : ℕ → List ℕ → Outcome (Unit {0})
judged_as = judged_by held

abbrev good : Outcome (Unit {0})
good = accepted tt

abbrev refuses : ℕ → Outcome (Unit {0})
refuses number = refused (number at 8)

-- the assessment year, which is 1984 to 9999
abbrev year : ℕ → Outcome (Unit {0})
year n = judged_as 1 (word_bytes n)

pub years : (year 1983 ≡ refuses 14) × (year 1984 ≡ good) × (year 9999 ≡ good) × (year 10000 ≡ refuses 14) × (year 0 ≡ refuses 14) × (year 65535 ≡ refuses 14)
unfolding word word_bytes
years = (refl, refl, refl, refl, refl, refl)

-- a catalogue entry: kind, strand, level, identity
abbrev entry : ℕ → ℕ → ℕ → ℕ → Outcome (Unit {0})
entry kind strand level identity = judged_as 2 (kind ∷ strand ∷ level ∷ word_bytes identity)

-- kind 1 to 6, each with what it has; 0 and 7 are 3 at the tag's offset
pub kinds :
    (entry 0 0 0 0 ≡ refuses 3)
    × (entry 1 0 0 1 ≡ good)
    × (entry 2 0 0 0 ≡ good)
    × (entry 3 0 0 1 ≡ good)
    × (entry 4 0 0 0 ≡ good)
    × (entry 5 0 0 0 ≡ good)
    × (entry 6 0 1 0 ≡ good)
    × (entry 7 0 0 0 ≡ refuses 3)
unfolding word word_bytes outside
kinds = (refl, refl, refl, refl, refl, refl, refl, refl)

-- strand 0, 1 or 2; kinds 5 and 6 have 0
pub strands :
    (entry 1 1 0 1 ≡ good)
    × (entry 1 2 0 1 ≡ good)
    × (entry 1 3 0 1 ≡ refuses 3)
    × (entry 4 2 0 0 ≡ good)
    × (entry 4 3 0 0 ≡ refuses 3)
    × (entry 5 1 0 0 ≡ refuses 3)
    × (entry 6 1 1 0 ≡ refuses 3)
unfolding word word_bytes outside
strands = (refl, refl, refl, refl, refl, refl, refl)

-- level: for VET 1 to 6, otherwise 0
pub levels : (entry 6 0 0 0 ≡ refuses 3) × (entry 6 0 6 0 ≡ good) × (entry 6 0 7 0 ≡ refuses 3) × (entry 5 0 1 0 ≡ refuses 3) × (entry 1 0 1 1 ≡ refuses 3)
unfolding word word_bytes outside
levels = (refl, refl, refl, refl, refl)

-- identity: 1 or more for kinds 1 and 3, in two bytes; otherwise 0
pub identities :
    (entry 1 0 0 0 ≡ refuses 3)
    × (entry 3 0 0 0 ≡ refuses 3)
    × (entry 1 0 0 256 ≡ good)
    × (entry 3 0 0 65535 ≡ good)
    × (entry 2 0 0 1 ≡ refuses 3)
    × (entry 4 0 0 256 ≡ refuses 3)
    × (entry 5 0 0 1 ≡ refuses 3)
    × (entry 6 0 1 1 ≡ refuses 3)
unfolding word word_bytes outside
identities = (refl, refl, refl, refl, refl, refl, refl, refl)

-- an entry that stands in the catalogue already breaks no rule, of whatever kind
abbrev again : ℕ → ℕ → ℕ → ℕ → Outcome (Unit {0})
again kind strand level identity = judged_by of_each_kind 2 (kind ∷ strand ∷ level ∷ word_bytes identity)

pub entries_again : (again 1 1 0 9 ≡ good) × (again 2 0 0 0 ≡ good) × (again 3 0 0 9 ≡ good) × (again 4 2 0 0 ≡ good) × (again 5 0 0 0 ≡ good) × (again 6 0 3 0 ≡ good)
unfolding word word_bytes outside
entries_again = (refl, refl, refl, refl, refl, refl)

-- a score: subject, slot, value
abbrev score : ℕ → ℕ → ℕ → Outcome (Unit {0})
score subject slot value = judged_as 3 (word_bytes subject ++ (slot ∷ long_bytes value))

-- 3: the subject is not in the catalogue, whose last is 1
pub subjects : (score 0 1 500000 ≡ good) × (score 1 1 500000 ≡ good) × (score 2 1 500000 ≡ refuses 3) × (score 256 1 500000 ≡ refuses 3)
unfolding word long word_bytes long_bytes found stored laid
subjects = (refl, refl, refl, refl)

-- 5: a slot outside 1..100
pub slots : (score 0 0 500000 ≡ refuses 5) × (score 0 1 500000 ≡ good) × (score 0 100 500000 ≡ good) × (score 0 101 500000 ≡ refuses 5) × (score 0 255 500000 ≡ refuses 5)
unfolding word long word_bytes long_bytes found stored laid
slots = (refl, refl, refl, refl, refl)

-- of whatever kind the subject is: a slot that its results never use breaks no rule, nor a score after those of a later subject
abbrev unused : ℕ → ℕ → Outcome (Unit {0})
unused subject slot = judged_by of_each_kind 3 (word_bytes subject ++ (slot ∷ long_bytes 500000))

pub slots-of_each_kind : (unused 0 1 ≡ good) × (unused 1 1 ≡ good) × (unused 2 1 ≡ good) × (unused 3 40 ≡ good) × (unused 4 1 ≡ good) × (unused 5 2 ≡ good)
unfolding word long word_bytes long_bytes found stored laid
slots-of_each_kind = (refl, refl, refl, refl, refl, refl)

-- 5: a value over 1000000; one that says missing too; 10000, 10001 and 65535 are scores as others are
pub values : (score 0 1 0 ≡ good) × (score 0 1 10000 ≡ good) × (score 0 1 10001 ≡ good) × (score 0 1 65535 ≡ good) × (score 0 1 1000000 ≡ good) × (score 0 1 1000001 ≡ refuses 5)
    × (score 0 1 4294967295 ≡ refuses 5)
unfolding word long word_bytes long_bytes found stored laid
values = (refl, refl, refl, refl, refl, refl, refl)

-- 6: a slot again, whatever it has; not the slot of another subject, nor the one next to it
pub slot_again : (score 0 2 500000 ≡ refuses 6) × (score 0 2 600000 ≡ refuses 6) × (score 0 3 500000 ≡ refuses 6) × (score 0 4 500000 ≡ refuses 6) × (score 1 2 500000 ≡ good) × (score 0 5 500000 ≡ good)
unfolding word long word_bytes long_bytes found stored laid
slot_again = (refl, refl, refl, refl, refl, refl)

-- 6: a slot that holds 65535, which was missing in 16 bits, is given; so is one that holds a number over the top, in a table that no file gives
abbrev held_odd : Held
held_odd = record { year = 2021; catalogue = 1 ∷ 1 ∷ 0 ∷ 0 ∷ 9 ∷ []; table = stored (stored (replicate 400 255) 0 2 65535) 0 3 1000001; figures = []; students = [] }

pub odd_again : (judged_by held_odd 3 (word_bytes 0 ++ (2 ∷ long_bytes 500000)) ≡ refuses 6) × (judged_by held_odd 3 (word_bytes 0 ++ (3 ∷ long_bytes 500000)) ≡ refuses 6)
    × (judged_by held_odd 3 (word_bytes 0 ++ (4 ∷ long_bytes 500000)) ≡ accepted tt)
unfolding word long word_bytes long_bytes found stored laid
odd_again = (refl, refl, refl)

-- 3 before 5 before 6: no such subject with a slot 0 and with a value over; a slot again with a value over
pub three-five_six : (score 2 0 500000 ≡ refuses 3) × (score 2 1 1000001 ≡ refuses 3) × (score 0 2 1000001 ≡ refuses 5)
unfolding word long word_bytes long_bytes found stored laid
three-five_six = (refl, refl, refl)

-- the figures Q16 to Q20, E16 to E20, four bytes each
abbrev ten : (Q16 Q17 Q18 Q19 Q20 E16 E17 E18 E19 E20 : ℕ) → Outcome (Unit {0})
ten q16 q17 q18 q19 q20 e16 e17 e18 e19 e20 =
    judged_as 4
    (long_bytes q16 ++ (long_bytes q17 ++ (long_bytes q18 ++ (long_bytes q19 ++ (long_bytes q20
    ++ (long_bytes e16 ++ (long_bytes e17 ++ (long_bytes e18 ++ (long_bytes e19 ++ long_bytes e20)))))))))

-- tag 4 gives 9 at its offset: Q or E over 1000000, the first and the last of them, E zero, Y zero
pub nine :
    (ten 1000000 0 0 0 0 500000 0 0 0 0 ≡ good)
    × (ten 1000001 0 0 0 0 500000 0 0 0 0 ≡ refuses 9)
    × (ten 0 0 0 0 1000000 0 0 0 0 750000 ≡ good)
    × (ten 0 0 0 0 1000000 0 0 0 0 1000001 ≡ refuses 9)
    × (ten 40 0 0 0 0 0 0 0 0 0 ≡ refuses 9)
    × (ten 0 40 0 0 0 20 0 0 0 0 ≡ refuses 9)
unfolding word long word_bytes long_bytes listed sum first nearest S E
nine = (refl, refl, refl, refl, refl, refl)

-- or 10: r outside 2500..7500, of which 2499, 2500, 7500 and 7501
pub tenth : (ten 0 0 10000 0 0 0 0 2499 0 0 ≡ refuses 10) × (ten 0 0 10000 0 0 0 0 2500 0 0 ≡ good) × (ten 0 0 10000 0 0 0 0 7500 0 0 ≡ good) × (ten 0 0 10000 0 0 0 0 7501 0 0 ≡ refuses 10)
unfolding word long word_bytes long_bytes listed sum first nearest S E
tenth = (refl, refl, refl, refl)

-- 9 before 10: a Q over, with r too small; an E over, with r too great
pub nine-before_ten : (ten 1000001 0 0 0 0 1 0 0 0 0 ≡ refuses 9) × (ten 0 0 0 1000000 0 0 0 0 1000001 0 ≡ refuses 9)
unfolding word long word_bytes long_bytes listed sum first nearest S E
nine-before_ten = (refl, refl)

-- a student's id, of four bytes
abbrev student : ℕ → Outcome (Unit {0})
student n = judged_as 5 (long_bytes n)

-- 6: an id again, the first and the last; not one that has only some bytes of another
pub id-again : (student 260 ≡ refuses 6) × (student 16777220 ≡ refuses 6) × (student 4 ≡ good) × (student 261 ≡ good) × (student 65796 ≡ good) × (student 16777476 ≡ good) × (student 0 ≡ good)
unfolding word long word_bytes long_bytes first holds_id
id-again = (refl, refl, refl, refl, refl, refl, refl)

-- tag 6 results are judged per student: no value of a result refuses the file
pub results-pass : (judged_as 6 (255 ∷ 255 ∷ 255 ∷ 255 ∷ 255 ∷ 255 ∷ []) ≡ good) × (judged_as 6 (0 ∷ 0 ∷ 0 ∷ 0 ∷ 0 ∷ 0 ∷ []) ≡ good)
results-pass = (refl, refl)

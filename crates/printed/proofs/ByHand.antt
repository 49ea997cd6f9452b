-- The listings of the empty file, of a file with no student and of one whose student has no result, computed.
use Prim.Native.Nat.{ℕ}
use mathlib.Core.Path.{◌≡◌, refl}
use mathlib.Core.List.{List, [], ◌∷◌, ◌++◌}
use Rattle.paper.specs.Rounding.{nearest}
use Rattle.paper.specs.Lists.{sum, count, first, listed}
use Rattle.paper.specs.Rulings.{in_turn}
use Rattle.paper.specs.Bytes.{word, long}
use Rattle.catalogue.specs.Catalogue.{outside}
use Rattle.results.specs.Counting.{usable, usable_at, shows_english}
use Rattle.curve.specs.Population.{S, E}
use Rattle.placements.specs.Placing.{remainder}
use Rattle.held.specs.Judging.{holds_id}
use Rattle.held.specs.Reading.{body, reading}
use Rattle.fields.specs.Fields.{pieces}
use Rattle.listing.specs.Text.{digits_in, digits}
use Rattle.printed.specs.Report.{outcome, aggregates_of, lines_of, text_of}

-- year 2021, Q17=40, E17=20
abbrev pub head : List ℕ
head =
    1 ∷ 0 ∷ 2 ∷ 7 ∷ 229
    ∷ 4 ∷ 0 ∷ 40 ∷ 0 ∷ 0 ∷ 0 ∷ 0 ∷ 0 ∷ 0 ∷ 0 ∷ 40 ∷ 0 ∷ 0 ∷ 0 ∷ 0 ∷ 0 ∷ 0 ∷ 0 ∷ 0 ∷ 0 ∷ 0 ∷ 0 ∷ 0
    ∷ 0 ∷ 0 ∷ 0 ∷ 0 ∷ 0 ∷ 0 ∷ 0 ∷ 20 ∷ 0 ∷ 0 ∷ 0 ∷ 0 ∷ 0 ∷ 0 ∷ 0 ∷ 0 ∷ 0 ∷ 0 ∷ 0 ∷ 0 ∷ []

-- refused 1 0
pub empty : text_of [] ≡ 114 ∷ 101 ∷ 102 ∷ 117 ∷ 115 ∷ 101 ∷ 100 ∷ 32 ∷ 49 ∷ 32 ∷ 48 ∷ 10 ∷ []
unfolding text_of reading body pieces digits digits_in
empty = refl

-- cohort 0 eligible 0 remainder 0
abbrev cohort : ℕ → List ℕ → List ℕ
cohort n rest =
    99 ∷ 111 ∷ 104 ∷ 111 ∷ 114 ∷ 116 ∷ 32 ∷ n ∷ 32 ∷ 101 ∷ 108 ∷ 105 ∷ 103 ∷ 105 ∷ 98 ∷ 108 ∷ 101 ∷ 32 ∷ 48 ∷ 32 ∷ 114 ∷ 101 ∷ 109 ∷ 97 ∷ 105 ∷ 110 ∷ 100 ∷ 101 ∷ 114 ∷ 32 ∷ 48 ∷ 10 ∷ rest

pub nobody : text_of head ≡ cohort 48 []
unfolding text_of reading body pieces digits digits_in word long sum first nearest S E holds_id aggregates_of lines_of outcome remainder count in_turn listed
nobody = refl

-- student 9 has no result: 9 refused 7 0
pub no_result : text_of (head ++ (5 ∷ 0 ∷ 4 ∷ 0 ∷ 0 ∷ 0 ∷ 9 ∷ [])) ≡ cohort 49 (57 ∷ 32 ∷ 114 ∷ 101 ∷ 102 ∷ 117 ∷ 115 ∷ 101 ∷ 100 ∷ 32 ∷ 55 ∷ 32 ∷ 48 ∷ 10 ∷ [])
unfolding text_of reading body pieces digits digits_in word long sum first nearest S E holds_id aggregates_of lines_of outcome remainder count in_turn listed outside shows_english usable usable_at
no_result = refl

-- The lines of the listing.
use Rattle.std.specs.Prelude.{ℕ, ◌-◌, ◌≤◌, ◌≡◌, List, [], ◌∷◌, ◌++◌, length, take, drop, replicate}
use Rattle.listing.specs.Text.{line_feed, space, digits, decimals2, decimals3, atar}
use Rattle.listing.specs.declared.writing.Line.{Line}

-- one space between the parts, and a line feed after the last
abbrev pub ended : List (List ℕ) → List ℕ
ended [] = line_feed ∷ []
ended (part ∷ []) = part ++ (line_feed ∷ [])
ended (part ∷ next ∷ parts) = part ++ (space ∷ ended (next ∷ parts))

-- cohort
abbrev pub cohort : List ℕ
cohort = 99 ∷ 111 ∷ 104 ∷ 111 ∷ 114 ∷ 116 ∷ []

-- eligible
abbrev pub eligible : List ℕ
eligible = 101 ∷ 108 ∷ 105 ∷ 103 ∷ 105 ∷ 98 ∷ 108 ∷ 101 ∷ []

-- remainder
abbrev pub remainder : List ℕ
remainder = 114 ∷ 101 ∷ 109 ∷ 97 ∷ 105 ∷ 110 ∷ 100 ∷ 101 ∷ 114 ∷ []

-- refused
abbrev pub refused : List ℕ
refused = 114 ∷ 101 ∷ 102 ∷ 117 ∷ 115 ∷ 101 ∷ 100 ∷ []

-- students, those who are eligible, the remainder
abbrev pub cohort_line : ℕ → ℕ → ℕ → List ℕ
cohort_line students count left = ended (cohort ∷ digits students ∷ eligible ∷ digits count ∷ remainder ∷ digits left ∷ [])

-- id, aggregate in hundredths, rank, percentile in thousandths, band
abbrev pub student_line : ℕ → ℕ → ℕ → ℕ → ℕ → List ℕ
student_line id aggregate rank percentile band = ended (digits id ∷ decimals2 aggregate ∷ digits rank ∷ decimals3 percentile ∷ atar band ∷ [])

-- id, number and place; of a file number and place
abbrev pub refused_line : ℕ → ℕ → ℕ → List ℕ
refused_line id number place = ended (digits id ∷ refused ∷ digits number ∷ digits place ∷ [])

abbrev pub file_line : ℕ → ℕ → List ℕ
file_line number place = ended (refused ∷ digits number ∷ digits place ∷ [])

-- the bytes that a line has room for
abbrev pub line_bytes : ℕ
line_bytes = 64

-- what a line shows: the first of its bytes, as many as its length says
abbrev pub shown : Line → List ℕ
shown line = take line.length line.bytes

-- a line shows a text, which fits, and holds nothing else: past the text its bytes are 0
pub record Shows (line : Line) (text : List ℕ) : Type 0 where
  pub fits : length text ≤ line_bytes
  pub same : shown line ≡ text
  pub long : line.length ≡ length text
  pub rest : drop line.length line.bytes ≡ replicate (line_bytes - length text) 0

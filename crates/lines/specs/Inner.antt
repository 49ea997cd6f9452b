-- The lines of what is noted, and a text put into a buffer.
use Rattle.std.specs.Prelude.{ℕ, suc, ◌+◌, ◌*◌, ◌≤◌, ◌≡◌, List, [], ◌∷◌, ◌++◌, length, get_or, drop}
use Rattle.paper.specs.Limits.{most_students}
use Rattle.paper.specs.Parts.{laid}
use Rattle.paper.specs.Words.{◌=?◌, when◌then◌else◌}
use Rattle.listing.specs.Lines.{refused_line, line_bytes, shown, Shows}
use Rattle.listing.specs.declared.writing.Line.{Line}
use Rattle.printed.specs.Report.{Columns, eligible_line}

-- a student's line: with the number 0 the one that is given for an eligible student, else that of the refusal
abbrev pub line_or : List ℕ → ℕ → ℕ → ℕ → List ℕ
line_or line id number place = when number =? 0 then line else refused_line id number place

-- the line of the student of whom this is noted, and who is, if eligible, the j-th of the eligible
abbrev pub line_noted : Columns → ℕ → ℕ → ℕ → ℕ → List ℕ
line_noted c j id number place = line_or (eligible_line c j id) id number place

-- how many are eligible with one student more
abbrev pub after_noted : ℕ → ℕ → ℕ
after_noted j number = when number =? 0 then suc j else j

-- a line per student, from ids, numbers and places; j students before them are eligible
unfoldable pub lines_noted : Columns → ℕ → List ℕ → List ℕ → List ℕ → List ℕ
lines_noted c j ids [] places = []
lines_noted c j ids (number ∷ numbers) places =
    line_noted c j (get_or ids 0 0) number (get_or places 0 0) ++ lines_noted c (after_noted j number) (drop 1 ids) numbers (drop 1 places)

-- how many are eligible with these students more
unfoldable pub eligible_noted : ℕ → List ℕ → ℕ
eligible_noted j [] = j
eligible_noted j (number ∷ numbers) = eligible_noted (after_noted j number) numbers

-- at most 512 students, of each of whom number and place are noted, and room for their lines
pub record Listable (ids numbers places text : List ℕ) : Type 0 where
  pub few : length ids ≤ most_students
  pub numbers_long : length numbers ≡ length ids
  pub places_long : length places ≡ length ids
  pub room : line_bytes * length ids ≤ length text

-- a line that shows a text, and room for it at a place
pub record Appendable (line : Line) (text : List ℕ) (place : ℕ) : Type 0 where
  pub shows : Shows line (shown line)
  pub room : place + line_bytes ≤ length text

-- a text put into a buffer, from a place to an end
pub record Put (before after : List ℕ) (place end : ℕ) (text : List ℕ) : Type 0 where
  pub content : after ≡ laid before place text
  pub ends : end ≡ place + length text

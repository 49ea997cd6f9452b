-- How far a file is read, and how its next field is judged for 1, then 2. Each rule's place is p, the offset of the field's tag.
use Rattle.std.specs.Prelude.{ℕ, ◌+◌, Bool, false, not, List, [], ◌∷◌, length}
use Rattle.paper.specs.Limits.{most_subjects, most_students}
use Rattle.paper.specs.Words.{◌≤?◌, ◌<?◌, ◌=?◌, ◌≠?◌, when◌then◌else◌}
use Rattle.paper.specs.Ranges.{within}
use Rattle.paper.specs.Rulings.{Rule, ◌⇒◌, ◌at◌}
use Rattle.fields.specs.Fields.{Field, length_of}
use Rattle.fields.specs.declared.order.Far.{Far}

-- before the first field: no tag, no subject, no student, no result
abbrev pub start : Far
start = record { last = 0; subjects = 0; students = 0; latest = 0 }

-- with a field of a tag more: a subject, a student with no result yet, or a result of the latest student
abbrev pub further : Far → ℕ → Far
further far tag = record {
  last = tag;
  subjects = when tag =? 2 then far.subjects + 1 else far.subjects;
  students = when tag =? 5 then far.students + 1 else far.students;
  latest = when tag =? 5 then 0 else when tag =? 6 then far.latest + 1 else far.latest;
}

-- the order of the tags: 1 comes first; 2 after 1 or 2; 3 and 4 after 1, 2 or 3; 5 after 4, 5 or 6; 6 after 5 or 6
abbrev pub follows : ℕ → ℕ → Bool
follows last tag =
    when tag =? 1 then last =? 0
    else when tag =? 2 then within 1 2 last
    else when tag =? 3 then within 1 3 last
    else when tag =? 4 then within 1 3 last
    else when tag =? 5 then within 4 6 last
    else when tag =? 6 then within 5 6 last
    else false

-- no more of the tag: of subjects, of students, and of results to a student up to a limit
abbrev pub full : ℕ → Far → ℕ → Bool
full limit far tag =
    when tag =? 2 then most_subjects ≤? far.subjects
    else when tag =? 5 then most_students ≤? far.students
    else when tag =? 6 then limit ≤? far.latest
    else false

-- 1: an unknown tag, a wrong length, out of order; 2: over a limit
abbrev pub head_rules : ℕ → Far → ℕ → ℕ → ℕ → List Rule
head_rules limit far tag long p =
    not (within 1 6 tag) ⇒ 1 at p
    ∷ long ≠? length_of tag ⇒ 1 at p
    ∷ not (follows far.last tag) ⇒ 1 at p
    ∷ full limit far tag ⇒ 2 at p
    ∷ []

abbrev pub order_rules : ℕ → Far → Field → ℕ → List Rule
order_rules limit far f p = head_rules limit far f.tag (length f.value) p

-- 1: the file ends before its tag 1 or its tag 4
abbrev pub end_rules : Far → ℕ → List Rule
end_rules far end = far.last <? 4 ⇒ 1 at end ∷ []

-- What a field adds to what is held, by its tag.
use Rattle.std.specs.Prelude.{ℕ, ◌*◌, List, [], ◌∷◌, ◌++◌}
use Rattle.paper.specs.Limits.{figure_count, figure_bytes}
use Rattle.paper.specs.Words.{◌=?◌, when◌then◌else◌}
use Rattle.paper.specs.Lists.{listed}
use Rattle.paper.specs.Bytes.{byte, word, long}
use Rattle.scores.specs.Rows.{missing_row, stored}
use Rattle.fields.specs.Fields.{Field}
use Rattle.held.specs.Held.{Enrolled, Held}

-- 1: the year
abbrev pub with_year : Held → List ℕ → Held
with_year held v = record { year = word v 0; catalogue = held.catalogue; table = held.table; figures = held.figures; students = held.students }

-- 2: a catalogue entry, and the subject's row, every slot missing, by a name that unfolds to its bytes only where they are asked for
unfoldable pub new_row : List ℕ
new_row = missing_row

abbrev pub with_subject : Held → List ℕ → Held
with_subject held v = record { year = held.year; catalogue = held.catalogue ++ v; table = held.table ++ new_row; figures = held.figures; students = held.students }

-- 3: a score, in its subject's slot
abbrev pub with_score : Held → List ℕ → Held
with_score held v = record { year = held.year; catalogue = held.catalogue; table = stored held.table (word v 0) (byte v 2) (long v 3); figures = held.figures; students = held.students }

-- 4: the figures, four bytes each
abbrev pub figures_in : List ℕ → List ℕ
figures_in v = listed 0 figure_count (λ i. long v (figure_bytes * i))

abbrev pub with_figures : Held → List ℕ → Held
with_figures held v = record { year = held.year; catalogue = held.catalogue; table = held.table; figures = figures_in v; students = held.students }

-- 5: a student with no result
abbrev pub fresh : ℕ → Enrolled
fresh id = record { id = id; results = [] }

abbrev pub with_student : Held → List ℕ → Held
with_student held v = record { year = held.year; catalogue = held.catalogue; table = held.table; figures = held.figures; students = held.students ++ (fresh (long v 0) ∷ []) }

-- 6: a result, that joins those of the latest student
abbrev pub joined : List Enrolled → List ℕ → List Enrolled
joined [] v = []
joined (s ∷ []) v = record { id = s.id; results = s.results ++ v } ∷ []
joined (s ∷ (t ∷ students)) v = s ∷ joined (t ∷ students) v

abbrev pub with_result : Held → List ℕ → Held
with_result held v = record { year = held.year; catalogue = held.catalogue; table = held.table; figures = held.figures; students = joined held.students v }

-- what is held with a field that breaks no rule
abbrev pub taken : Held → Field → Held
taken held f =
    when f.tag =? 1 then with_year held f.value
    else when f.tag =? 2 then with_subject held f.value
    else when f.tag =? 3 then with_score held f.value
    else when f.tag =? 4 then with_figures held f.value
    else when f.tag =? 5 then with_student held f.value
    else when f.tag =? 6 then with_result held f.value
    else held

-- How the values of a field are judged. Each rule's place is p, the offset of the field's tag.
use Rattle.std.specs.Prelude.{ℕ, Bool, true, false, not, List, [], ◌∷◌, length, get_or}
use Rattle.paper.specs.Limits.{slots, top_score, least_year, most_year}
use Rattle.paper.specs.Words.{◌≤?◌, ◌<?◌, ◌=?◌, when◌then◌else◌}
use Rattle.paper.specs.Ranges.{within}
use Rattle.paper.specs.Lists.{some}
use Rattle.paper.specs.Bytes.{byte, word, long}
use Rattle.paper.specs.Rulings.{Rule, ◌⇒◌, ◌at◌}
use Rattle.catalogue.specs.Catalogue.{subjects, entry_at, outside}
use Rattle.scores.specs.Scores.{Found, scaled, absent, too_high, found}
use Rattle.curve.specs.Population.{population_rules}
use Rattle.fields.specs.Fields.{Field}
use Rattle.held.specs.Held.{Held, ids_of}
use Rattle.held.specs.Taking.{figures_in}

-- 14: the year outside its range
abbrev pub year_rules : List ℕ → ℕ → List Rule
year_rules v p = not (within least_year most_year (word v 0)) ⇒ 14 at p ∷ []

-- 3: an entry outside its ranges
abbrev pub subject_rules : List ℕ → ℕ → List Rule
subject_rules v p = outside (entry_at v 0) ⇒ 3 at p ∷ []

-- a slot that is not missing
abbrev pub given : Found → Bool
given (scaled v) = true
given absent = false
given too_high = true

-- 3: the subject is not in the catalogue; 5: the slot outside 1..100 or the value over the greatest score; 6: the slot again
abbrev pub score_rules : ℕ → List ℕ → List ℕ → ℕ → List Rule
score_rules n table v p =
    n ≤? word v 0 ⇒ 3 at p
    ∷ not (within 1 slots (byte v 2)) ⇒ 5 at p
    ∷ top_score <? long v 3 ⇒ 5 at p
    ∷ given (found table (word v 0) (byte v 2)) ⇒ 6 at p
    ∷ []

-- rules with all places at p
abbrev pub all_at : ℕ → List Rule → List Rule
all_at p [] = []
all_at p (test ⇒ number at place ∷ rules) = test ⇒ number at p ∷ all_at p rules

-- 9, 10: as the population has it
abbrev pub figures_rules : List ℕ → ℕ → List Rule
figures_rules v p = all_at p (population_rules (figures_in v))

-- an id is among others
unfoldable pub holds_id : List ℕ → ℕ → Bool
holds_id ids id = some (length ids) (λ i. get_or ids i 0 =? id)

-- 6: the id again
abbrev pub student_rules : List ℕ → List ℕ → ℕ → List Rule
student_rules ids v p = holds_id ids (long v 0) ⇒ 6 at p ∷ []

-- of each tag; results are judged with their student
abbrev pub value_rules : Held → Field → ℕ → List Rule
value_rules held f p =
    when f.tag =? 1 then year_rules f.value p
    else when f.tag =? 2 then subject_rules f.value p
    else when f.tag =? 3 then score_rules (subjects held.catalogue) held.table f.value p
    else when f.tag =? 4 then figures_rules f.value p
    else when f.tag =? 5 then student_rules (ids_of held.students) f.value p
    else []

-- The row of first scores: which slot each result goes to, and what each slot holds.
use Rattle.std.specs.Prelude.{ℕ, ◌+◌, ◌*◌, List, [], ◌∷◌, length, get_or}
use Rattle.paper.specs.Limits.{slots, missing, score_parts}
use Rattle.paper.specs.Lists.{first}
use Rattle.paper.specs.Words.{◌<?◌, ◌=?◌, when◌then◌else◌}
use Rattle.catalogue.specs.Kinds.{is_general, is_applied, is_vet}
use Rattle.scores.specs.Rows.{row_of, missing_row}
use Rattle.firsts.specs.Counts.{total, score}

-- the slots of Applied results, from E to A
abbrev pub applied_slots : List ℕ
applied_slots = 10 ∷ 30 ∷ 50 ∷ 70 ∷ 90 ∷ []

-- how many counts are lent: 100 for General, 5 for Applied, none for VET
abbrev pub asked : ℕ → ℕ
asked kind = when is_general kind then slots else when is_applied kind then length applied_slots else 0

-- the slot of result j: General, the results 1 to 100 into slots 1 to 100; Applied, E to A into theirs
abbrev pub slot_for : ℕ → ℕ → ℕ
slot_for kind j = when is_applied kind then get_or applied_slots j 0 else j + 1

-- what a slot holds: the score of the result that goes there; missing, where none does
unfoldable pub score_in : ℕ → List ℕ → ℕ → ℕ
score_in kind counts slot =
    let j = first (length counts) (λ i. slot_for kind i =? slot) in
    when j <? length counts then score counts j else missing

-- VET takes no counts and gets 50.0000 in slot 1, the rest missing
abbrev pub vet_in : ℕ → ℕ
vet_in slot = when slot =? 1 then 50 * score_parts else missing

-- the row of a kind and its counts; with a total of 0 it is missing
unfoldable pub row_for : ℕ → List ℕ → List ℕ
row_for kind counts =
    when is_vet kind then row_of vet_in
    else when total counts =? 0 then missing_row
    else row_of (score_in kind counts)

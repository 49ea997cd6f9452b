-- How a student is judged before 6: before the results are read, and each result as it is read.
use Rattle.std.specs.Prelude.{ℕ, ◌≡◌, Bool, not, ◌&&◌, List, [], ◌∷◌, ◌++◌}
use Rattle.paper.specs.Rulings.{accepted, Rule, ◌⇒◌, ◌at◌, judged}
use Rattle.paper.specs.Words.{◌≤?◌}
use Rattle.catalogue.specs.Catalogue.{catalogue_rules}
use Rattle.scores.specs.Scores.{Found}
use Rattle.results.specs.Results.{Student}
use Rattle.results.specs.Counting.{usable}
use Rattle.results.specs.declared.reading.StudentResult.{StudentResult}
use Rattle.sets.specs.Rules.{wrong, is_score, input_rules}

-- a result, what is found in its slot: it is usable, and that is no score
abbrev pub unscored_with : StudentResult → Found → Bool
unscored_with r slot = usable r && not (is_score slot)

-- number of subjects, assessment year, result, what is found in its slot, its index: 3, 4, 5
abbrev pub rules_of : ℕ → ℕ → StudentResult → Found → ℕ → List Rule
rules_of known year r slot i =
    known ≤? r.subject ⇒ 3 at i
    ∷ wrong year r ⇒ 4 at i
    ∷ unscored_with r slot ⇒ 5 at i
    ∷ []

-- before the results are read
abbrev pub start_rules : Student → List ℕ → List Rule
start_rules s table = catalogue_rules s.catalogue ++ input_rules s table

-- nothing of that refuses
abbrev pub Begun : Student → List ℕ → Type 0
Begun s table = judged (start_rules s table) (tt {0}) ≡ accepted tt

-- What the sets are made of: the score of a result, and its identity.
use Rattle.std.specs.Prelude.{ℕ, List}
use Rattle.paper.specs.Words.{when◌then◌else◌}
use Rattle.catalogue.specs.Kinds.{is_identified}
use Rattle.scores.specs.Scores.{Found, scaled, absent, too_high, found, slot_of}
use Rattle.results.specs.Results.{Student, result}
use Rattle.results.specs.declared.reading.StudentResult.{StudentResult}

-- what is found in the slot of a result
unfoldable pub score_found : List ℕ → StudentResult → Found
score_found table r = found table r.subject (slot_of r.entry.kind r.letter r.number)

-- a score in ten-thousandths; 0 where there is none
abbrev pub worth : Found → ℕ
worth (scaled v) = v
worth absent = 0
worth too_high = 0

-- the score of a result
unfoldable pub score : List ℕ → StudentResult → ℕ
score table r = worth (score_found table r)

-- the identity of a result of kinds 1 or 3; 0 for the others
unfoldable pub own_identity : StudentResult → ℕ
own_identity r = when is_identified r.entry.kind then r.entry.identity else 0

-- the same of result i: student, table, i; and student, i
abbrev pub score_at : Student → List ℕ → ℕ → ℕ
score_at s table i = score table (result s i)

abbrev pub identity_at : Student → ℕ → ℕ
identity_at s i = own_identity (result s i)

-- What a listing tells of an eligible student, in the demands' own terms.
use Rattle.std.specs.Prelude.{ℕ, ◌≡◌, ◌⊎◌, List, [], ◌∷◌, ◌++◌, length, get_or}
use Rattle.results.specs.Results.{student}
use Rattle.sets.specs.Promise.{Chosen}
use Rattle.sets.specs.declared.BestSet.{BestSet}
use Rattle.curve.specs.Population.{Y}
use Rattle.ranks.specs.Ranking.{rank, percentile}
use Rattle.placements.specs.Placing.{BestPlacement}
use Rattle.held.specs.Held.{Enrolled, Held}
use Rattle.listing.specs.Text.{line_feed}
use Rattle.listing.specs.Lines.{student_line}
use Rattle.printed.specs.Report.{eligible_of, participation, text_of}

-- no text, or one that ends in a line feed
abbrev pub WholeLines : List ℕ → Type 0
WholeLines text = (text ≡ []) ⊎ ((front : List ℕ) × (text ≡ front ++ (line_feed ∷ [])))

-- a line stands in a text as a line: whole lines stand before it
pub record In (line text : List ℕ) : Type 0 where
  pub before : List ℕ
  pub whole : WholeLines before
  pub after : List ℕ
  pub text_is : text ≡ before ++ (line ++ after)

-- the j-th of the eligible: the aggregate is that of the greatest total over all admissible sets of its results, the band is that of the best
-- placement, over all placements, of the eligible, and these are printed with its rank and percentile among the eligible
pub record Estimated (file : List ℕ) (held : Held) (s : Enrolled) (j : ℕ) : Type 0 where
  pub values : BestSet
  pub greatest : Chosen (student held.catalogue held.year s.results) held.table values
  pub own : get_or (eligible_of held) j 0 ≡ values.aggregate
  pub bands : List ℕ
  pub best : BestPlacement (eligible_of held) (participation held.figures) (Y held.figures) bands
  pub printed : In (student_line s.id values.aggregate (rank (eligible_of held) j) (percentile (length (eligible_of held)) (rank (eligible_of held) j)) (get_or bands j 0)) (text_of file)

-- What the functions below the entry promise each other.
use Rattle.std.specs.Prelude.{ℕ, ◌≤◌, ◌≡◌, List, ◌++◌, length}
use Rattle.paper.specs.Limits.{most_subjects, most_students}
use Rattle.catalogue.specs.Catalogue.{subjects}
use Rattle.placements.specs.Placing.{remainder}
use Rattle.listing.specs.Lines.{cohort_line}
use Rattle.printed.specs.Sizes.{text_bytes}
use Rattle.printed.specs.Report.{columns_of}
use Rattle.printed.specs.InnerCohorts.{Populated, Cohort}
use Rattle.outcomes.specs.Inner.{Few}
use Rattle.lines.specs.Inner.{lines_noted, eligible_noted}

-- what is noted of the students of a cohort, and a text buffer
pub record Ready (rate population : ℕ) (ids numbers places aggregates text : List ℕ) : Type 0 where
  pub cohort : Cohort aggregates rate population
  pub few : length ids ≤ most_students
  pub numbers_long : length numbers ≡ length ids
  pub places_long : length places ≡ length ids
  pub eligible : eligible_noted 0 numbers ≡ length aggregates
  pub room : length text ≡ text_bytes

-- the listing, from what is noted
abbrev pub listed_noted : List ℕ → List ℕ → List ℕ → List ℕ → List ℕ → ℕ → List ℕ
listed_noted ids numbers places aggregates table Y =
    cohort_line (length ids) (length aggregates) (remainder aggregates table Y)
    ++ lines_noted (columns_of aggregates table Y) 0 ids numbers places

-- a cohort in buffers, and a text buffer
pub record Read (rate population : ℕ) (catalogue ids counts results text : List ℕ) : Type 0 where
  pub few_subjects : subjects catalogue ≤ most_subjects
  pub populated : Populated rate population
  pub ids_long : length ids ≡ length counts
  pub few : Few counts results
  pub room : length text ≡ text_bytes

-- A listing with somebody left over, computed: for the office's crate has the walk that report has no need of.
use Prim.Native.Nat.{ℕ}
use mathlib.Core.Path.{◌≡◌, refl}
use mathlib.Core.List.{[], ◌∷◌, ◌++◌}
use Rattle.paper.specs.Rounding.{nearest}
use Rattle.paper.specs.Lists.{sum, count, sum_of, listed}
use Rattle.paper.specs.Words.{◌=?◌, when◌then◌else◌}
use Rattle.paper.specs.Rulings.{Outcome, accepted, refused, ◌at◌}
use Rattle.sets.specs.declared.BestSet.{BestSet}
use Rattle.ranks.specs.Ranking.{ranks_of, percentiles_of}
use Rattle.tally.specs.Places.{places, band_up_to}
use Rattle.placements.specs.Placing.{remainder}
use Rattle.placements.specs.Bands.{bands_of}
use Rattle.held.specs.Held.{Enrolled}
use Rattle.listing.specs.Lines.{cohort_line, student_line, refused_line}
use Rattle.printed.specs.Report.{aggregates_of, lines_of, listed as listing}

-- students 5, 6, 7 and 8, of whom 6 is refused, and the others have 5.00, 3.00 and 4.00
abbrev enrolled : ℕ → Enrolled
enrolled id = record { id = id; results = [] }

abbrev gets : ℕ → Outcome BestSet
gets aggregate = accepted (record { aggregate = aggregate; set = 31 })

abbrev outcomes : Enrolled → Outcome BestSet
outcomes s = when s.id =? 5 then gets 500 else when s.id =? 7 then gets 300 else when s.id =? 8 then gets 400 else refused (8 at 0)

-- at Y=2000 a place at band 3 and one at band 0: the first stands in band 3, the second in band 0, and the third is left over there
pub one-over :
    listing outcomes (1000000 ∷ 0 ∷ 0 ∷ 1000000 ∷ []) 2000 (enrolled 5 ∷ enrolled 6 ∷ enrolled 7 ∷ enrolled 8 ∷ [])
    ≡ cohort_line 4 3 1 ++ (student_line 5 500 3 100000 3 ++ (refused_line 6 8 0 ++ (student_line 7 300 1 33333 0 ++ (student_line 8 400 2 66667 0 ++ []))))
unfolding lines_of aggregates_of ranks_of percentiles_of bands_of remainder band_up_to places listed count sum sum_of nearest
one-over = refl

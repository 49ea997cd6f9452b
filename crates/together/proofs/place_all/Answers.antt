use Prim.Native.Nat.{ℕ}
use mathlib.Core.Path.{◌≡◌, ap, ◌∙◌}
use mathlib.Core.List.{List}
use lib.ListN.{length}
use Rattle.paper.specs.Limits.{tally_count}
use Rattle.tally.specs.Counts.{tally_of}
use Rattle.tally.specs.InnerTally.{sums_from, bands_by, remainder_by}
use Rattle.tally.proofs.Tallies.{walked_within, tally_exists, total-few}
use Rattle.together.specs.Inner.{read_of}
use Rattle.together.proofs.ByTally.{read-walked, remainder-walked}
use Rattle.together.proofs.place_all.Goals as goal
use Rattle.together.proofs.place_all.Goals.{After-walk-remainder}

-- the bands of the aggregates
walk-bands : (c : After-walk-remainder) → c.walk-remainder.new.counts ≡ bands_by c.args.table.now c.args.population (sums_from (tally_of c.args.aggregates.now))
walk-bands c = c.walk-remainder.ensures.1 ∙ ap (λ (l : List ℕ). bands_by c.args.table.now c.args.population (sums_from l)) c.requires.tallied

-- the counts keep their length
walk-long : (c : After-walk-remainder) → length c.walk-remainder.new.counts ≡ tally_count
walk-long c = c.walk-remainder.auto.counts ∙ ap length c.requires.tallied ∙ (tally_exists c.args.aggregates.now).long

pub walk-remainder-requires : goal.walk-remainder-requires
walk-remainder-requires c =
    let h = c.requires in
    record { sized = h.ready.sized; people = h.ready.people; few = rw h.tallied (total-few c.args.aggregates.now h.ready.students) }

pub band_each-requires : goal.band_each-requires
band_each-requires c =
    let w = (goal.at.band_each-requires c).After-walk-remainder in
    let h = c.requires.ready in
    record {
      students = h.students;
      long = walk-long w;
      within = rw (walk-bands w) (walked_within c.args.table.now c.args.population (sums_from (tally_of c.args.aggregates.now)));
      lent = h.lent;
    }

-- counting again asks for the students,
-- and for as many counts as there were
pub count-requires : goal.count-requires
count-requires c = record { students = c.requires.ready.students; long = walk-long ((goal.at.count-requires c).After-walk-remainder) }

pub returns : goal.returns
returns c =
    let xs = c.args.aggregates.now in
    let table = c.args.table.now in
    let people = c.args.population in
    let students = c.requires.ready.students in (
      c.walk-remainder.ensures.0 ∙ ap (λ (l : List ℕ). remainder_by table people (sums_from l)) c.requires.tallied ∙ remainder-walked xs students table people,
      c.band_each.ensures ∙ ap (read_of xs) (walk-bands ((goal.at.returns c).After-walk-remainder)) ∙ read-walked xs students table people,
      c.count.ensures,
    )

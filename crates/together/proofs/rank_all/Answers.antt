use mathlib.Core.Path.{◌≡◌, ap, ◌∙◌}
use Rattle.tally.specs.Counts.{tally_of}
use Rattle.tally.specs.InnerTally.{sums_to, steps_of}
use Rattle.tally.proofs.Tallies.{sums_to-long, sums_to-rising, parted_back, tally_exists, total-few}
use Rattle.together.specs.Inner.{read_of, percents_of}
use Rattle.together.proofs.ByTally.{sums_within, read-ranked, read-percents}
use Rattle.together.proofs.rank_all.Goals as goal
use Rattle.together.proofs.rank_all.Goals.{After-sum_up}

-- the sums of the tally
sums : (c : After-sum_up) → c.sum_up.new.counts ≡ sums_to (tally_of c.args.aggregates.now)
sums c = c.sum_up.ensures ∙ ap sums_to c.count.ensures

pub sum_up-requires : goal.sum_up-requires
sum_up-requires c = rw c.count.ensures (total-few c.args.aggregates.now c.requires.students)

pub rank_each-requires : goal.rank_each-requires
rank_each-requires c =
    let s = sums ((goal.at.rank_each-requires c).After-sum_up) in
    let xs = c.args.aggregates.now in
    record {
      students = c.requires.students;
      long = rw s (sums_to-long (tally_of xs) ∙ (tally_exists xs).long);
      within = rw s (sums_within xs c.requires.students);
      ranks_long = c.requires.ranks_long;
      percentiles_long = c.requires.percentiles_long;
    }

pub take_apart-requires : goal.take_apart-requires
take_apart-requires c = rw (sums ((goal.at.take_apart-requires c).After-sum_up)) (sums_to-rising (tally_of c.args.aggregates.now))

pub returns : goal.returns
returns c =
    let s = sums ((goal.at.returns c).After-sum_up) in
    let xs = c.args.aggregates.now in (
      c.rank_each.ensures.0 ∙ ap (read_of xs) s ∙ read-ranked xs c.requires.students,
      c.rank_each.ensures.1 ∙ ap (percents_of xs) s ∙ read-percents xs c.requires.students,
      c.take_apart.ensures ∙ ap steps_of s ∙ parted_back (tally_of xs),
    )

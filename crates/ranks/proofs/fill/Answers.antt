use Rattle.std.proofs.Common.{arith}
use mathlib.Core.Path.{sym, ◌∙◌}
use Rattle.ranks.specs.Inner.{SameCounts}
use Rattle.ranks.proofs.Halves.{same_of}
use Rattle.ranks.proofs.Promised.{counted-long, counted-within, all_ranked}
use Rattle.ranks.proofs.fill.Goals as goal
use Rattle.ranks.proofs.fill.Goals.{After-count_each}

-- the values are counted as where they are sorted
same : (c : After-count_each) → SameCounts c.args.values.now c.sort.new.to
same c = same_of c.copy-2.ensures c.sort.ensures.1

pub percent_each-requires : goal.percent_each-requires
percent_each-requires c =
    let s = same ((goal.at.percent_each-requires c).After-count_each) in
    let long = counted-long _ _ _ s c.count_each.ensures in
    record { few = omega (arith, long, c.requires.few); long = s.long ∙ sym long; within = counted-within _ _ _ s c.count_each.ensures }

pub returns : goal.returns
returns c =
    let s = same ((goal.at.returns c).After-count_each) in
    all_ranked _ _ _ s c.count_each.ensures _ c.percent_each.ensures

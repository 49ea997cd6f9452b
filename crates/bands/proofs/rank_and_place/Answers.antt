use mathlib.Core.List.{List}
use mathlib.Core.Path.{ap, ◌∙◌}
use lib.ListN.{length}
use Rattle.paper.specs.Rulings.{Rule, accepted}
use Rattle.paper.proofs.Said.{screened_kept, screened_clear}
use Rattle.placements.specs.Placing.{remainder}
use Rattle.placements.specs.Promise.{Lent, lent, together_rules}
use Rattle.placements.proofs.Promised.{together-holds, together-ready}
use Rattle.bands.proofs.rank_and_place.Goals as goal
use Rattle.bands.proofs.rank_and_place.Goals.{After-together}

-- what is given where it is screened
abbrev buffers : After-together → Lent
buffers c = lent c.args.ranks.now c.args.percentiles.now c.args.bands.now c.args.counts.now

abbrev rules : After-together → List Rule
rules c =
    let before = buffers c in
    together_rules c.args.aggregates.now c.args.table.now c.args.population (length before.ranks) (length before.percentiles) (length before.bands) (length before.counts)

pub fill-remainder-requires : goal.fill-remainder-requires
fill-remainder-requires c =
    let d = (goal.at.fill-remainder-requires c).After-together in
    together-ready c.args.aggregates.now c.args.table.now c.args.population (buffers d) (screened_kept (rules d) d.together.ensures c.in_ok-together.was)

pub returns : goal.returns
returns c =
    let d = (goal.at.returns c).After-together in
    let a = c.args in
    let h = c.fill-remainder.ensures in
    record {
      says = ap accepted h.0 ∙ screened_clear (rules d) d.together.ensures (remainder a.aggregates.now a.table.now a.population) c.in_ok-together.was;
      leaves = rw h.1 (together-holds a.aggregates.now a.table.now a.population);
    }

use Rattle.placements.proofs.Promised.{direct_ready}
use Rattle.placements.proofs.Placed.{best-exists}
use Rattle.placements.specs.Placing.{remainder}
use Rattle.placements.specs.Promise.{direct_rules}
use Rattle.paper.proofs.Said.{screened_kept, screened_clear}
use Rattle.paper.specs.Rulings.{accepted}
use mathlib.Core.Path.{ap, ◌∙◌}
use lib.ListN.{length}
use Rattle.bands.proofs.place.Goals as goal

pub place_each-requires : goal.place_each-requires
place_each-requires c =
    let a = c.args in
    let rules = direct_rules a.aggregates.now a.table.now a.population (length a.bands.now) in
    direct_ready a.aggregates.now a.table.now a.population a.bands.now (screened_kept rules c.direct.ensures c.in_ok-direct.was)

pub returns : goal.returns
returns c =
    let a = c.args in
    let rules = direct_rules a.aggregates.now a.table.now a.population (length a.bands.now) in
    let h = c.place_each.ensures in
    record {
      says = ap accepted h.0 ∙ screened_clear rules c.direct.ensures (remainder a.aggregates.now a.table.now a.population) c.in_ok-direct.was;
      leaves = rw h.1 (best-exists a.aggregates.now a.table.now a.population);
    }

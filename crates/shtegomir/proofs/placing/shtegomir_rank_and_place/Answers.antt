use native.Mathlib.Omega.{arith}
use Rattle.placements.specs.Promise.{lent}
use Rattle.told.proofs.Few.{together-few}
use Rattle.shtegomir.proofs.placing.shtegomir_rank_and_place.Goals as goal

pub flatten-requires : goal.flatten-requires
flatten-requires c =
    let a = c.args in
    let buffers = lent a.ranks.now a.percentiles.now a.bands.now a.counts.now in
    omega (arith, together-few a.aggregates.now a.table.now a.population buffers c.rank_and_place.ensures)

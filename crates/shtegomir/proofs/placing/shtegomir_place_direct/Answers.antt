use native.Mathlib.Omega.{arith}
use Rattle.told.proofs.Few.{direct_few}
use Rattle.shtegomir.proofs.placing.shtegomir_place_direct.Goals as goal

pub flatten-requires : goal.flatten-requires
flatten-requires c =
    let place = c.place in
    let given = c.args in
    omega (arith, direct_few given.aggregates.now given.table.now given.population given.bands.now place.ensures)

use mathlib.Core.Path.{refl}
use Rattle.tally.proofs.Reaching.{top_stands}
use Rattle.tally.proofs.search.Places.top.Goals as goal

pub returns : goal.returns
returns c =
    (refl, top_stands c.args.self.now.sized c.from-sum.ensures c.of.ensures)

use mathlib.Core.Path.{refl}
use Rattle.listing.specs.Inner.{padded}
use Rattle.listing.proofs.writing.Line.new.Goals as goal

pub returns : goal.returns
unfolding padded
returns c =
    refl

use Rattle.listing.proofs.Joining.{◌then◌}
use Rattle.listing.proofs.Fits.{file-fits}
use Rattle.listing.proofs.writing.Line.refusal.Goals as goal

pub returns : goal.returns
returns c =
    (rw c.from.ensures at (c.text.ensures then c.number.ensures then c.text-2.ensures then c.number-2.ensures then c.text-3.ensures), file-fits _ _ c.ranges.number.fits c.ranges.place.fits)

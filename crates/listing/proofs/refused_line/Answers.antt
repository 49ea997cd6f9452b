use Rattle.listing.proofs.Fits.{refused-fits}
use Rattle.listing.proofs.Joining.{written, ◌then◌}
use Rattle.listing.proofs.refused_line.Goals as goal

pub returns : goal.returns
returns c =
    written (refused-fits _ _ _ c.ranges.id.fits c.refusal.ensures.1) c.new.ensures (rw c.from.ensures at (c.number.ensures then c.text.ensures then c.refusal.ensures.0))

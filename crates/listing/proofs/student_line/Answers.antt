use Rattle.listing.proofs.Joining.{written, ◌then◌}
use Rattle.listing.proofs.Fits.{student-fits}
use Rattle.listing.proofs.student_line.Goals as goal

pub returns : goal.returns
returns c =
    let fits = c.ranges in
    written (student-fits _ _ _ _ _ fits.id.fits fits.aggregate.fits fits.rank.fits fits.percentile.fits fits.band.fits) c.new.ensures
    (rw (c.from.ensures, c.from-2.ensures, c.from-3.ensures, c.from-4.ensures) at
    (c.number.ensures then c.text.ensures then c.hundredths.ensures then c.text-2.ensures then c.number-2.ensures then c.text-3.ensures then c.thousandths.ensures then c.text-4.ensures then c.atar.ensures then c.text-5.ensures))

use Rattle.listing.proofs.Joining.{written, ◌then◌}
use Rattle.listing.proofs.Fits.{cohort-fits}
use Rattle.listing.proofs.cohort_line.Goals as goal

pub returns : goal.returns
returns c =
    let fits = c.ranges in
    written (cohort-fits _ _ _ fits.students.fits fits.eligible.fits fits.remainder.fits) c.new.ensures
    (rw (c.from.ensures, c.from-2.ensures, c.from-3.ensures) at
    (c.text.ensures then c.number.ensures then c.text-2.ensures then c.number-2.ensures then c.text-3.ensures then c.number-3.ensures then c.text-4.ensures))

use Rattle.listing.proofs.Digits.{printed}
use Rattle.listing.proofs.writing.Line.number.Goals as goal

pub returns : goal.returns
returns c = rw (c.as_bytes.ensures.value, c.format.ensures.text, printed c.args.n c.ranges.n.fits) at c.text.ensures

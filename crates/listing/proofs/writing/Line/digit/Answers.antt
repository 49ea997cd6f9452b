use Rattle.listing.proofs.Digits.{last-digit}
use Rattle.listing.proofs.writing.Line.digit.Goals as goal

pub returns : goal.returns
returns c = rw (← last-digit c.args.n) c.number.ensures

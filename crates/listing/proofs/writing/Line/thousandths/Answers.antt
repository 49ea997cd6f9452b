use Rattle.listing.proofs.Joining.{◌then◌}
use Rattle.listing.proofs.writing.Line.thousandths.Goals as goal

pub returns : goal.returns
returns c =
    c.number.ensures then c.text.ensures then c.digit.ensures then c.digit-2.ensures then c.digit-3.ensures

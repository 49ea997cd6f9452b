use native.Mathlib.Omega.{arith}
use borrow.Author.Tests.{lt-ltb, le-ltb}
use Rattle.listing.specs.Text.{low_band, atar}
use Rattle.listing.proofs.writing.Line.atar.Goals as goal

pub returns-then-band-le-LOW_BAND : goal.returns-then-band-le-LOW_BAND
unfolding atar
returns-then-band-le-LOW_BAND c =
    rw (le-ltb low_band c.args.band (omega arith), atar) c.text.ensures

pub returns : goal.returns
unfolding atar
returns c =
    rw (lt-ltb low_band c.args.band (omega arith), atar) (rw c.from.ensures at c.hundredths.ensures)

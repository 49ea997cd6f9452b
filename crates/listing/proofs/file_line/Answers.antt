use Rattle.listing.proofs.Joining.{written}
use native.Mathlib.Omega.{arith}
use Rattle.listing.proofs.file_line.Goals as goal

pub returns : goal.returns
returns c =
    rw (← c.number.ensures, ← c.place.ensures) (written (omega (arith, c.refusal.ensures.1)) c.new.ensures c.refusal.ensures.0)

use Prim.Native.Nat.{◌*◌}
use native.Mathlib.Omega.{arith}
use Rattle.paper.specs.Limits.{figure_count, figure_bytes}
use Rattle.paper.specs.Bytes.{long}
use Rattle.paper.proofs.Listing.{is-listed}
use Rattle.cohort.proofs.values.read_figures.Goals as goal

pub returns : goal.returns
returns c =
    is-listed _ figure_count (λ j. long c.args.value.now (figure_bytes * j)) c.loop-i.invariant.0 (λ j h. c.loop-i.invariant.1 j (omega arith))

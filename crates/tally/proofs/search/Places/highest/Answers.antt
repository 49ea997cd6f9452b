use native.Mathlib.Omega.{arith}
use mathlib.Core.Path.{sym, ◌∙◌}
use Rattle.tally.proofs.Reaching.{search_sum, sum-most, search_down, search_bottom, search_fits}
use Rattle.tally.proofs.search.Places.highest.Goals as goal
use Rattle.tally.proofs.search.Places.highest.Goals.{then-k-eq0, else-k-eq0+then-fits}

pub loop-k-init : goal.loop-k-init
loop-k-init c = search_sum c.requires

pub of-requires : goal.of-requires
of-requires c = sum-most c.loop-k.invariant

pub overflow_add-sum : goal.overflow_add-sum
overflow_add-sum c = omega (arith, sum-most c.loop-k.invariant)

pub loop-k-preserved : goal.loop-k-preserved
loop-k-preserved c =
    search_down c.loop-k.invariant (omega arith) (rw c.of.ensures at (sym c.fits.ensures ∙ c.if-fits.false)) c.from-sum.ensures

pub of-requires-2 : goal.of-requires-2
of-requires-2 c = sum-most c.loop-k.invariant

pub returns : goal.returns
returns c =
    let at = c.loop-k.invariant in
    rw c.of-2.ensures (elim c.if-k-eq0.branch [
      | then-k-eq0 w ↦ rw w.band-is (search_bottom at w.if-k-eq0.true)
      | else-k-eq0+then-fits w ↦ rw w.band-is (search_fits at (rw w.of.ensures at (sym w.fits.ensures ∙ w.if-fits.true)))
    ])

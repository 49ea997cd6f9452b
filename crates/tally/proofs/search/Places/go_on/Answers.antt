use mathlib.Core.Path.{sym, ◌∙◌}
use Rattle.tally.proofs.Reaching.{search_fits}
use Rattle.tally.proofs.search.Places.go_on.Goals as goal

pub returns-then-fits : goal.returns-then-fits
returns-then-fits c =
    search_fits c.requires (sym c.fits.ensures ∙ c.if-fits.true)

use Rattle.std.proofs.Common.{Result, Ok, arith, sym, ◌∙◌, ◌≡◌, ◌≤◌, length, List, replicate, ℕ}
use lib.ListN.{length-replicate}
use lib.Seq.{length-take-le}
use Rattle.printed.specs.Promise.{Promise}
use Rattle.printed.specs.Sizes.{text_bytes}
use Rattle.paper.specs.declared.refusal.Refusal.{Refusal}
use Rattle.printed.proofs.Promised.{length-fits}
use Rattle.estimate.proofs.list.Goals as goal

-- the length that is told fits the text, which is as long as it was lent
fits : (file after : List ℕ) (r : Result ℕ Refusal) (n : ℕ)
    → length after ≡ length (replicate {A = ℕ} text_bytes 0)
    → Promise file (replicate text_bytes 0) r after
    → r ≡ Ok n
    → n ≤ length after
fits file after r n long says told =
    let z = length-replicate {A = ℕ} text_bytes 0 in
    let k : length after ≡ text_bytes = long ∙ z in
    omega (arith, length-fits file (replicate text_bytes 0) n z k says told, k)

pub slice_bounds-text-end : goal.slice_bounds-text-end
slice_bounds-text-end c = fits _ _ _ _ c.report.auto.text c.report.ensures c.in-Ok.is

pub slice_bounds-write_all-end : goal.slice_bounds-write_all-end
slice_bounds-write_all-end c =
    sym (length-take-le _ _ (fits _ _ _ _ c.report.auto.text c.report.ensures c.in-Ok.is))

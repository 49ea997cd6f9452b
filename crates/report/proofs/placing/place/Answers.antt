use Rattle.std.proofs.Common.{ℕ, Result, ap, ◌∙◌, replicate}
use Rattle.paper.specs.Limits.{band_count}
use Rattle.std.specs.Result.{result_unwrap_or}
use Rattle.paper.specs.declared.refusal.Refusal.{Refusal}
use Rattle.printed.proofs.Accepting.{all_listed}
use Rattle.printed.specs.InnerCohorts.{columns}
use Rattle.report.proofs.placing.place.Goals as goal

pub returns : goal.returns
returns c =
    let a = c.args in
    let z = all_listed a.rate a.population (columns a.aggregates.now a.ranks.now a.percentiles.now a.bands.now) c.requires (replicate band_count 0) c.draw.new.table c.draw.ensures c.ranks.ensures c.place.ensures in
    (z.0, c.unwrap_or.ensures ∙ ap (λ (r : Result ℕ Refusal). result_unwrap_or r 0) z.1)

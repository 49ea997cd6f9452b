use native.Mathlib.Omega.{arith}
use Prim.Native.Nat.{◌+◌, ◌*◌, ◌-◌}
use mathlib.Core.Path.{◌≡◌}
use lib.ListN.{take, drop}
use Rattle.results.specs.Results.{student}
use Rattle.sets.proofs.Meeting.{said-only}
use Rattle.paper.specs.Limits.{result_bytes}
use Rattle.outcomes.proofs.best_at.Goals as goal

pub returns : goal.returns
returns c =
    let a = c.args in
    let n : result_bytes * a.count ≡ a.place + result_bytes * a.count - a.place = omega arith in
    rw n (said-only (student a.catalogue.now a.year (take (a.place + result_bytes * a.count - a.place) (drop a.place a.results.now))) a.table.now c.best_set.ensures)

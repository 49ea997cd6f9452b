use mathlib.Core.Path.{◌≡◌, refl, sym, ◌∙◌}
use Rattle.paper.specs.Bytes.{long}
use Rattle.held.specs.Judging.{holds_id}
use Rattle.cohort.proofs.Laws.{any_holds}
use Rattle.cohort.proofs.judging.judge_student.Goals as goal
use Rattle.cohort.proofs.judging.judge_student.Goals.{After-contains}

-- whether the id is among those before it, as it was found
found : (k : After-contains) → holds_id k.args.ids.now (long k.args.value.now 0) ≡ k.contains.result
found k = rw (← k.long_at.ensures) (sym (any_holds k.args.ids.now k.long_at.result) ∙ sym k.contains.ensures.value)

pub returns-then-contains : goal.returns-then-contains
returns-then-contains c =
    rw (found (goal.at.returns-then-contains c).After-contains, c.if-contains.true) refl

pub returns : goal.returns
returns c =
    rw (found (goal.at.returns c).After-contains, c.if-contains.false) refl

-- What a slot holds while the row is written, result by result.
use Rattle.std.specs.Prelude.{ℕ, List}
use Rattle.paper.specs.Limits.{missing}
use Rattle.paper.specs.Lists.{first}
use Rattle.paper.specs.Words.{◌<?◌, ◌=?◌, when◌then◌else◌}
use Rattle.firsts.specs.Counts.{score}
use Rattle.firsts.specs.Row.{slot_for}

-- what a slot holds with the first n results written
unfoldable pub score_among : ℕ → List ℕ → ℕ → ℕ → ℕ
score_among kind counts n slot =
    let j = first n (λ i. slot_for kind i =? slot) in
    when j <? n then score counts j else missing

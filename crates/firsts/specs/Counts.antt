-- First scaled scores from counts: of how many students have each raw result of a subject, from the worst result on.
use Rattle.std.specs.Prelude.{ℕ, ◌+◌, ◌*◌, List, length, get_or}
use Rattle.paper.specs.Limits.{score_parts}
use Rattle.paper.specs.Lists.{sum}
use Rattle.paper.specs.Rounding.{nearest}

-- results are counted from 0, the worst first: all counts below result j; and all there are, the subject's total
abbrev pub below : List ℕ → ℕ → ℕ
below counts j = sum j (λ i. get_or counts i 0)

abbrev pub total : List ℕ → ℕ
total counts = below counts (length counts)

-- the score of result j: 100 times (half the count at the result, plus all below), divided by the subject's total, in the table's parts
-- of one, nearest, halves up. Above and below the line stands twice as much, so that half a count is whole
unfoldable pub score : List ℕ → ℕ → ℕ
score counts j = nearest (100 * score_parts * (get_or counts j 0 + 2 * below counts j)) (2 * total counts)

-- What the passes over a tally make of it.
use Rattle.std.specs.Prelude.{ℕ, zero, suc, ◌+◌, ◌-◌, ◌*◌, ◌≤◌, ◌<◌, List, length, get_or, drop}
use Rattle.paper.specs.Lists.{sum, sum_of, listed}
use Rattle.paper.specs.Words.{◌<?◌, when◌then◌else◌}
use Rattle.tally.specs.Places.{one_place, places, band_of}

-- for each entry of a list the sum up to it: of a tally, how many students have an aggregate at most t
unfoldable pub sums_to : List ℕ → List ℕ
sums_to counts = listed 0 (length counts) (λ t. sum (t + 1) (λ j. get_or counts j 0))

-- the entry before t, 0 before the first; and what each entry has more than the one before it
abbrev pub previous : List ℕ → ℕ → ℕ
previous sums zero = 0
previous sums (suc t) = get_or sums t 0

unfoldable pub steps_of : List ℕ → List ℕ
steps_of sums = listed 0 (length sums) (λ t. get_or sums t 0 - previous sums t)

-- what taking sums apart asks: none is less than the one before it
abbrev pub Rising : List ℕ → Type 0
Rising sums = (t : ℕ) → t < length sums → previous sums t ≤ get_or sums t 0

-- for each entry of a list the sum from it on: of a tally, C
unfoldable pub sums_from : List ℕ → List ℕ
sums_from counts = listed 0 (length counts) (λ t. sum_of (drop t counts))

-- for each C its band
unfoldable pub bands_by : List ℕ → ℕ → List ℕ → List ℕ
bands_by table Y cs = listed 0 (length cs) (λ t. band_of table Y (get_or cs t 0))

-- at each t whose C doesn't fit band 0 the C(t) - C(t+1) students there; and all of them
abbrev pub left_at : List ℕ → ℕ → List ℕ → ℕ → ℕ
left_at table Y cs t = when places table Y 0 <? one_place * get_or cs t 0 then get_or cs t 0 - get_or cs (t + 1) 0 else 0

unfoldable pub remainder_by : List ℕ → ℕ → List ℕ → ℕ
remainder_by table Y cs = sum (length cs) (left_at table Y cs)

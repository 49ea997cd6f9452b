-- Sets of results, what a set comes to, and which of two comes first. A set is a number below 2 ^ most_results, bit i for result i.
use Rattle.std.specs.Prelude.{ℕ, zero, suc, ◌+◌, ◌/◌, ◌%◌, ◌^◌, ◌<◌, ◌≡◌, ◌⊎◌, Bool, List, [], ◌∷◌}
use Rattle.paper.specs.Words.{◌=?◌, when◌then◌else◌}
use Rattle.paper.specs.Limits.{most_results}

-- bit i of a set: 1 if result i is a member, 0 if not
abbrev pub bit : ℕ → ℕ → ℕ
bit i set = set / 2 ^ i % 2

-- result i is a member
abbrev pub In : ℕ → ℕ → Type 0
In i set = bit i set ≡ 1

-- the same as a test
abbrev pub has : ℕ → ℕ → Bool
has set i = bit i set =? 1

-- i in front, where the bit is 1
abbrev pub joined : ℕ → ℕ → List ℕ → List ℕ
joined zero i l = l
joined (suc d) i l = i ∷ l

-- the positions of the ones among the k lowest bits of a number, where the lowest has position i
unfoldable pub ones_from : ℕ → ℕ → ℕ → List ℕ
ones_from zero i n = []
ones_from (suc k) i n = joined (n % 2) i (ones_from k (suc i) (n / 2))

-- the positions of a set's members, in ascending order
abbrev pub positions : ℕ → List ℕ
positions set = ones_from most_results 0 set

-- the sum of f over positions
unfoldable pub sum_over : (ℕ → ℕ) → List ℕ → ℕ
sum_over f [] = 0
sum_over f (i ∷ l) = f i + sum_over f l

-- how many positions have f
unfoldable pub count_over : (ℕ → Bool) → List ℕ → ℕ
count_over f l = sum_over (λ i. when f i then 1 else 0) l

-- what a set comes to: the sum of its members' scores
abbrev pub comes_to : (ℕ → ℕ) → ℕ → ℕ
comes_to score set = sum_over score (positions set)

-- dictionary order
unfoldable pub Earlier : List ℕ → List ℕ → Type 0
Earlier [] [] = ⊥
Earlier [] (y ∷ ys) = Unit {0}
Earlier (x ∷ xs) [] = ⊥
Earlier (x ∷ xs) (y ∷ ys) = (x < y) ⊎ ((x ≡ y) × Earlier xs ys)

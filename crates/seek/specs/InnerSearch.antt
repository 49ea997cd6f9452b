-- How far the search has come. A set has a key: of two sets of five the one that comes first in dictionary order has the greater, and the search goes down in keys.
use Rattle.std.specs.Prelude.{ℕ, zero, suc, ◌+◌, ◌-◌, ◌*◌, ◌/◌, ◌%◌, ◌^◌, ◌≤◌, ◌<◌, ◌≡◌, ◌⊎◌, false, List, Option, Some}
use Rattle.std.specs.Int.Bits.{bit_or}
use Rattle.std.specs.Int.Count.{ones}
use Rattle.paper.specs.Limits.{most_results, top_score}
use Rattle.seek.specs.Sets.{In, comes_to}
use Rattle.seek.specs.InnerTest.{value_at, Apart, Counted, Allowed, Joins, MayJoin, Beats, Answers}
use Rattle.seek.specs.declared.search.Test.{Test}
use Rattle.seek.specs.declared.search.Lead.{Lead}

-- what is sought in: at most most_results results are held, the kept ones are among them, and no score is over the greatest
pub record Sought (mask : ℕ) (scores : List ℕ) (held : ℕ) : Type 0 where
  pub few : held ≤ most_results
  pub among : (i : ℕ) → In i mask → i < held
  pub most : (i : ℕ) → value_at scores i ≤ top_score

-- the k lowest bits of m in reverse, as a number: result 0 weighs most
unfoldable pub key : ℕ → ℕ → ℕ
key zero m = 0
key (suc k) m = (m % 2) * 2 ^ k + key k (m / 2)

-- where the keys end of a set with no member from `at` on and of all sets that go on from it: they are `key most_results set` or more, and below this
unfoldable pub room : ℕ → ℕ → ℕ
room at set = key most_results set + 2 ^ (most_results - at)

-- the admissible sets of key m or more
abbrev pub From : (ℕ → Type 0) → ℕ → ℕ → Type 0
From Adm m t = (m ≤ key most_results t) × Adm t

-- the best of the admissible sets of key m or more
abbrev pub Tried : (ℕ → Type 0) → (ℕ → ℕ) → ℕ → Option Lead → Type 0
Tried Adm score m b = Answers (From Adm m) score b

-- result i may follow the members of a set: it comes after each
pub record Follows (set i : ℕ) : Type 0 where
  pub few : i < most_results
  pub small : set < 2 ^ i

-- a set of results before position `at`
pub record Before (held at set : ℕ) : Type 0 where
  pub low : at ≤ held
  pub small : set < 2 ^ at

-- its members are kept, and no two of them clash
pub record Fits (mask : ℕ) (clash : ℕ → ℕ) (set : ℕ) : Type 0 where
  pub kept : (i : ℕ) → In i set → In i mask
  pub apart : Apart clash set

-- the search stands at a set: one as above, its sum, and the best of the sets tried, those of key m or more
pub record Stands (test : Test) (clash score : ℕ → ℕ) (held m : ℕ) (best : Option Lead) (at set sum : ℕ) : Type 0 where
  pub place : Before held at set
  pub fits : Fits test.kept clash set
  pub worth : sum ≡ comes_to score set
  pub tried : Tried (Allowed test clash) score m best

-- the search stands at a set of so many members
pub record StandsWith (members : ℕ) (test : Test) (clash : ℕ → ℕ) (scores : List ℕ) (held : ℕ) (best : Option Lead) (at set sum : ℕ) : Type 0 where
  pub sought : Sought test.kept scores held
  pub count : ones set ≡ members
  pub stands : Stands test clash (value_at scores) held (room at set) best at set sum

-- a set with result i
abbrev pub with_result : ℕ → ℕ → ℕ
with_result set i = bit_or set (1 * 2 ^ i % 65536)

-- the best with one set more, which goes on from a set by result i: that, if it comes to more, the result joins and the counts are right; else the best so far
abbrev pub Bettered : Test → (ℕ → ℕ) → Option Lead → ℕ → ℕ → ℕ → Option Lead → Type 0
Bettered test clash best set i sum r =
    ((r ≡ Some (record { total = sum; set = with_result set i })) × Beats best sum × Joins test.kept clash set i × Counted test.general (with_result set i))
    ⊎ ((r ≡ best) × ((Beats best sum → ⊥) ⊎ (MayJoin test clash set i false ⊎ (Counted test.general (with_result set i) → ⊥))))

-- The sets that are allowed, over what is known of the results by position, and what the search gives.
use Rattle.std.specs.Prelude.{ℕ, ◌^◌, ◌≤◌, ◌<◌, ◌≡◌, ◌⊎◌, Bool, true, false, List, length, get_or, Option, Some, None}
use Rattle.paper.specs.Limits.{least_general, members, most_results}
use Rattle.seek.specs.Sets.{In, has, positions, count_over, comes_to, Earlier}
use Rattle.seek.specs.declared.search.Test.{Test}
use Rattle.seek.specs.declared.search.Lead.{Lead}

-- the number at a position; 0 past the list
abbrev pub value_at : List ℕ → ℕ → ℕ
value_at values i = get_or values i 0

-- no two members clash: for each result, the mask of those before it that may not stand in one set with it
abbrev pub Apart : (ℕ → ℕ) → ℕ → Type 0
Apart clash set = (i j : ℕ) → j < i → In i set → In j set → In j (clash i) → ⊥

-- of a set's members: five, at least four of them General
pub record Counted (general set : ℕ) : Type 0 where
  pub five : length (positions set) ≡ members
  pub four : least_general ≤ count_over (has general) (positions set)

-- the kept and the General results, the clashes of each, a set: it has five kept results, at least four of them General, and no two clash
pub record Allowed (test : Test) (clash : ℕ → ℕ) (set : ℕ) : Type 0 where
  pub small : set < 2 ^ most_results
  pub kept : (i : ℕ) → In i set → In i test.kept
  pub counted : Counted test.general set
  pub apart : Apart clash set

-- result i is kept, and clashes with no member of a set of results before it
pub record Joins (mask : ℕ) (clash : ℕ → ℕ) (set i : ℕ) : Type 0 where
  pub kept : In i mask
  pub apart : (j : ℕ) → In j set → In j (clash i) → ⊥

-- a result joins a set, or it does not, and then no allowed set has it beside the members
abbrev pub MayJoin : Test → (ℕ → ℕ) → ℕ → ℕ → Bool → Type 0
MayJoin test clash set i true = Joins test.kept clash set i
MayJoin test clash set i false = (t : ℕ) → Allowed test clash t → ((j : ℕ) → In j set → In j t) → In i t → ⊥

-- a test's answer
abbrev pub Decides : Bool → Type 0 → Type 0
Decides true P = P
Decides false P = P → ⊥

-- a sum is more than the best so far
abbrev pub Beats : Option Lead → ℕ → Type 0
Beats (Some lead) sum = lead.total < sum
Beats None sum = Unit {0}

-- of the sets that Adm admits this one, of this total, is the best: none comes to more, and of those that come to as much it is the first
pub record Top (Adm : ℕ → Type 0) (score : ℕ → ℕ) (total set : ℕ) : Type 0 where
  pub right : Adm set
  pub sum : comes_to score set ≡ total
  pub most : (other : ℕ) → Adm other → comes_to score other ≤ total
  pub first : (other : ℕ) → Adm other → comes_to score other ≡ total → (other ≡ set) ⊎ Earlier (positions set) (positions other)

-- the best of the admissible sets, or that there is none
abbrev pub Answers : (ℕ → Type 0) → (ℕ → ℕ) → Option Lead → Type 0
Answers Adm score (Some lead) = Top Adm score lead.total lead.set
Answers Adm score None = (t : ℕ) → Adm t → ⊥

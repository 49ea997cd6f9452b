-- What a loop over the results builds: a mask holds the results of a test, one law for every test; a list has their values by position.
use Prim.Native.Nat.{ℕ, suc, ◌+◌, ◌≤◌, ◌<◌}
use native.Mathlib.Decide.{dec_lt, ℕ_discrete}
use native.Mathlib.Omega.{arith}
use mathlib.Core.Path.{◌≡◌, refl, ◌∙◌}
use mathlib.Core.List.{List}
use lib.ListN.{length, set}
use lib.Seq.{get_or-set_same, get_or-set_other}
use Rattle.paper.specs.Limits.{most_results}
use Rattle.seek.specs.InnerTest.{value_at}
use Rattle.results.specs.Results.{Student, result}
use Rattle.clashes.proofs.Masking.{none, one}
use Rattle.bestset.specs.InnerMarks.{unmarked, with_one, Masked, ByPosition}
use Rattle.clashes.specs.declared.masks.Masks.{Masks}

-- at first no result is in a mask
pub masked_none : (s : Student) → Masked s 0 unmarked
masked_none s =
    record {
      usable_are = none _;
      passes_are = none _;
      general_are = none _;
      general_english_is = none _;
      applied_english_is = none _;
      general_maths_is = none _;
      applied_maths_is = none _;
    }

-- one result more
pub masked_one : (s : Student) (i : ℕ) (masks : Masks) → i < most_results → Masked s i masks → Masked s (i + 1) (with_one masks i (result s i))
masked_one s i masks h m =
    record {
      usable_are = one _ i _ h m.usable_are _ refl;
      passes_are = one _ i _ h m.passes_are _ refl;
      general_are = one _ i _ h m.general_are _ refl;
      general_english_is = one _ i _ h m.general_english_is _ refl;
      applied_english_is = one _ i _ h m.applied_english_is _ refl;
      general_maths_is = one _ i _ h m.general_maths_is _ refl;
      applied_maths_is = one _ i _ h m.applied_maths_is _ refl;
    }

-- at first none is read
pub read_none : (f : ℕ → ℕ) (values : List ℕ) → ((i : ℕ) → value_at values i ≡ 0) → ByPosition f 0 values
read_none f values blank = record { each = λ i l. absurd (omega arith); rest = λ i l. blank i }

-- one result more
pub read_next : (f : ℕ → ℕ) (i : ℕ) (values : List ℕ) (v : ℕ) → i < length values → v ≡ f i → ByPosition f i values → ByPosition f (suc i) (set values i v)
read_next f i values v l e h =
    record {
      each = λ j k. go j k (ℕ_discrete j i);
      rest = λ j k. get_or-set_other values i j v 0 (λ d. omega arith) ∙ h.rest j (omega arith);
    }
  where
    go : (j : ℕ) → j < suc i → Dec (j ≡ i) → value_at (set values i v) j ≡ f j
    go j k (yes d) = rw d (get_or-set_same values i v 0 l ∙ e)
    go j k (no n) = get_or-set_other values i j v 0 n ∙ h.each j (omega arith)

-- no value is greater than what f gives at most
pub read-most : (f : ℕ → ℕ) (n m : ℕ) (values : List ℕ) → ByPosition f n values → ((i : ℕ) → f i ≤ m) → (i : ℕ) → value_at values i ≤ m
read-most f n m values h most i = go (dec_lt i n)
  where
    go : Dec (i < n) → value_at values i ≤ m
    go (yes l) = omega (arith, h.each i l, most i)
    go (no l) = omega (arith, h.rest i (omega arith))

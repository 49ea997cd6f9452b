-- Results against each other, over the masks of their sorts and the numbers by position.
use Rattle.std.specs.Prelude.{ℕ, ◌+◌, ◌≤◌, ◌<◌, ◌≡◌, Bool, true, not, ◌&&◌, ◌||◌, List, length, Result, Ok, Err}
use Rattle.std.specs.Int.Bits.{bit_and, bit_or, bit_xor}
use Rattle.paper.specs.Limits.{most_results, most_span}
use Rattle.paper.specs.Lists.{first, some}
use Rattle.paper.specs.declared.refusal.Refusal.{Refusal}
use Rattle.paper.specs.declared.refusal.Refusal.TheVariants.{Again}
use Rattle.paper.specs.Words.{◌<?◌, ◌=?◌, ◌≠?◌, when◌then◌else◌}
use Rattle.seek.specs.Sets.{In, has}
use Rattle.seek.specs.InnerTest.{value_at}
use Rattle.results.specs.Results.{held_in, subject_of, year_of}
use Rattle.clashes.specs.InnerMasks.{MaskOf}
use Rattle.clashes.specs.declared.masks.Masks.{Masks}
use Rattle.clashes.specs.declared.pairs.Against.{Against}

-- result i is one of at most sixteen; and result j one before it
pub record OneOf (results : List ℕ) (i : ℕ) : Type 0 where
  pub few : held_in results ≤ most_results
  pub one_of : i < held_in results

pub record Pair (results : List ℕ) (i j : ℕ) : Type 0 where
  pub later : OneOf results i
  pub before : j < i

-- at most sixteen results, and a buffer with a place for each
pub record Comparable (results clashes : List ℕ) : Type 0 where
  pub few : held_in results ≤ most_results
  pub sized : length clashes ≡ most_results

-- two positions
pub record Both (i j : ℕ) : Type 0 where
  pub one : i < most_results
  pub other : j < most_results

-- results, the mask of the usable ones, i, j: result j is usable, of the same subject as result i; and in a later year; in the same year
abbrev pub same_subject_in : List ℕ → ℕ → ℕ → ℕ → Bool
same_subject_in results usable i j = has usable j && subject_of results j =? subject_of results i

abbrev pub later_in : List ℕ → ℕ → ℕ → ℕ → Bool
later_in results usable i j = same_subject_in results usable i j && year_of results i <? year_of results j

abbrev pub same_year_in : List ℕ → ℕ → ℕ → ℕ → Bool
same_year_in results usable i j = same_subject_in results usable i j && year_of results j =? year_of results i

-- and in an earlier year
abbrev pub earlier_in : List ℕ → ℕ → ℕ → ℕ → Bool
earlier_in results usable i j = same_subject_in results usable i j && year_of results j <? year_of results i

-- results, the mask, n, i: result i is kept among those below n; among all; it is the later one of two of one subject and year
unfoldable pub kept_among : List ℕ → ℕ → ℕ → ℕ → Bool
kept_among results usable n i = has usable i && not (some n (later_in results usable i))

abbrev pub kept_in : List ℕ → ℕ → ℕ → Bool
kept_in results usable = kept_among results usable (held_in results)

unfoldable pub repeated_in : List ℕ → ℕ → ℕ → Bool
repeated_in results usable i = has usable i && some i (same_year_in results usable i)

-- of two years the one exceeds the other by more than four
abbrev pub too_far : ℕ → ℕ → Bool
too_far one other = (one + most_span) <? other || (other + most_span) <? one

-- the years of results i and j
abbrev pub far_in : List ℕ → ℕ → ℕ → Bool
far_in results i j = too_far (year_of results i) (year_of results j)

-- identities by position, i, j: the two have one identity; 0 is none
abbrev pub shared : List ℕ → ℕ → ℕ → Bool
shared identities i j = value_at identities i ≠? 0 && value_at identities j =? value_at identities i

-- the one is in the one mask and the other in the other
abbrev pub across : ℕ → ℕ → ℕ → ℕ → Bool
across one other i j = has one i && has other j

-- by their sorts: a General and an Applied of English, or of Mathematics
abbrev pub of_sorts : Masks → ℕ → ℕ → Bool
of_sorts masks i j =
    across masks.general_english masks.applied_english i j
    || (across masks.applied_english masks.general_english i j
    || (across masks.general_maths masks.applied_maths i j
    || across masks.applied_maths masks.general_maths i j))

-- masks, identities, results, i, j: the two may not stand in one set
unfoldable pub clash_in : Masks → List ℕ → List ℕ → ℕ → ℕ → Bool
clash_in masks identities results i j = of_sorts masks i j || (far_in results i j || shared identities i j)

-- of the results below n a mask holds those of f; what it holds from n on does not matter
pub record HoldsBelow (f : ℕ → Bool) (n mask : ℕ) : Type 0 where
  pub sound : (j : ℕ) → j < n → In j mask → f j ≡ true
  pub whole : (j : ℕ) → j < n → f j ≡ true → In j mask

-- the results below n against result i: of its subject and year; of its subject in a later year, and in an earlier one; too far from it or with its identity
pub record AgainstAll (results : List ℕ) (usable : ℕ) (identities : List ℕ) (i n : ℕ) (a : Against) : Type 0 where
  pub again_are : MaskOf (same_year_in results usable i) n a.again
  pub later_are : MaskOf (later_in results usable i) n a.later
  pub earlier_are : MaskOf (earlier_in results usable i) n a.earlier
  pub apart_are : MaskOf (λ j. far_in results i j || shared identities i j) n a.apart

-- a mask without what is in another
abbrev pub without : ℕ → ℕ → ℕ
without mask gone = bit_xor mask (bit_and mask gone)

-- a mask, where result i is in another; else none
abbrev pub where_in : ℕ → ℕ → ℕ → ℕ
where_in one other i = when has one i then other else 0

-- those that clash with result i by their sorts
abbrev pub by_sorts : Masks → ℕ → ℕ
by_sorts masks i =
    bit_or (where_in masks.general_english masks.applied_english i)
    (bit_or (where_in masks.applied_english masks.general_english i)
    (bit_or (where_in masks.general_maths masks.applied_maths i)
    (where_in masks.applied_maths masks.general_maths i)))

-- no result is repeated, and these are kept, with the clashes of each by position; or 6 at the first that is repeated
pub record AllCompared (results : List ℕ) (masks : Masks) (identities : List ℕ) (mask : ℕ) (clashes : List ℕ) : Type 0 where
  pub none_again : first (held_in results) (repeated_in results masks.usable) ≡ held_in results
  pub kept_are : MaskOf (kept_in results masks.usable) (held_in results) mask
  pub clashes_are : (i : ℕ) → i < held_in results → HoldsBelow (clash_in masks identities results i) i (value_at clashes i)

pub record FirstAgain (results : List ℕ) (usable : ℕ) (x : Refusal) : Type 0 where
  pub one_of : first (held_in results) (repeated_in results usable) < held_in results
  pub is_first : x ≡ Again (first (held_in results) (repeated_in results usable))

abbrev pub ComparedAs : List ℕ → Masks → List ℕ → Result ℕ Refusal → List ℕ → Type 0
ComparedAs results masks identities (Err x) clashes = FirstAgain results masks.usable x
ComparedAs results masks identities (Ok mask) clashes = AllCompared results masks identities mask clashes

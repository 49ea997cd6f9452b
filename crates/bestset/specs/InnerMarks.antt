-- What is read of the results: masks, bit i for result i, and numbers by position.
use Rattle.std.specs.Prelude.{ℕ, ◌≤◌, ◌<◌, ◌≡◌, ◌&&◌, List, length, Option, Some, None, Result, Ok, Err}
use Rattle.paper.specs.Limits.{most_results}
use Rattle.paper.specs.Refusals.{fault}
use Rattle.paper.specs.declared.refusal.Refusal.{Refusal}
use Rattle.paper.specs.Rulings.{Outcome, accepted, refused, ◌at◌, judged}
use Rattle.catalogue.specs.Kinds.{english, mathematics}
use Rattle.seek.specs.InnerTest.{value_at}
use Rattle.seek.specs.declared.search.Lead.{Lead}
use Rattle.results.specs.Results.{held_in, Student, held, result}
use Rattle.results.specs.Counting.{of_general, of_applied, of_strand, general_at, applied_at, strand_at, usable, passes, passes_at}
use Rattle.results.specs.Scoring.{score_at, identity_at}
use Rattle.results.specs.declared.reading.StudentResult.{StudentResult}
use Rattle.clashes.specs.InnerMasks.{MaskOf, marked}
use Rattle.sets.specs.Rules.{turn_rules}
use Rattle.sets.specs.Promise.{aggregate_of}
use Rattle.clashes.specs.declared.masks.Masks.{Masks}
use Rattle.sets.specs.declared.BestSet.{BestSet}

-- no result is marked
abbrev pub unmarked : Masks
unmarked = record { usable = 0; passes = 0; general = 0; general_english = 0; applied_english = 0; general_maths = 0; applied_maths = 0 }

-- masks, i, result i: the masks with result i
abbrev pub with_one : Masks → ℕ → StudentResult → Masks
with_one masks i r = record {
  usable = marked masks.usable i (usable r);
  passes = marked masks.passes i (passes r);
  general = marked masks.general i (of_general r);
  general_english = marked masks.general_english i (of_general r && of_strand english r);
  applied_english = marked masks.applied_english i (of_applied r && of_strand english r);
  general_maths = marked masks.general_maths i (of_general r && of_strand mathematics r);
  applied_maths = marked masks.applied_maths i (of_applied r && of_strand mathematics r);
}

-- each mask holds the results of its sort, of those below n
pub record Masked (s : Student) (n : ℕ) (masks : Masks) : Type 0 where
  pub usable_are : MaskOf (λ i. usable (result s i)) n masks.usable
  pub passes_are : MaskOf (passes_at s) n masks.passes
  pub general_are : MaskOf (general_at s) n masks.general
  pub general_english_is : MaskOf (λ i. general_at s i && strand_at english s i) n masks.general_english
  pub applied_english_is : MaskOf (λ i. applied_at s i && strand_at english s i) n masks.applied_english
  pub general_maths_is : MaskOf (λ i. general_at s i && strand_at mathematics s i) n masks.general_maths
  pub applied_maths_is : MaskOf (λ i. applied_at s i && strand_at mathematics s i) n masks.applied_maths

-- a list has by position what f gives for each result below n, and 0 past them
pub record ByPosition (f : ℕ → ℕ) (n : ℕ) (values : List ℕ) : Type 0 where
  pub each : (i : ℕ) → i < n → value_at values i ≡ f i
  pub rest : (i : ℕ) → n ≤ i → value_at values i ≡ 0

-- all results are read
pub record AllRead (s : Student) (table : List ℕ) (masks : Masks) (scores identities : List ℕ) : Type 0 where
  pub masks_are : Masked s (held s) masks
  pub scores_are : ByPosition (score_at s table) (held s) scores
  pub identities_are : ByPosition (identity_at s) (held s) identities

-- a buffer with a place for each of sixteen results, and nothing in it
pub record Blank (values : List ℕ) : Type 0 where
  pub sized : length values ≡ most_results
  pub empty : (i : ℕ) → value_at values i ≡ 0

-- at most sixteen results, and two such buffers to read them into
pub record ToRead (results scores identities : List ℕ) : Type 0 where
  pub few : held_in results ≤ most_results
  pub no_scores : Blank scores
  pub no_identities : Blank identities

-- student, table, what the reading says, the buffers after it: no result breaks a rule, and all are read; or a rule that is broken
abbrev pub ReadAs : Student → List ℕ → Result Masks Refusal → List ℕ → List ℕ → Type 0
ReadAs s table (Ok masks) scores identities = (judged (turn_rules s table) (tt {0}) ≡ accepted tt) × AllRead s table masks scores identities
ReadAs s table (Err x) scores identities = judged (turn_rules s table) (tt {0}) ≡ refused (fault x)

-- what the search found: the aggregate and the set; or 8
abbrev pub outcome : Option Lead → Outcome BestSet
outcome (Some lead) = accepted (record { aggregate = aggregate_of lead.total; set = lead.set })
outcome None = refused (8 at 0)

-- The tests over the mask of the usable results are the paper's tests of a student's results.
use Prim.Native.Nat.{ℕ, ◌≤◌, ◌<◌}
use native.Mathlib.Decide.{dec_lt}
use native.Mathlib.Omega.{arith}
use mathlib.Core.Path.{◌≡◌, sym, ap, ◌∙◌}
use mathlib.Core.Bool.{Bool, true, false, not, ◌&&◌}
use borrow.Author.Tests.{ne_eqb, lt-ltb, le-ltb}
use Rattle.paper.specs.Lists.{some}
use Rattle.paper.specs.Words.{◌<?◌, ◌=?◌}
use Rattle.seek.specs.Sets.{has}
use Rattle.seek.proofs.Digits.{in_lt}
use Rattle.results.specs.Results.{Student, held, result}
use Rattle.results.specs.Counting.{usable, usable_at, passes_at, shows_english, kept}
use Rattle.sets.specs.Rules.{repeated}
use Rattle.clashes.specs.InnerMasks.{MaskOf}
use Rattle.clashes.proofs.Masking.{has-test, mask_none, mask_some}
use Rattle.clashes.specs.InnerPairs.{kept_among, kept_in, repeated_in}

module _ (s : Student) (mask : ℕ) (h : MaskOf (λ i. usable (result s i)) (held s) mask) where
  has-usable : (i : ℕ) → has mask i ≡ usable_at s i
  unfolding usable_at
  has-usable i = go (dec_lt i (held s))
    where
      go : Dec (i < held s) → has mask i ≡ (i <? held s && usable (result s i))
      go (yes l) = has-test _ (held s) mask h i l ∙ sym (ap (λ (b : Bool). b && usable (result s i)) (lt-ltb _ _ l))
      go (no l) =
          let out : held s ≤ i = omega arith in
          ne_eqb _ _ (λ p. omega (arith, in_lt (held s) mask i h.small p)) ∙ sym (ap (λ (b : Bool). b && usable (result s i)) (le-ltb _ _ out))

  pub kept-is : kept_in s.results mask ≡ kept s
  unfolding kept_among kept
  kept-is =
      let by : (ℕ → Bool) → ℕ → Bool = λ u i. u i && not (some (held s) (λ j. (u j && (result s j).subject =? (result s i).subject) && (result s i).year <? (result s j).year)) in
      ap by (λ k i. has-usable i k)

  pub repeated-is : repeated_in s.results mask ≡ repeated s
  unfolding repeated_in repeated
  repeated-is =
      let by : (ℕ → Bool) → ℕ → Bool = λ u i. u i && some i (λ j. (u j && (result s j).subject =? (result s i).subject) && (result s j).year =? (result s i).year) in
      ap by (λ k i. has-usable i k)

-- so English is shown where some result is marked
pub none-shown : (s : Student) (mask : ℕ) → MaskOf (passes_at s) (held s) mask → mask ≡ 0 → shows_english s ≡ false
unfolding shows_english
none-shown s mask h = mask_none (passes_at s) (held s) mask h

pub some-shown : (s : Student) (mask : ℕ) → MaskOf (passes_at s) (held s) mask → (mask ≡ 0 → ⊥) → shows_english s ≡ true
unfolding shows_english
some-shown s mask h = mask_some (passes_at s) (held s) mask h

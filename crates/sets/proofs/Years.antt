-- What the years of a set mean: an admissible set lies within five consecutive years, whichever they are, and no set that does is too far apart; and nothing of it
-- depends on the assessment year.
use Prim.Native.Nat.{ℕ, zero, suc, ◌+◌, ◌≤◌, ◌<◌}
use native.Mathlib.Decide.{dec_le, ℕ_discrete}
use native.Mathlib.Nat.{eq-or-lt_of_le, le_of_suc-le-suc}
use native.Mathlib.Omega.{arith}
use mathlib.Core.Path.{◌≡◌, refl, sym, subst}
use mathlib.Core.List.{List}
use mathlib.Core.Logic.{◌⊎◌, inl, inr, ⊎_elim}
use Rattle.paper.specs.Limits.{most_results, most_span}
use Rattle.seek.specs.Sets.{bit, In}
use Rattle.seek.proofs.Digits.{in_lt}
use Rattle.results.specs.Results.{Student, student, result}
use Rattle.results.specs.Counting.{usable_at, shows_english, kept}
use Rattle.sets.specs.Admissible.{FiveYears, Admissible}
use Rattle.sets.specs.Computed.{admissible}

module _ (s : Student) (set : ℕ) where
  -- every member is of one of the five years from y on
  pub record FiveFrom (y : ℕ) : Type 0 where
    pub not_before : (i : ℕ) → In i set → y ≤ (result s i).year
    pub not_after : (i : ℕ) → In i set → (result s i).year ≤ y + most_span

  pub five-years : (y : ℕ) → FiveFrom y → FiveYears s set
  five-years y h i j p q = omega (arith, h.not_before i p, h.not_after j q)

  -- of the members below k: there is none, or one is the earliest
  abbrev None : ℕ → Type 0
  None k = (i : ℕ) → i < k → In i set → ⊥

  record Earliest (k : ℕ) : Type 0 where
    member : ℕ
    is-in : In member set
    least : (i : ℕ) → i < k → In i set → (result s member).year ≤ (result s i).year

  earliest : (k : ℕ) → None k ⊎ Earliest k
  earliest zero = inl (λ i l p. absurd (omega arith))
  earliest (suc k) = go (ℕ_discrete (bit k set) 1) (earliest k)
    where
      upto : (P : ℕ → Type 0) → ((i : ℕ) → i < k → In i set → P i) → (In k set → P k) → (i : ℕ) → i < suc k → In i set → P i
      upto P all here i l p = ⊎_elim (λ (e : i ≡ k). subst P (sym e) (here (subst (λ (n : ℕ). In n set) e p))) (λ (h : i < k). all i h p) (eq-or-lt_of_le (le_of_suc-le-suc l))

      go : Dec (In k set) → None k ⊎ Earliest k → None (suc k) ⊎ Earliest (suc k)
      go (no n) (inl none) = inl (upto (λ i. ⊥) none n)
      go (no n) (inr e) = inr (record { member = e.member; is-in = e.is-in; least = upto (λ i. (result s e.member).year ≤ (result s i).year) e.least (λ p. absurd (n p)) })
      go (yes p) (inl none) = inr (record { member = k; is-in = p; least = upto (λ i. (result s k).year ≤ (result s i).year) (λ i l q. absurd (none i l q)) (λ q. omega arith) })
      go (yes p) (inr e) = choose (dec_le (result s e.member).year (result s k).year)
        where
          choose : Dec ((result s e.member).year ≤ (result s k).year) → None (suc k) ⊎ Earliest (suc k)
          choose (yes l) = inr (record { member = e.member; is-in = e.is-in; least = upto (λ i. (result s e.member).year ≤ (result s i).year) e.least (λ q. l) })
          choose (no l) = inr (record { member = k; is-in = p; least = upto (λ i. (result s k).year ≤ (result s i).year) (λ i h q. omega (arith, e.least i h q)) (λ q. omega arith) })

  -- an admissible set has such a year, that of its earliest member
  pub consecutive : Admissible s set → (y : ℕ) × FiveFrom y
  consecutive a = go (earliest most_results)
    where
      low : (i : ℕ) → In i set → i < most_results
      low i p = in_lt most_results set i a.bits p

      go : None most_results ⊎ Earliest most_results → (y : ℕ) × FiveFrom y
      go (inl none) = (0, record { not_before = λ i p. absurd (none i (low i p) p); not_after = λ i p. absurd (none i (low i p) p) })
      go (inr e) =
          ((result s e.member).year, record { not_before = λ i p. e.least i (low i p) p; not_after = λ i p. a.years e.member i e.is-in p })

-- English, what is kept and which sets are admissible are the same in every assessment year
module _ (catalogue results : List ℕ) (y z : ℕ) where
  pub english-any_year : shows_english (student catalogue y results) ≡ shows_english (student catalogue z results)
  unfolding shows_english
  english-any_year = refl

  pub kept-any_year : (i : ℕ) → kept (student catalogue y results) i ≡ kept (student catalogue z results) i
  unfolding kept usable_at
  kept-any_year i = refl

  pub admissible-any_year : (set : ℕ) → admissible (student catalogue y results) set ≡ admissible (student catalogue z results) set
  unfolding admissible kept usable_at
  admissible-any_year set = refl

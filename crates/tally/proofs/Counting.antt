-- Laws of C, and of the number at each value.
use Prim.Native.Nat.{ℕ, zero, suc, ◌+◌, ◌*◌, ◌≤◌, ◌<◌}
use native.Mathlib.Nat.{not-suc-le-zero, le_of_suc-le-suc, eq-or-lt_of_le}
use native.Mathlib.Omega.{arith}
use native.Mathlib.Decide.{dec_lt}
use mathlib.Core.Path.{◌≡◌, refl, sym, ap, ◌∙◌}
use mathlib.Core.Bool.{Bool, false}
use mathlib.Core.Logic.{◌⊎◌, inl, inr}
use mathlib.Core.List.{List}
use lib.ListN.{length, get_or}
use lib.Dec.{leb, eqb, leb→le, le→leb}
use borrow.Author.Tests.{le-leb, lt-leb, eq-eqb, ne_eqb}
use Rattle.paper.specs.Lists.{pick, sum, count, sum_of}
use Rattle.paper.proofs.Listing.{sum_same, sum-add, count-step, count_same, count-le, count_no, count-within, sum_of-least}
use Rattle.tally.specs.Counts.{at_least, number_at}

-- a count with one more, which has f or not
pub count_next : (n : ℕ) (f : ℕ → Bool) (b : Bool) → f n ≡ b → count (n + 1) f ≡ count n f + pick b 1 0
count_next n f b e = count-step n f ∙ ap (λ (b : Bool). count n f + pick b 1 0) e

-- each number of xs from a on stands beside a number of ys from b on: there are no more of the first than of the second
pub at-le : (xs ys : List ℕ) (a b : ℕ) → length xs ≡ length ys → ((i : ℕ) → i < length xs → a ≤ get_or xs i 0 → b ≤ get_or ys i 0) → at_least xs a ≤ at_least ys b
at-le xs ys a b e h =
    rw (← e) (count-le (length xs) (λ i. leb a (get_or xs i 0)) (λ i. leb b (get_or ys i 0)) (λ i l t. le→leb b (get_or ys i 0) (h i l (leb→le a (get_or xs i 0) t))))

pub at-falls : (xs : List ℕ) (a b : ℕ) → a ≤ b → at_least xs b ≤ at_least xs a
at-falls xs a b h = at-le xs xs b a refl (λ i l k. omega arith)

pub at-within : (xs : List ℕ) (x : ℕ) → at_least xs x ≤ length xs
at-within xs x = count-within (length xs) (λ i. leb x (get_or xs i 0))

-- none is at least what each is below
pub at_none : (xs : List ℕ) (x : ℕ) → ((i : ℕ) → i < length xs → get_or xs i 0 < x) → at_least xs x ≡ 0
at_none xs x h = count_same (length xs) (λ i. leb x (get_or xs i 0)) (λ i. false) (λ i l. lt-leb x (get_or xs i 0) (h i l)) ∙ count_no (length xs)

-- those at least x are those at x and those at least one more
one_split : (x y : ℕ) → pick (leb x y) 1 0 ≡ pick (eqb y x) 1 0 + pick (leb (x + 1) y) 1 0
one_split x y = go (dec_lt y x) (dec_lt x y)
  where
    go : Dec (y < x) → Dec (x < y) → pick (leb x y) 1 0 ≡ pick (eqb y x) 1 0 + pick (leb (x + 1) y) 1 0
    go (yes a) b = rw (lt-leb x y a, ne_eqb y x (λ e. omega arith), lt-leb (x + 1) y (omega arith)) refl
    go (no a) (yes b) = rw (le-leb x y (omega arith), ne_eqb y x (λ e. omega arith), le-leb (x + 1) y (omega arith)) refl
    go (no a) (no b) = rw (le-leb x y (omega arith), eq-eqb y x (omega arith), lt-leb (x + 1) y (omega arith)) refl

pub at_split : (xs : List ℕ) (x : ℕ) → at_least xs x ≡ number_at xs x + at_least xs (x + 1)
unfolding number_at count
at_split xs x =
    sum_same (length xs) (λ i. pick (leb x (get_or xs i 0)) 1 0) (λ i. pick (eqb (get_or xs i 0) x) 1 0 + pick (leb (x + 1) (get_or xs i 0)) 1 0) (λ i l. one_split x (get_or xs i 0))
    ∙ sum-add (length xs) (λ i. pick (eqb (get_or xs i 0) x) 1 0) (λ i. pick (leb (x + 1) (get_or xs i 0)) 1 0)

-- two lists that agree in number for each value from a on have the same C there
same_from : (xs ys : List ℕ) (d a : ℕ) → sum_of xs + sum_of ys < a + d → ((x : ℕ) → a ≤ x → number_at xs x ≡ number_at ys x) → at_least xs a ≡ at_least ys a
same_from xs ys zero a l h =
    at_none xs a (λ i m. omega (arith, sum_of-least xs i)) ∙ sym (at_none ys a (λ i m. omega (arith, sum_of-least ys i)))
same_from xs ys (suc d) a l h = omega (arith, at_split xs a, at_split ys a, h a (omega arith), same_from xs ys d (a + 1) (omega arith) (λ x m. h x (omega arith)))

pub same_at : (xs ys : List ℕ) (a : ℕ) → ((x : ℕ) → a ≤ x → number_at xs x ≡ number_at ys x) → at_least xs a ≡ at_least ys a
same_at xs ys a h = same_from xs ys (sum_of xs + sum_of ys + 1) a (omega arith) h

-- a sum of which one part counts
sum_past : (m x : ℕ) (f : ℕ → ℕ) → m ≤ x → sum m (λ k. pick (eqb x k) 1 0 * f k) ≡ 0
unfolding sum
sum_past zero x f h = refl
sum_past (suc m) x f h = rw (ne_eqb x m (λ e. omega arith)) (omega (arith, sum_past m x f (omega arith)))

sum_one : (m x : ℕ) (f : ℕ → ℕ) → x < m → sum m (λ k. pick (eqb x k) 1 0 * f k) ≡ f x
unfolding sum
sum_one zero x f h = absurd (not-suc-le-zero h)
sum_one (suc m) x f h = go (eq-or-lt_of_le (le_of_suc-le-suc h)) (sum_one m x f)
  where
    go : (x ≡ m) ⊎ (x < m) → (x < m → sum m (λ k. pick (eqb x k) 1 0 * f k) ≡ f x) → sum m (λ k. pick (eqb x k) 1 0 * f k) + pick (eqb x m) 1 0 * f m ≡ f x
    go (inl e) ih = rw (eq-eqb x m e) (omega (arith, sum_past m x f (omega arith), ap f e))
    go (inr l) ih = rw (ne_eqb x m (λ e. omega arith)) (omega (arith, ih l))

-- a number is one of those below m
pub count-one : (m x : ℕ) → x < m → count m (λ k. eqb x k) ≡ 1
unfolding count
count-one m x h = sum_same m (λ k. pick (eqb x k) 1 0) (λ k. pick (eqb x k) 1 0 * 1) (λ k l. omega arith) ∙ sum_one m x (λ k. 1) h

-- f of each of n values, gathered by value
pub gathered : (m n : ℕ) (v f : ℕ → ℕ) → ((i : ℕ) → i < n → v i < m) → sum m (λ k. count n (λ i. eqb (v i) k) * f k) ≡ sum n (λ i. f (v i))
unfolding count sum
gathered m zero v f h = sum_same m (λ k. 0 * f k) (λ k. 0) (λ k l. omega arith) ∙ no_sum m
  where
    no_sum : (m : ℕ) → sum m (λ k. 0) ≡ 0
    no_sum zero = refl
    no_sum (suc m) = omega (arith, no_sum m)
gathered m (suc n) v f h =
    sum_same m (λ k. (count n (λ i. eqb (v i) k) + pick (eqb (v n) k) 1 0) * f k) (λ k. count n (λ i. eqb (v i) k) * f k + pick (eqb (v n) k) 1 0 * f k) (λ k l. omega arith)
    ∙ sum-add m (λ k. count n (λ i. eqb (v i) k) * f k) (λ k. pick (eqb (v n) k) 1 0 * f k)
    ∙ omega (arith, gathered m n v f (λ i l. h i (omega arith)), sum_one m (v n) f (h n (omega arith)))

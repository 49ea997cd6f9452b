-- Laws of a set's bits and of its positions.
use Prim.Native.Nat.{ℕ, zero, suc, ◌+◌, ◌-◌, ◌*◌, ◌/◌, ◌%◌, ◌^◌, ◌≤◌, ◌<◌, min, max}
use native.Mathlib.Nat.{eq-or-lt_of_le, div-one, div-eq_of_lt, div-lt_iff_lt-mul, mod-eq_of_lt, mod-lt, lt_of_not-le, lt_of_lt_of_le, lt_of_le_of_lt, add-zero, add-suc, suc-add, zero-add}
use native.Mathlib.Numerals.{add-one, one-add}
use native.Mathlib.Omega.{arith}
use mathlib.Core.Path.{◌≡◌, refl, sym, ap, ◌∙◌}
use mathlib.Core.Logic.{◌⊎◌, inl, inr, ⊎_elim}
use mathlib.Core.List.{◌∷◌}
use lib.ListN.{length}
use lib.Arith.{lt-one}
use lib.Pow.{pow_pos, pow_mono, split, shr-shr, high, shl_exact}
use lib.Bits.{bit_and, bit_or, bit_xor, differ, and_step, or_step, xor_step, and_high, and_shr, or_shr, xor_shr, and_zero_l, and_le_l, block_half, block_odd}
use lib.Count.{ones, ones_in, ones_step}
use Rattle.paper.specs.Lists.{pick}
use Rattle.paper.specs.Limits.{most_results}
use Rattle.seek.specs.Sets.{bit, In, has, joined, ones_from, positions, sum_over, count_over, comes_to}

-- ---- one bit

pub digit : (m : ℕ) → (m % 2 ≡ 0) ⊎ (m % 2 ≡ 1)
digit m = go (m % 2) (omega arith)
  where
    go : (d : ℕ) → d < 2 → (d ≡ 0) ⊎ (d ≡ 1)
    go zero h = inl refl
    go (suc zero) h = inr refl
    go (suc (suc d)) h = absurd (omega arith)

pub bit-zero : (m : ℕ) → bit 0 m ≡ m % 2
bit-zero m = ap (λ (x : ℕ). x % 2) (div-one m)

pub bit-suc : (i m : ℕ) → bit (suc i) m ≡ bit i (m / 2)
bit-suc i m = ap (λ (x : ℕ). x % 2) (ap (λ (n : ℕ). m / 2 ^ n) (sym (one-add i)) ∙ sym (shr-shr m 1 i))

-- a member lies below the set's bound
pub in_lt : (k m i : ℕ) → m < 2 ^ k → In i m → i < k
in_lt k m i h e =
    lt_of_not-le (λ (g : k ≤ i).
    let z : m / 2 ^ i ≡ 0 = div-eq_of_lt (lt_of_lt_of_le h (pow_mono g)) in
    let y : bit i m ≡ 0 = ap (λ (x : ℕ). x % 2) z in
    omega arith)

-- a bit above every other is the highest
pub high_bit : (k m : ℕ) → m < 2 ^ suc k → m / 2 ^ k ≡ bit k m
high_bit k m h = sym (mod-eq_of_lt ((div-lt_iff_lt-mul (pow_pos k)).1 (omega arith)))

pub no_high : (k m : ℕ) → m < 2 ^ suc k → bit k m ≡ 0 → m < 2 ^ k
no_high k m h z =
    let s = split m k in
    let y : m / 2 ^ k * 2 ^ k ≡ 0 = ap (λ (x : ℕ). x * 2 ^ k) (high_bit k m h ∙ z) ∙ omega arith in
    let l = mod-lt m (pow_pos k) in
    omega arith

-- a set whose members are all below n is below 2 ^ n
pub all_below : (k n t : ℕ) → t < 2 ^ k → ((i : ℕ) → In i t → i < n) → t < 2 ^ n
all_below zero n t h all = omega (arith, pow_pos n)
all_below (suc k) n t h all =
    ⊎_elim
    (λ (z : bit k t ≡ 0). all_below k n t (no_high k t h z) all)
    (λ (z : bit k t ≡ 1). let m = pow_mono {i = suc k} {j = n} (all k z) in omega arith)
    (digit (t / 2 ^ k))

-- the empty set has no member
pub in_none : (i : ℕ) → In i 0 → ⊥
in_none i p = let l = in_lt 0 0 i (omega arith) p in omega arith

-- the bits below bit k are those of the low part
pub low_bit : (i k d r : ℕ) → i < k → bit i (d * 2 ^ k + r) ≡ bit i r
low_bit i zero d r h = absurd (omega arith)
low_bit zero (suc k) d r h = bit-zero (d * 2 ^ suc k + r) ∙ block_odd d k r ∙ sym (bit-zero r)
low_bit (suc i) (suc k) d r h =
    bit-suc i (d * 2 ^ suc k + r) ∙ ap (bit i) (block_half d k r) ∙ low_bit i k d (r / 2) (omega arith) ∙ sym (bit-suc i r)

pub top_bit : (k d r : ℕ) → r < 2 ^ k → bit k (d * 2 ^ k + r) ≡ d % 2
top_bit k d r h = ap (λ (x : ℕ). x % 2) (high d k h)

-- a member of a set with n on top is n, or a member of the set
pub in_joined : (n m i : ℕ) → m < 2 ^ n → In i (1 * 2 ^ n + m) → (i ≡ n) ⊎ In i m
in_joined n m i l p =
    ⊎_elim
    (λ (e : suc i ≡ suc n). inl (omega arith))
    (λ (e : suc i < suc n). inr (sym (low_bit i n 1 m (omega arith)) ∙ p))
    (eq-or-lt_of_le (in_lt (suc n) (1 * 2 ^ n + m) i (omega arith) p))

-- a number that is not 0 has a member
has-bit : (k m : ℕ) → m < 2 ^ k → 0 < m → (i : ℕ) × In i m
has-bit zero m h p = absurd (omega arith)
has-bit (suc k) m h p =
    ⊎_elim
    (λ (e : m % 2 ≡ 0). let r = has-bit k (m / 2) (omega arith) (omega arith) in (suc r.0, bit-suc r.0 m ∙ r.1))
    (λ (e : m % 2 ≡ 1). (0, bit-zero m ∙ e))
    (digit m)

-- ---- meets

pub bit-and : (i a b : ℕ) → bit i (bit_and a b) ≡ min (bit i a) (bit i b)
bit-and i a b =
    let s = and_step (a / 2 ^ i) (b / 2 ^ i) in
    let t : bit_and (a / 2 ^ i) (b / 2 ^ i) % 2 ≡ min (bit i a) (bit i b) = omega arith in
    ap (λ (x : ℕ). x % 2) (and_shr a b i) ∙ t

pub bit-or : (i a b : ℕ) → bit i (bit_or a b) ≡ max (bit i a) (bit i b)
bit-or i a b =
    let s = or_step (a / 2 ^ i) (b / 2 ^ i) in
    let t : bit_or (a / 2 ^ i) (b / 2 ^ i) % 2 ≡ max (bit i a) (bit i b) = omega arith in
    ap (λ (x : ℕ). x % 2) (or_shr a b i) ∙ t

bit-xor : (i a b : ℕ) → bit i (bit_xor a b) ≡ differ (bit i a) (bit i b) % 2
bit-xor i a b =
    let s = xor_step (a / 2 ^ i) (b / 2 ^ i) in
    let t : bit_xor (a / 2 ^ i) (b / 2 ^ i) % 2 ≡ differ (bit i a) (bit i b) % 2 = omega arith in
    ap (λ (x : ℕ). x % 2) (xor_shr a b i) ∙ t

-- who is in either of two masks, or in the one without the other
pub in_or : (i a b : ℕ) → In i (bit_or a b) → In i a ⊎ In i b
in_or i a b p = let e = bit-or i a b in ⊎_elim (λ (z : bit i a ≡ 0). inr (omega arith)) inl (digit (a / 2 ^ i))

pub or_in : (i a b : ℕ) → In i a ⊎ In i b → In i (bit_or a b)
or_in i a b p = let e = bit-or i a b in let m = digit (a / 2 ^ i) in let n = digit (b / 2 ^ i) in ⊎_elim (λ (q : In i a). omega arith) (λ (q : In i b). omega arith) p

module _ (i a b : ℕ) where
  bit-without : bit i (bit_xor a (bit_and a b)) ≡ differ (bit i a) (min (bit i a) (bit i b)) % 2
  bit-without = bit-xor i a (bit_and a b) ∙ ap (λ (x : ℕ). differ (bit i a) x % 2) (bit-and i a b)

  pub in_without : In i (bit_xor a (bit_and a b)) → In i a × (In i b → ⊥)
  in_without p = go (digit (a / 2 ^ i)) (digit (b / 2 ^ i)) (sym bit-without ∙ p)
    where
      go : (bit i a ≡ 0) ⊎ (bit i a ≡ 1) → (bit i b ≡ 0) ⊎ (bit i b ≡ 1) → differ (bit i a) (min (bit i a) (bit i b)) % 2 ≡ 1 → In i a × (In i b → ⊥)
      go (inl x) y q = absurd (absurd_zero (rw x at q))
        where
          absurd_zero : min 0 (bit i b) % 2 ≡ 1 → ⊥
          absurd_zero h = omega arith
      go (inr x) (inl y) q = (x, λ z. omega arith)
      go (inr x) (inr y) q = absurd (absurd_one (rw (x, y) at q))
        where
          absurd_one : 0 % 2 ≡ 1 → ⊥
          absurd_one h = omega arith

  pub without_in : In i a → (In i b → ⊥) → In i (bit_xor a (bit_and a b))
  without_in p n = bit-without ∙ ⊎_elim (λ (y : bit i b ≡ 0). rw (p, y)) (λ (y : bit i b ≡ 1). absurd (n y)) (digit (b / 2 ^ i))

-- `1 << i` at most_results bits
pub one_shl : (i : ℕ) → i < most_results → 1 * 2 ^ i % 65536 ≡ 2 ^ i
one_shl i h = shl_exact 1 i most_results (omega arith) (omega arith) ∙ omega arith

-- what `m & (1 << i)` gives
and_one : (m i : ℕ) → i < most_results → bit_and m (1 * 2 ^ i % 65536) ≡ bit i m * 2 ^ i
and_one m i h =
    let e : 2 ^ (1 + i) - 2 ^ i ≡ 2 ^ i = ap (λ (n : ℕ). 2 ^ n - 2 ^ i) (one-add i) ∙ omega arith in
    ap (bit_and m) (one_shl i h ∙ sym e) ∙ and_high m 1 i

-- what `m & (1 << i) != 0` says
pub test_in : (m i : ℕ) → i < most_results → (bit_and m (1 * 2 ^ i % 65536) ≡ 0 → ⊥) → In i m
test_in m i h n =
    ⊎_elim
    (λ (e : bit i m ≡ 0). absurd (n (and_one m i h ∙ ap (λ (x : ℕ). x * 2 ^ i) e ∙ omega arith)))
    (λ e. e)
    (digit (m / 2 ^ i))

pub test_out : (m i : ℕ) → i < most_results → bit_and m (1 * 2 ^ i % 65536) ≡ 0 → bit i m ≡ 0
test_out m i h z =
    ⊎_elim
    (λ e. e)
    (λ (e : bit i m ≡ 1).
    let p = pow_pos i in
    let q : 0 ≡ 1 * 2 ^ i = sym z ∙ and_one m i h ∙ ap (λ (x : ℕ). x * 2 ^ i) e in
    absurd (omega arith))
    (digit (m / 2 ^ i))

pub test_not : (m i : ℕ) → i < most_results → bit_and m (1 * 2 ^ i % 65536) ≡ 0 → In i m → ⊥
test_not m i h z p = let o = test_out m i h z in omega arith

pub meets : (k a b : ℕ) → a < 2 ^ k → (bit_and a b ≡ 0 → ⊥) → (i : ℕ) × (In i a × In i b)
meets k a b h n =
    let r = has-bit k (bit_and a b) (lt_of_le_of_lt (and_le_l a b) h) (omega arith) in
    let e = bit-and r.0 a b in
    let f = r.1 in
    (r.0, (omega arith, omega arith))

pub no_meet : (a b i : ℕ) → bit_and a b ≡ 0 → In i a → In i b → ⊥
no_meet a b i z p q =
    let e = bit-and i a b in
    let f : bit i (bit_and a b) ≡ bit i 0 = ap (bit i) z in
    in_none i (omega arith)

-- ---- positions

pub ones_from-0 : (k i m : ℕ) → m % 2 ≡ 0 → ones_from (suc k) i m ≡ ones_from k (suc i) (m / 2)
unfolding ones_from
ones_from-0 k i m e = ap (λ (d : ℕ). joined d i (ones_from k (suc i) (m / 2))) e

pub ones_from-1 : (k i m : ℕ) → m % 2 ≡ 1 → ones_from (suc k) i m ≡ i ∷ ones_from k (suc i) (m / 2)
unfolding ones_from
ones_from-1 k i m e = ap (λ (d : ℕ). joined d i (ones_from k (suc i) (m / 2))) e

ones-zero : ones 0 ≡ 0
unfolding ones ones_in
ones-zero = refl

pub length-ones : (k i m : ℕ) → m < 2 ^ k → length (ones_from k i m) ≡ ones m
unfolding ones_from
length-ones zero i m h = sym (ap ones (lt-one h) ∙ ones-zero)
length-ones (suc k) i m h =
    let ih = length-ones k (suc i) (m / 2) (omega arith) in
    let s = ones_step m in
    ⊎_elim (λ (e : m % 2 ≡ 0). rw e (omega arith)) (λ (e : m % 2 ≡ 1). rw e (omega arith)) (digit m)

-- ---- sums over positions

module _ (f : ℕ → ℕ) (k i m : ℕ) where
  sum-0 : m % 2 ≡ 0 → sum_over f (ones_from (suc k) i m) ≡ sum_over f (ones_from k (suc i) (m / 2))
  sum-0 e = ap (sum_over f) (ones_from-0 k i m e)

  sum-1 : m % 2 ≡ 1 → sum_over f (ones_from (suc k) i m) ≡ f i + sum_over f (ones_from k (suc i) (m / 2))
  unfolding sum_over
  sum-1 e = ap (sum_over f) (ones_from-1 k i m e)

sum-none : (f : ℕ → ℕ) (i m : ℕ) → sum_over f (ones_from 0 i m) ≡ 0
unfolding ones_from sum_over
sum-none f i m = refl

-- a sum is at most as much for each position as any of them gives
sum-most : (f : ℕ → ℕ) (n : ℕ) → ((i : ℕ) → f i ≤ n) → (k i m : ℕ) → sum_over f (ones_from k i m) ≤ k * n
sum-most f n h zero i m = omega (arith, sum-none f i m)
sum-most f n h (suc k) i m =
    let ih = sum-most f n h k (suc i) (m / 2) in
    let b = h i in
    ⊎_elim
    (λ (e : m % 2 ≡ 0). omega (arith, sum-0 f k i m e))
    (λ (e : m % 2 ≡ 1). omega (arith, sum-1 f k i m e))
    (digit m)

pub comes_most : (score : ℕ → ℕ) (n : ℕ) → ((i : ℕ) → score i ≤ n) → (set : ℕ) → comes_to score set ≤ most_results * n
comes_most score n h set = sum-most score n h most_results 0 set

pub comes_none : (score : ℕ → ℕ) → 0 ≡ comes_to score 0
unfolding ones_from sum_over
comes_none score = refl

-- a result joins a set of results before it
sum-join : (f : ℕ → ℕ) (a k i s : ℕ) → a < k → s < 2 ^ a → sum_over f (ones_from k i (2 ^ a + s)) ≡ sum_over f (ones_from k i s) + f (i + a)
unfolding ones_from sum_over
sum-join f a zero i s l h = absurd (omega arith)
sum-join f zero (suc k) i s l h = rw (lt-one h, add-zero i) (omega arith)
sum-join f (suc a) (suc k) i s l h =
    let o : (2 ^ suc a + s) % 2 ≡ s % 2 = omega arith in
    let g : (2 ^ suc a + s) / 2 ≡ 2 ^ a + s / 2 = omega arith in
    let ih = sum-join f a k (suc i) (s / 2) (omega arith) (omega arith) in
    let e = ap f (add-suc i a ∙ sym (suc-add i a)) in
    rw (o, g) (⊎_elim (λ (d : s % 2 ≡ 0). rw d (omega arith)) (λ (d : s % 2 ≡ 1). rw d (omega arith)) (digit s))

pub comes_join : (score : ℕ → ℕ) (a s : ℕ) → a < most_results → s < 2 ^ a → comes_to score (1 * 2 ^ a + s) ≡ comes_to score s + score a
comes_join score a s l h =
    let o : 1 * 2 ^ a + s ≡ 2 ^ a + s = omega arith in
    ap (comes_to score) o ∙ sum-join score a most_results 0 s l h ∙ ap (λ (n : ℕ). comes_to score s + score n) (zero-add a)

-- a set is the sum of its members' bits
bits-sum : (k i m : ℕ) → m < 2 ^ k → sum_over (λ (n : ℕ). 2 ^ n) (ones_from k i m) ≡ m * 2 ^ i
bits-sum zero i m h = sum-none (λ (n : ℕ). 2 ^ n) i m ∙ omega arith ∙ ap (λ (x : ℕ). x * 2 ^ i) (sym (lt-one h))
bits-sum (suc k) i m h =
    let ih = bits-sum k (suc i) (m / 2) (omega arith) in
    let p : 2 ^ suc i ≡ 2 * 2 ^ i = omega arith in
    let q = ap (λ (x : ℕ). m / 2 * x) p in
    ⊎_elim
    (λ (e : m % 2 ≡ 0).
    let g : 2 * (m / 2) ≡ m = omega arith in
    omega (arith, sum-0 (λ (n : ℕ). 2 ^ n) k i m e, ap (λ (x : ℕ). x * 2 ^ i) g))
    (λ (e : m % 2 ≡ 1).
    let g : 1 + 2 * (m / 2) ≡ m = omega arith in
    omega (arith, sum-1 (λ (n : ℕ). 2 ^ n) k i m e, ap (λ (x : ℕ). x * 2 ^ i) g))
    (digit m)

-- two sets with the same positions are one
pub same-positions : (s t : ℕ) → s < 2 ^ most_results → t < 2 ^ most_results → positions s ≡ positions t → s ≡ t
same-positions s t h l e =
    let a = bits-sum most_results 0 s h in
    let b = bits-sum most_results 0 t l in
    let c = ap (sum_over (λ (n : ℕ). 2 ^ n)) e in
    omega arith

-- ---- counts

flag : (i g : ℕ) → pick (has g i) 1 0 ≡ bit i g
flag i g = ⊎_elim (λ (e : bit i g ≡ 0). rw e refl) (λ (e : bit i g ≡ 1). rw e refl) (digit (g / 2 ^ i))

-- as many members are in a mask as the meet has ones
pub count_ones : (k i t g : ℕ) → t < 2 ^ k → count_over (has g) (ones_from k i t) ≡ ones (bit_and t (g / 2 ^ i))
unfolding count_over
count_ones zero i t g h =
    sum-none (λ (n : ℕ). pick (has g n) 1 0) i t
    ∙ sym (ap (λ (x : ℕ). ones (bit_and x (g / 2 ^ i))) (lt-one h) ∙ ap ones (and_zero_l (g / 2 ^ i)) ∙ ones-zero)
count_ones (suc k) i t g h =
    let G : ℕ = g / 2 ^ i in
    let half = shr-shr g i 1 ∙ ap (λ (n : ℕ). g / 2 ^ n) (add-one i) in
    let ih = count_ones k (suc i) (t / 2) g (omega arith) ∙ ap (λ (x : ℕ). ones (bit_and (t / 2) x)) (sym half) in
    let s = ones_step (bit_and t G) in
    let a = and_step t G in
    let m : bit_and t G / 2 ≡ bit_and (t / 2) (G / 2) = omega arith in
    let o = ap ones m in
    let b = flag i g in
    ⊎_elim
    (λ (e : t % 2 ≡ 0). omega (arith, sum-0 (λ (n : ℕ). pick (has g n) 1 0) k i t e))
    (λ (e : t % 2 ≡ 1). omega (arith, sum-1 (λ (n : ℕ). pick (has g n) 1 0) k i t e))
    (digit t)

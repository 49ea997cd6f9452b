-- Dictionary order, and as an order of numbers: of two sets with equally many members the first has the greater key.
use Prim.Native.Nat.{ℕ, zero, suc, ◌+◌, ◌-◌, ◌*◌, ◌/◌, ◌%◌, ◌^◌, ◌≤◌, ◌<◌}
use native.Mathlib.Nat.{mod-lt, mod-one, sub-zero}
use native.Mathlib.Decide.{dec_lt}
use native.Mathlib.Numerals.{add-one}
use native.Mathlib.Omega.{arith}
use mathlib.Core.Path.{◌≡◌, refl, sym, ap, ap₂, ◌∙◌}
use mathlib.Core.Logic.{◌⊎◌, inl, inr, ⊎_elim}
use mathlib.Core.List.{List, [], ◌∷◌}
use lib.ListN.{length}
use lib.Arith.{lt-one, bin_ind}
use lib.Pow.{pow_pos, split, mod-pow-add}
use lib.Count.{ones, ones_step, ones_cat}
use Rattle.paper.specs.Limits.{most_results}
use Rattle.seek.specs.Sets.{ones_from, positions, Earlier}
use Rattle.seek.specs.InnerSearch.{key}
use Rattle.seek.proofs.Digits.{digit, ones_from-0, ones_from-1, same-positions}

-- ---- dictionary order is a total order

pub asym : (xs ys : List ℕ) → Earlier xs ys → Earlier ys xs → ⊥
unfolding Earlier
asym [] [] p q = p
asym [] (y ∷ ys) p q = q
asym (x ∷ xs) [] p q = p
asym (x ∷ xs) (y ∷ ys) p q =
    ⊎_elim
    (λ (a : x < y). ⊎_elim (λ (b : y < x). omega arith) (λ (b : (y ≡ x) × Earlier ys xs). omega arith) q)
    (λ (a : (x ≡ y) × Earlier xs ys). ⊎_elim (λ (b : y < x). omega arith) (λ (b : (y ≡ x) × Earlier ys xs). asym xs ys a.1 b.1) q)
    p

pub trans : (xs ys zs : List ℕ) → Earlier xs ys → Earlier ys zs → Earlier xs zs
unfolding Earlier
trans [] [] zs p q = absurd p
trans [] (y ∷ ys) [] p q = q
trans [] (y ∷ ys) (z ∷ zs) p q = tt
trans (x ∷ xs) [] zs p q = absurd p
trans (x ∷ xs) (y ∷ ys) [] p q = q
trans (x ∷ xs) (y ∷ ys) (z ∷ zs) p q =
    ⊎_elim
    (λ (a : x < y). ⊎_elim (λ (b : y < z). inl (omega arith)) (λ (b : (y ≡ z) × Earlier ys zs). inl (omega arith)) q)
    (λ (a : (x ≡ y) × Earlier xs ys).
    ⊎_elim (λ (b : y < z). inl (omega arith)) (λ (b : (y ≡ z) × Earlier ys zs). inr (a.0 ∙ b.0, trans xs ys zs a.1 b.1)) q)
    p

pub compare : (xs ys : List ℕ) → (xs ≡ ys) ⊎ (Earlier xs ys ⊎ Earlier ys xs)
unfolding Earlier
compare [] [] = inl refl
compare [] (y ∷ ys) = inr (inl tt)
compare (x ∷ xs) [] = inr (inr tt)
compare (x ∷ xs) (y ∷ ys) = go (dec_lt x y) (dec_lt y x) (compare xs ys)
  where
    go : Dec (x < y) → Dec (y < x) → (xs ≡ ys) ⊎ (Earlier xs ys ⊎ Earlier ys xs)
        → (x ∷ xs ≡ y ∷ ys) ⊎ (Earlier (x ∷ xs) (y ∷ ys) ⊎ Earlier (y ∷ ys) (x ∷ xs))
    go (yes h) d r = inr (inl (inl h))
    go (no h) (yes k) r = inr (inr (inl k))
    go (no h) (no k) (inl e) = inl (ap₂ (λ (z : ℕ) (zs : List ℕ). z ∷ zs) (omega arith) e)
    go (no h) (no k) (inr (inl e)) = inr (inl (inr (omega arith, e)))
    go (no h) (no k) (inr (inr e)) = inr (inr (inr (omega arith, e)))

pub either : (s t : ℕ) → s < 2 ^ most_results → t < 2 ^ most_results → (s ≡ t → ⊥) → Earlier (positions s) (positions t) ⊎ Earlier (positions t) (positions s)
either s t h l n = ⊎_elim (λ e. absurd (n (same-positions s t h l e))) (λ e. e) (compare (positions s) (positions t))

-- ---- keys

pub key-lt : (k m : ℕ) → key k m < 2 ^ k
unfolding key
key-lt zero m = omega arith
key-lt (suc k) m =
    let ih = key-lt k (m / 2) in
    ⊎_elim
    (λ (e : m % 2 ≡ 0). rw e (omega arith))
    (λ (e : m % 2 ≡ 1). rw e (omega arith))
    (digit m)

pub key-zero : (k : ℕ) → key k 0 ≡ 0
unfolding key
key-zero zero = refl
key-zero (suc k) = let ih = key-zero k in omega arith

-- a set below 2 ^ a leaves room above its key for every set that goes on from it
key-room : (a k s : ℕ) → a ≤ k → s < 2 ^ a → key k s + 2 ^ (k - a) ≤ 2 ^ k
unfolding key
key-room zero k s l h = rw (lt-one h, key-zero k, sub-zero) (omega arith)
key-room (suc a) zero s l h = absurd (omega arith)
key-room (suc a) (suc k) s l h =
    let ih = key-room a k (s / 2) (omega arith) (omega arith) in
    let e : suc k - suc a ≡ k - a = omega arith in
    rw e (⊎_elim
    (λ (d : s % 2 ≡ 0). rw d (omega arith))
    (λ (d : s % 2 ≡ 1). rw d (omega arith))
    (digit s))

-- a result joins a set of results before it
pub key-join : (a k s : ℕ) → a < k → s < 2 ^ a → key k (2 ^ a + s) ≡ key k s + 2 ^ (k - suc a)
unfolding key
key-join a zero s l h = absurd (omega arith)
key-join zero (suc k) s l h =
    let e : suc k - 1 ≡ k = omega arith in
    rw (lt-one h, e) (omega arith)
key-join (suc a) (suc k) s l h =
    let o : (2 ^ suc a + s) % 2 ≡ s % 2 = omega arith in
    let f : (2 ^ suc a + s) / 2 ≡ 2 ^ a + s / 2 = omega arith in
    let e : suc k - suc (suc a) ≡ k - suc a = omega arith in
    let ih = key-join a k (s / 2) (omega arith) (omega arith) in
    rw (o, f, e) (omega arith)

key-0 : (k m : ℕ) → m % 2 ≡ 0 → key (suc k) m ≡ key k (m / 2)
unfolding key
key-0 k m e = rw e (omega arith)

key-1 : (k m : ℕ) → m % 2 ≡ 1 → key (suc k) m ≡ 2 ^ k + key k (m / 2)
unfolding key
key-1 k m e = rw e (omega arith)

-- the keys from a set's own up to its room are those of the sets that go on from it
pub key-within : (a k s t : ℕ) → a ≤ k → s < 2 ^ a → key k s ≤ key k t → key k t < key k s + 2 ^ (k - a) → t % 2 ^ a ≡ s
key-within zero k s t l h p q = mod-one t ∙ sym (lt-one h)
key-within (suc a) zero s t l h p q = absurd (omega arith)
key-within (suc a) (suc k) s t l h p q =
    let e : 2 ^ (suc k - suc a) ≡ 2 ^ (k - a) = ap (λ (n : ℕ). 2 ^ n) (omega arith) in
    let ih = key-within a k (s / 2) (t / 2) (omega arith) (omega arith) in
    let m : t % 2 ^ suc a ≡ (t / 2 % 2 ^ a) * 2 + t % 2 = ap (λ (n : ℕ). t % 2 ^ n) (sym (add-one a)) ∙ mod-pow-add t a 1 in
    let room = key-room a k (s / 2) (omega arith) (omega arith) in
    let tl = key-lt k (t / 2) in
    let sl = key-lt k (s / 2) in
    ⊎_elim
    (λ (ds : s % 2 ≡ 0).
    let ks = key-0 k s ds in
    ⊎_elim
    (λ (dt : t % 2 ≡ 0). let kt = key-0 k t dt in let r = ih (omega arith) (omega arith) in omega arith)
    (λ (dt : t % 2 ≡ 1). let kt = key-1 k t dt in absurd (omega arith))
    (digit t))
    (λ (ds : s % 2 ≡ 1).
    let ks = key-1 k s ds in
    ⊎_elim
    (λ (dt : t % 2 ≡ 0). let kt = key-0 k t dt in absurd (omega arith))
    (λ (dt : t % 2 ≡ 1). let kt = key-1 k t dt in let r = ih (omega arith) (omega arith) in omega arith)
    (digit t))
    (digit s)

-- what begins with i comes before positions that begin after i
front : (k j m i : ℕ) (l : List ℕ) → i < j → 0 < length (ones_from k j m) → Earlier (i ∷ l) (ones_from k j m)
unfolding Earlier ones_from
front zero j m i l h p = absurd (omega arith)
front (suc k) j m i l h p =
    ⊎_elim
    (λ (e : m % 2 ≡ 0). let f = ones_from-0 k j m e in let lf = ap length f in rw f (front k (suc j) (m / 2) i l (omega arith) (omega arith)))
    (λ (e : m % 2 ≡ 1). rw (ones_from-1 k j m e) (inl h))
    (digit m)

-- the first of two sets with equally many members
pub earlier : (k i s t : ℕ) → length (ones_from k i s) ≡ length (ones_from k i t) → key k t < key k s → Earlier (ones_from k i s) (ones_from k i t)
unfolding Earlier
earlier zero i s t e h = let a = key-lt 0 s in absurd (omega arith)
earlier (suc k) i s t e h =
    let tl = key-lt k (t / 2) in
    let sl = key-lt k (s / 2) in
    ⊎_elim
    (λ (ds : s % 2 ≡ 0).
    let ks = key-0 k s ds in
    let fs = ones_from-0 k i s ds in
    let ls = ap length fs in
    ⊎_elim
    (λ (dt : t % 2 ≡ 0).
    let kt = key-0 k t dt in
    let ft = ones_from-0 k i t dt in
    let lt = ap length ft in
    rw (fs, ft) (earlier k (suc i) (s / 2) (t / 2) (omega arith) (omega arith)))
    (λ (dt : t % 2 ≡ 1). let kt = key-1 k t dt in absurd (omega arith))
    (digit t))
    (λ (ds : s % 2 ≡ 1).
    let ks = key-1 k s ds in
    let fs = ones_from-1 k i s ds in
    let ls = ap length fs in
    ⊎_elim
    (λ (dt : t % 2 ≡ 0).
    let ft = ones_from-0 k i t dt in
    let lt = ap length ft in
    rw (fs, ft) (front k (suc i) (t / 2) i (ones_from k (suc i) (s / 2)) (omega arith) (omega arith)))
    (λ (dt : t % 2 ≡ 1).
    let kt = key-1 k t dt in
    let ft = ones_from-1 k i t dt in
    let lt = ap length ft in
    rw (fs, ft) (inr (refl, earlier k (suc i) (s / 2) (t / 2) (omega arith) (omega arith))))
    (digit t))
    (digit s)

-- ---- a set that goes on from another has more members

ones_none : (n : ℕ) → ones n ≡ 0 → n ≡ 0
ones_none = bin_ind (λ (n : ℕ). ones n ≡ 0 → n ≡ 0) (λ e. refl) (λ n ih e. let s = ones_step n in let r = ih (omega arith) in omega arith)

pub grown : (a s t : ℕ) → t % 2 ^ a ≡ s → ones t ≤ ones s → t ≡ s
grown a s t h e =
    let sp = split t a in
    let c = ones_cat a (t / 2 ^ a) (t % 2 ^ a) (mod-lt t (pow_pos a)) in
    let o = ap ones sp in
    let p = ap ones h in
    let z = ones_none (t / 2 ^ a) (omega arith) in
    let y : t / 2 ^ a * 2 ^ a ≡ 0 = ap (λ (x : ℕ). x * 2 ^ a) z ∙ omega arith in
    omega arith

-- Numbers in bytes: what was written is read, and what was read is written; records of a width.
use Prim.Native.Nat.{ℕ, ◌+◌, ◌*◌, ◌/◌, ◌%◌, ◌<◌, ◌≤◌}
use native.Mathlib.Omega.{arith}
use native.Mathlib.Nat.{div-lt_iff_lt-mul, le-div_iff_mul-le}
use native.Mathlib.Decide.{dec_le}
use native.Mathlib.Numerals.{add-one}
use mathlib.Core.Path.{◌≡◌, refl, sym, ap, ◌∙◌}
use mathlib.Core.Bool.{Bool}
use mathlib.Core.Logic.{◌⊎◌, inl, inr, ⊎_elim}
use mathlib.Core.List.{List, [], ◌∷◌, ◌++◌, append_assoc}
use lib.ListN.{length, take, drop, set, length-append, get_or-append}
use lib.Seq.{sets-eq, get_or-append-add}
use Rattle.std.proofs.Common.{◌^◌, w32}
use Rattle.std.specs.Int.{to_be_bytes}
use borrow.Author.Tests.{le-leb, lt-leb}
use Rattle.paper.specs.Lists.{pick}
use Rattle.paper.specs.Bytes.{byte, word, long, word_bytes, long_bytes, record_at}
use Rattle.paper.specs.Parts.{laid, put}
use Rattle.paper.proofs.Parted.{laid_in, laid-off, laid_next, length-laid, put-there, put-none}
use Rattle.paper.proofs.Past.{byte_past, word-past}

-- how many bytes there are
pub length-word : (n : ℕ) → length (word_bytes n) ≡ 2
unfolding word_bytes
length-word n = refl

pub length-long : (n : ℕ) → length (long_bytes n) ≡ 4
unfolding word_bytes long_bytes
length-long n = refl

-- the library writes a number in these four bytes
pub long-bytes : (n : ℕ) → n < 2 ^ 32 → to_be_bytes w32 n ≡ long_bytes n
unfolding word_bytes long_bytes
long-bytes n h =
    let a : n / 16777216 % 256 ≡ n / 65536 / 256 = omega arith in
    let b : n / 65536 % 256 ≡ n / 65536 % 256 = refl in
    let c : n / 256 % 256 ≡ n % 65536 / 256 = omega arith in
    let d : n % 256 ≡ n % 65536 % 256 = omega arith in
    rw (a, c, d) refl

-- read what was written
pub word-written : (n : ℕ) → word (word_bytes n) 0 ≡ n
unfolding word word_bytes
word-written n = omega arith

pub long-written : (n : ℕ) → long (long_bytes n) 0 ≡ n
unfolding word long word_bytes long_bytes
long-written n = omega arith

-- and where it was laid
pub word-laid : (xs : List ℕ) (i n : ℕ) → i + 2 ≤ length xs → word (laid xs i (word_bytes n)) i ≡ n
unfolding word word_bytes
word-laid xs i n h =
    let z : i + 0 ≡ i = omega arith in
    let high = ap (byte (laid xs i (word_bytes n))) (sym z) ∙ laid_in xs i (word_bytes n) (omega arith) 0 (omega arith) in
    let low = laid_in xs i (word_bytes n) (omega arith) 1 (omega arith) in
    omega arith

pub long-laid : (xs : List ℕ) (i n : ℕ) → i + 4 ≤ length xs → long (laid xs i (long_bytes n)) i ≡ n
unfolding word long word_bytes long_bytes
long-laid xs i n h =
    let z : i + 0 ≡ i = omega arith in
    let t : i + 2 + 1 ≡ i + 3 = omega arith in
    let a = ap (byte (laid xs i (long_bytes n))) (sym z) ∙ laid_in xs i (long_bytes n) (omega arith) 0 (omega arith) in
    let b = laid_in xs i (long_bytes n) (omega arith) 1 (omega arith) in
    let c = laid_in xs i (long_bytes n) (omega arith) 2 (omega arith) in
    let d = ap (byte (laid xs i (long_bytes n))) t ∙ laid_in xs i (long_bytes n) (omega arith) 3 (omega arith) in
    omega arith

-- a number inside a part, and one outside it
pub word_in : (xs : List ℕ) (a : ℕ) (part : List ℕ) (k : ℕ) → a ≤ length xs → k + 2 ≤ length part → word (laid xs a part) (a + k) ≡ word part k
unfolding word
word_in xs a part k h g =
    let e : a + k + 1 ≡ a + (k + 1) = omega arith in
    let high = laid_in xs a part h k (omega arith) in
    let low = ap (byte (laid xs a part)) e ∙ laid_in xs a part h (k + 1) (omega arith) in
    omega arith

pub word-off : (xs : List ℕ) (a : ℕ) (part : List ℕ) (k : ℕ) → a ≤ length xs → (k + 2 ≤ a) ⊎ (a + length part ≤ k) → word (laid xs a part) k ≡ word xs k
unfolding word
word-off xs a part k h u =
    let high = laid-off xs a part h k (⊎_elim (λ g. inl (omega arith)) (λ g. inr (omega arith)) u) in
    let low = laid-off xs a part h (k + 1) (⊎_elim (λ g. inl (omega arith)) (λ g. inr (omega arith)) u) in
    omega arith

pub long-in : (xs : List ℕ) (a : ℕ) (part : List ℕ) (k : ℕ) → a ≤ length xs → k + 4 ≤ length part → long (laid xs a part) (a + k) ≡ long part k
unfolding long
long-in xs a part k h g =
    let e : a + k + 2 ≡ a + (k + 2) = omega arith in
    let high = word_in xs a part k h (omega arith) in
    let low = ap (word (laid xs a part)) e ∙ word_in xs a part (k + 2) h (omega arith) in
    omega arith

pub long-off : (xs : List ℕ) (a : ℕ) (part : List ℕ) (k : ℕ) → a ≤ length xs → (k + 4 ≤ a) ⊎ (a + length part ≤ k) → long (laid xs a part) k ≡ long xs k
unfolding long
long-off xs a part k h u =
    let high = word-off xs a part k h (⊎_elim (λ g. inl (omega arith)) (λ g. inr (omega arith)) u) in
    let low = word-off xs a part (k + 2) h (⊎_elim (λ g. inl (omega arith)) (λ g. inr (omega arith)) u) in
    omega arith

-- a number in the first of two lists, and in the second
pub long-before : (xs ys : List ℕ) (k : ℕ) → k + 4 ≤ length xs → long (xs ++ ys) k ≡ long xs k
unfolding word long
long-before xs ys k h =
    omega (
      arith,
      get_or-append xs ys 0 k (omega arith),
      get_or-append xs ys 0 (k + 1) (omega arith),
      get_or-append xs ys 0 (k + 2) (omega arith),
      get_or-append xs ys 0 (k + 2 + 1) (omega arith),
    )

pub long_after : (xs ys : List ℕ) (k : ℕ) → long (xs ++ ys) (length xs + k) ≡ long ys k
unfolding word long
long_after xs ys k =
    let after : (i j : ℕ) → i ≡ length xs + j → byte (xs ++ ys) i ≡ byte ys j = λ i j e. ap (byte (xs ++ ys)) e ∙ get_or-append-add xs ys j 0 in
    omega (
      arith,
      after (length xs + k) k refl,
      after (length xs + k + 1) (k + 1) (omega arith),
      after (length xs + k + 2) (k + 2) (omega arith),
      after (length xs + k + 2 + 1) (k + 2 + 1) (omega arith),
    )

-- two bytes put one after another, and four as two and two; with no room there are none
pub word-put : (xs : List ℕ) (i n : ℕ) → i + 2 ≤ length xs → set (set xs i (n / 256)) (i + 1) (n % 256) ≡ put xs i (word_bytes n)
unfolding word_bytes laid
word-put xs i n h = ap (λ (k : ℕ). set (set xs i (n / 256)) k (n % 256)) (add-one i) ∙ sets-eq (word_bytes n) xs i h ∙ append_assoc (take i xs) (word_bytes n) (drop (i + 2) xs) ∙ sym (put-there xs i (word_bytes n) h)

pub long-put : (xs : List ℕ) (i n : ℕ) → i + 4 ≤ length xs → put (put xs i (word_bytes (n / 65536))) (i + 2) (word_bytes (n % 65536)) ≡ put xs i (long_bytes n)
unfolding long_bytes
long-put xs i n h =
    let high = word_bytes (n / 65536) in
    let low = word_bytes (n % 65536) in
    let a : length high ≡ 2 = length-word (n / 65536) in
    let b : length low ≡ 2 = length-word (n % 65536) in
    let c : length (high ++ low) ≡ 4 = simp length-append (omega arith) in
    let l : length (laid xs i high) ≡ length xs = length-laid xs i high (omega arith) in
    let e : i + 2 ≡ i + length high = omega arith in
    ap (λ (z : List ℕ). put z (i + 2) low) (put-there xs i high (omega arith))
    ∙ put-there (laid xs i high) (i + 2) low (omega arith)
    ∙ ap (λ (k : ℕ). laid (laid xs i high) k low) e
    ∙ laid_next xs i high (omega arith) low
    ∙ sym (put-there xs i (high ++ low) (omega arith))

pub word-put_none : (xs : List ℕ) (i n : ℕ) → length xs < i + 2 → put xs i (word_bytes n) ≡ xs
word-put_none xs i n h = put-none xs i (word_bytes n) (omega (arith, length-word n))

pub long-put_none : (xs : List ℕ) (i n : ℕ) → length xs < i + 4 → put xs i (long_bytes n) ≡ xs
long-put_none xs i n h = put-none xs i (long_bytes n) (omega (arith, length-long n))

-- written what was read
pub word_read : (bytes : List ℕ) (i : ℕ) → byte bytes (i + 1) < 256 → word_bytes (word bytes i) ≡ byte bytes i ∷ byte bytes (i + 1) ∷ []
unfolding word word_bytes
word_read bytes i h =
    let high : (byte bytes i * 256 + byte bytes (i + 1)) / 256 ≡ byte bytes i = omega arith in
    let low : (byte bytes i * 256 + byte bytes (i + 1)) % 256 ≡ byte bytes (i + 1) = omega arith in
    rw (high, low) refl

pub word_small : (bytes : List ℕ) (i : ℕ) → ((k : ℕ) → byte bytes k < 256) → word bytes i < 65536
unfolding word
word_small bytes i small = omega (arith, small i, small (i + 1))

pub long-read : (bytes : List ℕ) (i : ℕ) → ((k : ℕ) → byte bytes k < 256)
    → long_bytes (long bytes i) ≡ byte bytes i ∷ byte bytes (i + 1) ∷ byte bytes (i + 2) ∷ byte bytes (i + 2 + 1) ∷ []
unfolding long long_bytes
long-read bytes i small =
    let s : word bytes (i + 2) < 65536 = word_small bytes (i + 2) small in
    let high : (word bytes i * 65536 + word bytes (i + 2)) / 65536 ≡ word bytes i = omega arith in
    let low : (word bytes i * 65536 + word bytes (i + 2)) % 65536 ≡ word bytes (i + 2) = omega arith in
    rw (high, low, word_read bytes i (small (i + 1)), word_read bytes (i + 2) (small (i + 2 + 1))) refl

-- a record that is counted past those that are there begins past the end
pub record_counted : (bytes : List ℕ) (width i : ℕ) → 0 < width → i ≤ length bytes / width → width * i ≤ length bytes
record_counted bytes width i h g = let m : i * width ≤ length bytes = (le-div_iff_mul-le h).0 g in omega arith

pub record_beyond : (bytes : List ℕ) (width i : ℕ) → 0 < width → length bytes / width < i → length bytes < width * i
record_beyond bytes width i h g = let m : length bytes < i * width = (div-lt_iff_lt-mul h).0 g in omega arith

-- a record begins within the bytes, and what it holds is read from its place
module _ (bytes : List ℕ) (width i : ℕ) where
  pub record_there : width * i ≤ length bytes → record_at bytes width i ≡ width * i
  unfolding record_at
  record_there h = ap (λ (b : Bool). pick b (width * i) (length bytes)) (le-leb _ _ h)

  pub record_past : length bytes < width * i → record_at bytes width i ≡ length bytes
  unfolding record_at
  record_past h = ap (λ (b : Bool). pick b (width * i) (length bytes)) (lt-leb _ _ h)

  pub record_within : record_at bytes width i ≤ length bytes
  record_within = go (dec_le (width * i) (length bytes))
    where
      go : Dec (width * i ≤ length bytes) → record_at bytes width i ≤ length bytes
      go (yes h) = omega (arith, record_there h)
      go (no h) = omega (arith, record_past (omega arith))

  read-record : (f : ℕ → ℕ) → ((n : ℕ) → length bytes ≤ n → f n ≡ 0) → (k : ℕ) → f (record_at bytes width i + k) ≡ f (width * i + k)
  read-record f past k = go (dec_le (width * i) (length bytes))
    where
      go : Dec (width * i ≤ length bytes) → f (record_at bytes width i + k) ≡ f (width * i + k)
      go (yes h) = ap (λ (n : ℕ). f (n + k)) (record_there h)
      go (no h) = ap (λ (n : ℕ). f (n + k)) (record_past (omega arith)) ∙ past (length bytes + k) (omega arith) ∙ sym (past (width * i + k) (omega arith))

  pub byte-record : (k : ℕ) → byte bytes (record_at bytes width i + k) ≡ byte bytes (width * i + k)
  byte-record = read-record (byte bytes) (byte_past bytes)

  pub word-record : (k : ℕ) → word bytes (record_at bytes width i + k) ≡ word bytes (width * i + k)
  word-record = read-record (word bytes) (word-past bytes)

-- of width 0 every record begins at the start
pub record_none : (bytes : List ℕ) (i : ℕ) → record_at bytes 0 i ≡ 0
record_none bytes i = let e : 0 * i ≡ 0 = omega arith in record_there bytes 0 i (omega arith) ∙ e

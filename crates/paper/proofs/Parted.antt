-- Laws of a part laid into a list.
use Prim.Native.Nat.{ℕ, ◌+◌, ◌-◌, ◌<◌, ◌≤◌}
use native.Mathlib.Omega.{arith}
use native.Mathlib.Nat.{le_refl}
use native.Mathlib.Decide.{dec_le}
use native.Mathlib.Numerals.{add-one}
use mathlib.Core.Path.{◌≡◌, refl, sym, ap, ◌∙◌}
use mathlib.Core.Bool.{Bool}
use mathlib.Core.Logic.{◌⊎◌, ⊎_elim}
use mathlib.Core.List.{List, [], ◌∷◌, ◌++◌, append_assoc, append-nil}
use lib.ListN.{length, take, drop, set, length-set, length-append, length-take, length-drop, drop_of_length-le, get_or-append}
use lib.Seq.{length-take-le, take-append-le, drop-append-le, take-append-add, drop-append-add, get_or-take, get_or-drop, get_or-append-add, take-length, drop-length, drop-drop, set_split, set-append_left, take_at}
use borrow.Rule.Slice.PartMut.{put_mid, Post-is, put_same}
use borrow.Author.Tests.{le-leb, lt-leb}
use Rattle.paper.specs.Lists.{pick}
use Rattle.paper.specs.Bytes.{byte}
use Rattle.paper.specs.Parts.{laid, put}

-- at the start: the list begins with the part
pub laid-start : (xs part : List ℕ) → laid xs 0 part ≡ part ++ drop (length part) xs
unfolding laid
laid-start xs part = let e : 0 + length part ≡ length part = omega arith in ap (λ (n : ℕ). part ++ drop n xs) e

-- a part of the whole length is all there is
pub laid-all : (xs part : List ℕ) → length xs ≤ length part → laid xs 0 part ≡ part
laid-all xs part h = laid-start xs part ∙ ap (λ (z : List ℕ). part ++ z) (drop_of_length-le xs h) ∙ append-nil part

-- one number
pub laid_one : (xs : List ℕ) (i v : ℕ) → i < length xs → set xs i v ≡ laid xs i (v ∷ [])
unfolding laid
laid_one xs i v h = set_split xs i v h ∙ ap (λ (n : ℕ). take i xs ++ (v ∷ drop n xs)) (sym (add-one i))

-- a part that was lent on, put back
pub put-laid : (a k : ℕ) (xs part : List ℕ) → length part ≡ k → put_mid a (a + k - a) xs part ≡ laid xs a part
unfolding laid
put-laid a k xs part l =
    let e : a + k ≡ a + length part = omega arith in
    ap (λ (z : List ℕ). take a xs ++ (part ++ z)) (Post-is a (a + k) xs (omega arith) ∙ ap (λ (n : ℕ). drop n xs) e)

-- the part that is there
pub laid_same : (a k : ℕ) (xs : List ℕ) → a + k ≤ length xs → laid xs a (take k (drop a xs)) ≡ xs
laid_same a k xs h =
    let e : a + k - a ≡ k = omega arith in
    sym (put-laid a k xs (take k (drop a xs)) (length-take-le k (drop a xs) (simp length-drop (omega arith))))
    ∙ ap (λ (n : ℕ). put_mid a n xs (take k (drop a xs))) e
    ∙ put_same a k xs

module _ (xs : List ℕ) (a : ℕ) (part : List ℕ) (h : a ≤ length xs) where
  -- the list before the part, and from the part on
  pub take-laid : (k : ℕ) → k ≤ length part → take (a + k) (laid xs a part) ≡ take a xs ++ take k part
  unfolding laid
  take-laid k g =
      let l = length-take-le a xs h in
      let rest = drop (a + length part) xs in
      ap (λ (n : ℕ). take (n + k) (take a xs ++ (part ++ rest))) (sym l)
      ∙ take-append-add (take a xs) (part ++ rest) k
      ∙ ap (λ (z : List ℕ). take a xs ++ z) (take-append-le k part rest g)

  pub drop-laid : (k : ℕ) → k ≤ length part → drop (a + k) (laid xs a part) ≡ drop k part ++ drop (a + length part) xs
  unfolding laid
  drop-laid k g =
      let l = length-take-le a xs h in
      let rest = drop (a + length part) xs in
      ap (λ (n : ℕ). drop (n + k) (take a xs ++ (part ++ rest))) (sym l)
      ∙ drop-append-add (take a xs) (part ++ rest) k
      ∙ drop-append-le k part rest g

  pub drop-after : drop (a + length part) (laid xs a part) ≡ drop (a + length part) xs
  drop-after = drop-laid (length part) (le_refl _) ∙ ap (λ (z : List ℕ). z ++ drop (a + length part) xs) (drop-length part)

  -- a number of the part
  pub laid_in : (k : ℕ) → k < length part → byte (laid xs a part) (a + k) ≡ byte part k
  unfolding laid
  laid_in k g =
      let rest = drop (a + length part) xs in
      ap (λ (n : ℕ). byte (take a xs ++ (part ++ rest)) (n + k)) (sym (length-take-le a xs h))
      ∙ get_or-append-add (take a xs) (part ++ rest) k 0
      ∙ get_or-append part rest 0 k g

  -- a part laid over some of it
  pub laid-over : (k : ℕ) (q : List ℕ) → k + length q ≤ length part → laid (laid xs a part) (a + k) q ≡ laid xs a (laid part k q)
  unfolding laid
  laid-over k q g =
      let front = take-laid k (omega arith) in
      let e : a + k + length q ≡ a + (k + length q) = omega arith in
      let l : length (take k part ++ (q ++ drop (k + length q) part)) ≡ length part = simp (length-append, length-take, length-drop) (omega arith) in
      let rest = drop (a + length part) xs in
      let end = drop (k + length q) part in
      ap (λ (z : List ℕ). z ++ (q ++ drop (a + k + length q) (laid xs a part))) front
      ∙ ap (λ (z : List ℕ). (take a xs ++ take k part) ++ (q ++ z)) (ap (λ (n : ℕ). drop n (laid xs a part)) e ∙ drop-laid (k + length q) g)
      ∙ append_assoc (take a xs) (take k part) (q ++ (end ++ rest))
      ∙ ap (λ (z : List ℕ). take a xs ++ (take k part ++ z)) (sym (append_assoc q end rest))
      ∙ ap (λ (z : List ℕ). take a xs ++ z) (sym (append_assoc (take k part) (q ++ end) rest))
      ∙ ap (λ (n : ℕ). take a xs ++ ((take k part ++ (q ++ end)) ++ drop (a + n) xs)) (sym l)

  -- a part laid after it
  pub laid_next : (q : List ℕ) → laid (laid xs a part) (a + length part) q ≡ laid xs a (part ++ q)
  unfolding laid
  laid_next q =
      let front = take-laid (length part) (le_refl _) ∙ ap (λ (z : List ℕ). take a xs ++ z) (take-length part) in
      let e : a + length part + length q ≡ a + length (part ++ q) = simp length-append (omega arith) in
      let rest = sym (drop-drop (length q) (a + length part) (laid xs a part)) ∙ ap (drop (length q)) drop-after ∙ drop-drop (length q) (a + length part) xs ∙ ap (λ (n : ℕ). drop n xs) e in
      ap (λ (z : List ℕ). z ++ (q ++ drop (a + length part + length q) (laid xs a part))) front
      ∙ ap (λ (z : List ℕ). (take a xs ++ part) ++ (q ++ z)) rest
      ∙ append_assoc (take a xs) part (q ++ drop (a + length (part ++ q)) xs)
      ∙ ap (λ (z : List ℕ). take a xs ++ z) (sym (append_assoc part q (drop (a + length (part ++ q)) xs)))

  -- a number before the part, or after it
  pub laid-off : (k : ℕ) → (k < a) ⊎ (a + length part ≤ k) → byte (laid xs a part) k ≡ byte xs k
  unfolding laid
  laid-off k u = ⊎_elim before beyond u
    where
      before : k < a → byte (take a xs ++ (part ++ drop (a + length part) xs)) k ≡ byte xs k
      before g = get_or-append (take a xs) (part ++ drop (a + length part) xs) 0 k (omega (arith, length-take-le a xs h)) ∙ get_or-take a xs k 0 g

      beyond : a + length part ≤ k → byte (laid xs a part) k ≡ byte xs k
      beyond g =
          let m : ℕ = a + length part in
          let j : m + (k - m) ≡ k = omega arith in
          ap (byte (laid xs a part)) (sym j) ∙ sym (get_or-drop m (laid xs a part) (k - m) 0) ∙ ap (λ (z : List ℕ). byte z (k - m)) drop-after ∙ get_or-drop m xs (k - m) 0 ∙ ap (byte xs) j

-- a part of what was lent on
pub laid-inside : (xs : List ℕ) (a n k : ℕ) (q : List ℕ) → a + n ≤ length xs → k + length q ≤ n → laid xs a (laid (take n (drop a xs)) k q) ≡ laid xs (a + k) q
laid-inside xs a n k q h g =
    let l : length (take n (drop a xs)) ≡ n = length-take-le n (drop a xs) (simp length-drop (omega arith)) in
    sym (laid-over xs a (take n (drop a xs)) (omega arith) k q (omega arith)) ∙ ap (λ (z : List ℕ). laid z (a + k) q) (laid_same a n xs h)

-- a part laid past the first of two lists
pub laid-past : (xs ys : List ℕ) (a : ℕ) (part : List ℕ) → laid (xs ++ ys) (length xs + a) part ≡ xs ++ laid ys a part
unfolding laid
laid-past xs ys a part =
    let e : length xs + a + length part ≡ length xs + (a + length part) = omega arith in
    ap (λ (z : List ℕ). z ++ (part ++ drop (length xs + a + length part) (xs ++ ys))) (take-append-add xs ys a)
    ∙ ap (λ (z : List ℕ). (xs ++ take a ys) ++ (part ++ z)) (ap (λ (n : ℕ). drop n (xs ++ ys)) e ∙ drop-append-add xs ys (a + length part))
    ∙ append_assoc xs (take a ys) (part ++ drop (a + length part) ys)

-- of two parts of one length laid at one place the last stays
pub laid-again : (xs : List ℕ) (a : ℕ) (part q : List ℕ) → a + length part ≤ length xs → length q ≡ length part → laid (laid xs a part) a q ≡ laid xs a q
laid-again xs a part q h l =
    let e : a ≡ a + 0 = omega arith in
    ap (λ (n : ℕ). laid (laid xs a part) n q) e
    ∙ laid-over xs a part (omega arith) 0 q (omega arith)
    ∙ ap (laid xs a) (laid-all part q (omega arith))

-- the length stays
pub length-laid : (xs : List ℕ) (a : ℕ) (part : List ℕ) → a + length part ≤ length xs → length (laid xs a part) ≡ length xs
unfolding laid
length-laid xs a part h = simp (length-append, length-take, length-drop) (omega arith)

-- a list that begins with a part: the part; a part after it; a number after it; a number of it changed
module _ (xs part : List ℕ) (a : ℕ) where
  pub take-start : length part ≡ a → take a (laid xs 0 part) ≡ part
  take-start h = ap (take a) (laid-start xs part) ∙ take_at part (drop (length part) xs) a h

  pub laid-after : (q : List ℕ) → length part ≡ a → laid (laid xs 0 part) a q ≡ laid xs 0 (part ++ q)
  laid-after q h =
      let e : a ≡ 0 + length part = omega arith in
      ap (λ (n : ℕ). laid (laid xs 0 part) n q) e ∙ laid_next xs 0 part (omega arith) q

  pub set_after : (v : ℕ) → length part ≡ a → a < length xs → set (laid xs 0 part) a v ≡ laid xs 0 (part ++ (v ∷ []))
  set_after v h g = laid_one (laid xs 0 part) a v (omega (arith, length-laid xs 0 part (omega arith))) ∙ laid-after (v ∷ []) h

  pub set-start : (v : ℕ) → a < length part → set (laid xs 0 part) a v ≡ laid xs 0 (set part a v)
  set-start v h =
      ap (λ (z : List ℕ). set z a v) (laid-start xs part)
      ∙ set-append_left part (drop (length part) xs) a v h
      ∙ ap (λ (n : ℕ). set part a v ++ drop n xs) (sym (length-set part a v))
      ∙ sym (laid-start xs (set part a v))

-- where there is room, and where there is none
pub put-there : (xs : List ℕ) (a : ℕ) (part : List ℕ) → a + length part ≤ length xs → put xs a part ≡ laid xs a part
unfolding put
put-there xs a part h = ap (λ (b : Bool). pick b (laid xs a part) xs) (le-leb _ _ h)

pub put-none : (xs : List ℕ) (a : ℕ) (part : List ℕ) → length xs < a + length part → put xs a part ≡ xs
unfolding put
put-none xs a part h = ap (λ (b : Bool). pick b (laid xs a part) xs) (lt-leb _ _ h)

-- what was put is put again
pub put-again : (xs : List ℕ) (a : ℕ) (part : List ℕ) → put (put xs a part) a part ≡ put xs a part
put-again xs a part = go (dec_le (a + length part) (length xs))
  where
    go : Dec (a + length part ≤ length xs) → put (put xs a part) a part ≡ put xs a part
    go (yes h) =
        let l = length-laid xs a part h in
        ap (λ (z : List ℕ). put z a part) (put-there xs a part h)
        ∙ put-there (laid xs a part) a part (omega arith)
        ∙ laid-again xs a part part h refl
        ∙ sym (put-there xs a part h)
    go (no h) = ap (λ (z : List ℕ). put z a part) (put-none xs a part (omega arith))

pub length-put : (xs : List ℕ) (a : ℕ) (part : List ℕ) → length (put xs a part) ≡ length xs
length-put xs a part = go (dec_le (a + length part) (length xs))
  where
    go : Dec (a + length part ≤ length xs) → length (put xs a part) ≡ length xs
    go (yes h) = ap length (put-there xs a part h) ∙ length-laid xs a part h
    go (no h) = ap length (put-none xs a part (omega arith))

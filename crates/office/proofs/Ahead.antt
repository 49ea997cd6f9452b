-- The fields of a file, each read from what is left of it.
use Prim.Native.Nat.{ℕ, zero, suc, ◌+◌, ◌-◌, ◌≤◌, ◌<◌}
use native.Mathlib.Omega.{arith}
use native.Mathlib.Decide.{dec_lt}
use mathlib.Core.Path.{◌≡◌, refl, sym, ap, ◌∙◌}
use mathlib.Core.List.{List, [], ◌∷◌}
use lib.ListN.{length, take, drop, length-drop}
use lib.Seq.{get_or-drop, drop-drop}
use borrow.Author.Tests.{le-leb, lt-leb, lt-ltb, le-ltb}
use Rattle.paper.specs.Bytes.{byte, word}
use Rattle.paper.specs.Words.{◌≤?◌, ◌<?◌, when◌then◌else◌}
use Rattle.fields.specs.Fields.{Piece, whole, cut, value_at, field_at, past, pieces}
use Rattle.fields.proofs.Pieces.{pieces-cut, pieces_whole, pieces_end}

-- at most n pieces, the first at offset p, of what is left from there on
unfoldable pub ahead : ℕ → ℕ → List ℕ → List Piece
ahead zero p rest = []
ahead (suc n) p rest =
    let others = whole p (field_at rest 0) ∷ ahead n (p + past rest 0) (drop (past rest 0) rest) in
    when length rest ≤? 0 then [] else when length rest <? past rest 0 then cut p ∷ [] else others

module _ (file : List ℕ) where
  word-left : (p : ℕ) → word (drop p file) 1 ≡ word file (p + 1)
  unfolding word
  word-left p = let e : p + 2 ≡ p + 1 + 1 = omega arith in rw (get_or-drop p file 1 0, get_or-drop p file 2 0, e) refl

  past-left : (p : ℕ) → p + past (drop p file) 0 ≡ past file p
  past-left p = let e = word-left p in omega (arith, e)

  pub as_ahead : (n p : ℕ) → pieces n file p ≡ ahead n p (drop p file)
  unfolding pieces ahead
  as_ahead zero p = refl
  as_ahead (suc n) p = go (dec_lt p (length file)) (dec_lt (length file) (past file p)) (as_ahead n)
    where
      left : length (drop p file) ≡ length file - p
      left = length-drop p file

      go : Dec (p < length file) → Dec (length file < past file p) → ((q : ℕ) → pieces n file q ≡ ahead n q (drop q file)) → pieces (suc n) file p ≡ ahead (suc n) p (drop p file)
      go (no a) b r = let e : length (drop p file) ≤ 0 = omega (arith, left) in pieces_end (suc n) file p (omega arith) ∙ simp (le-leb _ _ e) refl
      go (yes a) (yes b) r =
          let e : 0 < length (drop p file) = omega (arith, left) in
          let f : length (drop p file) < past (drop p file) 0 = omega (arith, left, past-left p) in
          pieces-cut n file p a b ∙ simp (lt-leb _ _ e, lt-ltb _ _ f) refl
      go (yes a) (no b) r =
          let e : 0 < length (drop p file) = omega (arith, left) in
          let f : past (drop p file) 0 ≤ length (drop p file) = omega (arith, left, past-left p) in
          let next : ℕ = past (drop p file) 0 in
          let here : p + 0 ≡ p = omega arith in
          let tag : byte (drop p file) 0 ≡ byte file p = get_or-drop p file 0 0 ∙ ap (byte file) here in
          let value : value_at (drop p file) 0 ≡ value_at file p =
          ap (λ (w : ℕ). take w (drop 3 (drop p file))) (word-left p) ∙ ap (take (word file (p + 1))) (drop-drop 3 p file) in
          let others : ahead n (p + next) (drop next (drop p file)) ≡ pieces n file (past file p) =
          ap (ahead n (p + next)) (drop-drop next p file) ∙ ap (λ (k : ℕ). ahead n k (drop k file)) (past-left p) ∙ sym (r (past file p)) in
          pieces_whole n file p a (omega arith) ∙ sym (simp (lt-leb _ _ e, le-ltb _ _ f, tag, value, others) refl)

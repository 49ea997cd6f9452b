-- The fields of a file that is not cut short, joined again, are the file; and the file of any fields has these, each beside its offset.
use Prim.Native.Nat.{ℕ, zero, suc, ◌+◌, ◌-◌, ◌<◌, ◌≤◌}
use native.Mathlib.Omega.{arith}
use native.Mathlib.Decide.{dec_lt}
use mathlib.Core.Path.{◌≡◌, refl, sym, ap, subst, ◌∙◌}
use mathlib.Core.List.{List, [], ◌∷◌, ◌++◌, append_assoc}
use lib.ListN.{length, take, drop, length-drop, length-append, drop_of_length-le, take-append-drop}
use lib.Seq.{drop-cons, drop-drop, length-take-le, get_or-append-add, drop-append-add, take-append_seam}
use Rattle.paper.specs.Bytes.{byte, word, word_bytes}
use Rattle.paper.proofs.Written.{length-word, word_read}
use Rattle.fields.specs.Fields.{Field, field_bytes, file_of, Piece, whole, value_at, field_at, past, pieces, pieces_of, fields_in, Uncut, beside_offsets}
use Rattle.fields.proofs.Pieces.{pieces-cut, pieces_whole, pieces_end}

module _ (file : List ℕ) (bytes : (i : ℕ) → byte file i < 256) where
  -- a whole field's bytes stand in the file
  whole_here : (p : ℕ) → past file p ≤ length file → field_bytes (field_at file p) ++ drop (past file p) file ≡ drop p file
  whole_here p h =
      let w : ℕ = word file (p + 1) in
      let l : length (value_at file p) ≡ w = length-take-le w (drop (p + 3) file) (simp length-drop (omega arith)) in
      let e : p + 1 + 1 ≡ p + 2 = omega arith in
      let two_bytes = ap word_bytes l ∙ word_read file (p + 1) (bytes (p + 1 + 1)) ∙ ap (λ (k : ℕ). byte file (p + 1) ∷ byte file k ∷ []) e in
      let one : suc p ≡ p + 1 = omega arith in
      let two : suc (p + 1) ≡ p + 2 = omega arith in
      let three : suc (p + 2) ≡ p + 3 = omega arith in
      ap (λ (z : List ℕ). byte file p ∷ ((z ++ value_at file p) ++ drop (past file p) file)) two_bytes
      ∙ sym (drop-cons file p 0 (omega arith)
      ∙ ap (λ (n : ℕ). byte file p ∷ drop n file) one
      ∙ ap (λ (z : List ℕ). byte file p ∷ z) (drop-cons file (p + 1) 0 (omega arith) ∙ ap (λ (n : ℕ). byte file (p + 1) ∷ drop n file) two)
      ∙ ap (λ (z : List ℕ). byte file p ∷ byte file (p + 1) ∷ z) (drop-cons file (p + 2) 0 (omega arith) ∙ ap (λ (n : ℕ). byte file (p + 2) ∷ drop n file) three)
      ∙ ap (λ (z : List ℕ). byte file p ∷ byte file (p + 1) ∷ byte file (p + 2) ∷ z)
      (sym (take-append-drop w (drop (p + 3) file)) ∙ ap (λ (z : List ℕ). value_at file p ++ z) (drop-drop w (p + 3) file)))

  -- the fields from offset p on, joined, are what is left from there on
  abbrev Joined : ℕ → ℕ → Type 0
  Joined n p = length file - p ≤ n → p ≤ length file → Uncut (pieces n file p) → file_of (fields_in (pieces n file p)) ≡ drop p file

  from-here : (n p : ℕ) → Joined n p
  unfolding pieces file_of
  from-here zero p e h u = let end : length file ≤ p = omega arith in sym (drop_of_length-le file end)
  from-here (suc n) p e h u = go (dec_lt p (length file)) (dec_lt (length file) (past file p)) (from-here n)
    where
      go : Dec (p < length file) → Dec (length file < past file p) → ((q : ℕ) → Joined n q) → file_of (fields_in (pieces (suc n) file p)) ≡ drop p file
      go (no a) b r = let end : length file ≤ p = omega arith in ap (λ (ps : List Piece). file_of (fields_in ps)) (pieces_end (suc n) file p end) ∙ sym (drop_of_length-le file end)
      go (yes a) (yes b) r = absurd (subst Uncut (pieces-cut n file p a b) u)
      go (yes a) (no b) r =
          let fits : past file p ≤ length file = omega arith in
          let here = pieces_whole n file p a fits in
          ap (λ (ps : List Piece). file_of (fields_in ps)) here
          ∙ ap (λ (z : List ℕ). field_bytes (field_at file p) ++ z) (r (past file p) (omega arith) fits (subst Uncut here u))
          ∙ whole_here p fits

  pub bytes-inverse : Uncut (pieces_of file) → file_of (fields_in (pieces_of file)) ≡ file
  bytes-inverse u = from-here (length file) 0 (omega arith) (omega arith) u

-- a field that stands after some bytes and before others is the field there
module _ (before : List ℕ) (f : Field) (rest : List ℕ) where
  abbrev file : List ℕ
  file = before ++ (field_bytes f ++ rest)

  abbrev p : ℕ
  p = length before

  tag-there : byte file p ≡ f.tag
  tag-there = let e : p ≡ p + 0 = omega arith in ap (byte file) e ∙ get_or-append-add before (field_bytes f ++ rest) 0 0

  long-there : word file (p + 1) ≡ length f.value
  unfolding word word_bytes
  long-there =
      let e : p + 1 + 1 ≡ p + 2 = omega arith in
      let high = get_or-append-add before (field_bytes f ++ rest) 1 0 in
      let low = ap (byte file) e ∙ get_or-append-add before (field_bytes f ++ rest) 2 0 in
      omega (arith, high, low)

  value_there : value_at file p ≡ f.value
  unfolding word_bytes
  value_there = ap (λ (w : ℕ). take w (drop (p + 3) file)) long-there ∙ ap (take (length f.value)) (drop-append-add before (field_bytes f ++ rest) 3) ∙ take-append_seam f.value rest

  field-there : field_at file p ≡ f
  field-there = λ i. record { tag = tag-there i; value = value_there i }

  past-there : past file p ≡ p + length (field_bytes f)
  past-there = let l = length-append (word_bytes (length f.value)) f.value in omega (arith, long-there, l, length-word (length f.value))

  inside : (p < length file) × (past file p ≤ length file)
  inside = let l = length-append before (field_bytes f ++ rest) in let m = length-append (field_bytes f) rest in (omega (arith, l), omega (arith, l, m, past-there))

-- fields after some bytes
after-bytes : (before : List ℕ) (fs : List Field) (n : ℕ) → length (file_of fs) ≤ n → pieces n (before ++ file_of fs) (length before) ≡ beside_offsets (length before) fs
unfolding file_of
after-bytes before [] n h = let l = length-append before [] in pieces_end n (before ++ []) (length before) (omega (arith, l))
after-bytes before (f ∷ fs) zero h = absurd (omega arith)
after-bytes before (f ∷ fs) (suc n) h =
    let at = length before in
    let file = before ++ (field_bytes f ++ file_of fs) in
    let next : List ℕ = before ++ field_bytes f in
    let same : file ≡ next ++ file_of fs = sym (append_assoc before (field_bytes f) (file_of fs)) in
    let on : past file at ≡ length next = past-there before f (file_of fs) ∙ sym (length-append before (field_bytes f)) in
    let few : length (file_of fs) ≤ n = omega (arith, length-append (field_bytes f) (file_of fs)) in
    let in-file = inside before f (file_of fs) in
    pieces_whole n file at in-file.0 in-file.1
    ∙ ap (λ (g : Field). whole at g ∷ pieces n file (past file at)) (field-there before f (file_of fs))
    ∙ ap (λ (k : ℕ). whole at f ∷ pieces n file k) on
    ∙ ap (λ (z : List ℕ). whole at f ∷ pieces n z (length next)) same
    ∙ ap (λ (ps : List Piece). whole at f ∷ ps) (after-bytes next fs n few ∙ ap (λ (k : ℕ). beside_offsets k fs) (length-append before (field_bytes f)))

pub fields_inverse : (fs : List Field) → pieces_of (file_of fs) ≡ beside_offsets 0 fs
fields_inverse fs = after-bytes [] fs (length (file_of fs)) (omega arith)

-- none of them is cut, and they are these
uncut_beside : (p : ℕ) (fs : List Field) → Uncut (beside_offsets p fs)
uncut_beside p [] = tt
uncut_beside p (f ∷ fs) = uncut_beside (p + length (field_bytes f)) fs

fields_beside : (p : ℕ) (fs : List Field) → fields_in (beside_offsets p fs) ≡ fs
fields_beside p [] = refl
fields_beside p (f ∷ fs) = ap (λ (gs : List Field). f ∷ gs) (fields_beside (p + length (field_bytes f)) fs)

pub fields_uncut : (fs : List Field) → Uncut (pieces_of (file_of fs))
fields_uncut fs = subst Uncut (sym (fields_inverse fs)) (uncut_beside 0 fs)

pub fields_same : (fs : List Field) → fields_in (pieces_of (file_of fs)) ≡ fs
fields_same fs = ap fields_in (fields_inverse fs) ∙ fields_beside 0 fs

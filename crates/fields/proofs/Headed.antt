-- The head of a field, whole or cut short.
use Prim.Native.Nat.{ℕ, ◌+◌, ◌<◌, ◌≤◌}
use native.Mathlib.Omega.{arith}
use mathlib.Core.Path.{◌≡◌, refl, sym, ap, ◌∙◌}
use mathlib.Core.Bool.{Bool, true, false}
use mathlib.Core.List.{List}
use Rattle.std.proofs.Common.{Some, None}
use lib.ListN.{length, drop, length-drop}
use lib.Seq.{length-take-le}
use lib.Dec.{ltb}
use borrow.Author.Tests.{lt-ltb, le-ltb, ltb-true, ltb-false}
use Rattle.paper.specs.Words.{pick}
use Rattle.paper.specs.Bytes.{byte, word}
use Rattle.fields.specs.Fields.{head_bytes, value_at, past}
use Rattle.fields.specs.Inner.{head_at}
use Rattle.fields.specs.declared.heads.Head.{Head}

module _ (file : List ℕ) (p : ℕ) where
  -- its tag and its length
  abbrev head : Head
  head = record { tag = byte file p; length = word file (p + 1) }

  pub is_cut : length file < past file p → head_at file p ≡ None
  unfolding head_at
  is_cut h = simp (lt-ltb _ _ h)

  pub is_whole : past file p ≤ length file → head_at file p ≡ Some head
  unfolding head_at
  is_whole h = simp (le-ltb _ _ h)

  -- and back
  pub cut-past : None ≡ head_at file p → length file < past file p
  unfolding head_at
  cut-past = go (ltb (length file) (past file p)) refl
    where
      go : (b : Bool) → ltb (length file) (past file p) ≡ b → None ≡ pick b None (Some head) → length file < past file p
      go true t e = ltb-true (length file) (past file p) t
      go false t e = absurd (let z : ◌≡◌ {A = ℕ} 0 1 = cc in omega arith)

  -- a tag and a length that are those of a whole field
  pub record There (tag long : ℕ) : Type 0 where
    pub fits : past file p ≤ length file
    pub tag_is : tag ≡ byte file p
    pub long-is : long ≡ word file (p + 1)

  pub there : {h : Head} → Some h ≡ head_at file p → There h.tag h.length
  unfolding head_at
  there {h} = go (ltb (length file) (past file p)) refl
    where
      go : (b : Bool) → ltb (length file) (past file p) ≡ b → Some h ≡ pick b None (Some head) → There h.tag h.length
      go true t e = absurd (let z : ◌≡◌ {A = ℕ} 0 1 = cc in omega arith)
      go false t e = let is : h ≡ head = cc in record { fits = ltb-false (length file) (past file p) t; tag_is = ap (λ (x : Head). x.tag) is; long-is = ap (λ (x : Head). x.length) is }

  -- its value has that length
  pub value-long : {tag long : ℕ} → There tag long → length (value_at file p) ≡ long
  value-long h = length-take-le (word file (p + 1)) (drop (p + head_bytes) file) (simp length-drop (omega (arith, h.fits))) ∙ sym h.long-is

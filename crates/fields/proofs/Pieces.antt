-- What stands at an offset: a cut field, a whole one and what is past it, or the end.
use Prim.Native.Nat.{ℕ, zero, suc, ◌<◌, ◌≤◌}
use mathlib.Core.Path.{◌≡◌, refl}
use mathlib.Core.List.{List, [], ◌∷◌}
use lib.ListN.{length}
use borrow.Author.Tests.{le-leb, lt-leb, lt-ltb, le-ltb}
use Rattle.fields.specs.Fields.{whole, cut, field_at, past, pieces}

module _ (n : ℕ) (file : List ℕ) (p : ℕ) where
  pub pieces-cut : p < length file → length file < past file p → pieces (suc n) file p ≡ cut p ∷ []
  unfolding pieces
  pieces-cut h g = simp (lt-leb _ _ h, lt-ltb _ _ g)

  pub pieces_whole : p < length file → past file p ≤ length file → pieces (suc n) file p ≡ whole p (field_at file p) ∷ pieces n file (past file p)
  unfolding pieces
  pieces_whole h g = simp (lt-leb _ _ h, le-ltb _ _ g)

pub pieces_end : (n : ℕ) (file : List ℕ) (p : ℕ) → length file ≤ p → pieces n file p ≡ []
unfolding pieces
pieces_end zero file p h = refl
pieces_end (suc n) file p h = simp (le-leb _ _ h)

-- Every student fits band 0, or is left over there.
use Prim.Native.Nat.{ℕ, ◌+◌, ◌*◌, ◌<◌}
use native.Mathlib.Omega.{arith}
use native.Mathlib.Decide.{dec_lt}
use mathlib.Core.Path.{◌≡◌, refl, sym, ◌∙◌}
use mathlib.Core.List.{List}
use lib.ListN.{length, get_or}
use lib.Dec.{leb, ltb}
use borrow.Author.Tests.{le-leb, lt-leb, lt-ltb, le-ltb}
use Rattle.paper.specs.Lists.{pick, count}
use Rattle.paper.proofs.Listing.{sum_same, sum-add, count-all}
use Rattle.tally.specs.Counts.{at_least}
use Rattle.tally.specs.Places.{one_place, places}
use Rattle.placements.specs.Placing.{remainder}

-- c students fit, or do not
fits-or_not : (p q : ℕ) → pick (leb q p) 1 0 + pick (ltb p q) 1 0 ≡ 1
fits-or_not p q = go (dec_lt p q)
  where
    go : Dec (p < q) → pick (leb q p) 1 0 + pick (ltb p q) 1 0 ≡ 1
    go (yes l) = rw (lt-leb q p l, lt-ltb p q l) refl
    go (no l) = rw (le-leb q p (omega arith), le-ltb p q (omega arith)) refl

-- so those who fit band 0 and those left over are all students
pub fits-or_left : (xs table : List ℕ) (Y : ℕ) → count (length xs) (λ i. leb (one_place * at_least xs (get_or xs i 0)) (places table Y 0)) + remainder xs table Y ≡ length xs
unfolding remainder count
fits-or_left xs table Y =
    sym (sum-add (length xs) (λ i. pick (leb (one_place * at_least xs (get_or xs i 0)) (places table Y 0)) 1 0) (λ i. pick (ltb (places table Y 0) (one_place * at_least xs (get_or xs i 0))) 1 0))
    ∙ sum_same (length xs) (λ i. pick (leb (one_place * at_least xs (get_or xs i 0)) (places table Y 0)) 1 0 + pick (ltb (places table Y 0) (one_place * at_least xs (get_or xs i 0))) 1 0) (λ i. 1)
    (λ i l. fits-or_not (places table Y 0) (one_place * at_least xs (get_or xs i 0)))
    ∙ count-all (length xs)

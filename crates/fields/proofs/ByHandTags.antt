-- The order, the lengths and the limits of the tags, and the file's end: the values that stand beside those of ByHand.
use Prim.Native.Nat.{ℕ}
use mathlib.Core.Path.{◌≡◌, refl}
use mathlib.Core.List.{List, [], ◌∷◌, map}
use lib.ListN.{replicate}
use Rattle.paper.specs.Bytes.{word}
use Rattle.paper.specs.Rulings.{Outcome, refused, ◌at◌}
use Rattle.fields.specs.Fields.{whole, cut, pieces, pieces_of}
use Rattle.fields.proofs.ByHand.{field, far, judged_with, judged_after, good, one, over, ended_at}

-- a tag with a value of so many bytes, after each of these tags
abbrev after_each : List ℕ → ℕ → ℕ → List (Outcome (Unit {0}))
after_each lasts tag long = map (λ last. judged_after last tag long) lasts

-- refused for 1 each time
abbrev ones : ℕ → List (Outcome (Unit {0}))
ones n = replicate n one

-- one tag 1; tags 2; tags 3; one tag 4; then a tag 5 and its tags 6: no tag after any other than those it may follow
pub out_of_order :
    (after_each (2 ∷ 3 ∷ 4 ∷ 5 ∷ 6 ∷ []) 1 2 ≡ ones 5)
    × (after_each (4 ∷ 5 ∷ 6 ∷ []) 2 5 ≡ ones 3)
    × (after_each (5 ∷ 6 ∷ []) 3 7 ≡ ones 2)
    × (after_each (5 ∷ 6 ∷ []) 4 40 ≡ ones 2)
    × (after_each (0 ∷ 1 ∷ 2 ∷ []) 5 4 ≡ ones 3)
    × (after_each (0 ∷ 1 ∷ 2 ∷ 3 ∷ []) 6 6 ≡ ones 4)
out_of_order = (refl, refl, refl, refl, refl, refl)

-- year 2, catalogue entry 5, subject 2, slot 1 and score 4, Q then E 40, id 4, result 6: a byte too few or too many, on the side that is not in ByHand
pub lengths :
    (judged_after 0 1 1 ≡ one)
    × (judged_after 1 2 6 ≡ one)
    × (judged_after 1 3 8 ≡ one)
    × (judged_after 1 4 41 ≡ one)
    × (judged_after 4 5 3 ≡ one)
    × (judged_after 5 6 7 ≡ one)
lengths = (refl, refl, refl, refl, refl, refl)

-- a score has seven bytes: the five of a score in hundredths are a wrong length, after each tag that it may follow
pub score-lengths : (map (judged_after 1 3) (5 ∷ 6 ∷ 7 ∷ 8 ∷ []) ≡ one ∷ one ∷ good ∷ one ∷ []) × (after_each (1 ∷ 2 ∷ 3 ∷ []) 3 5 ≡ ones 3)
score-lengths = (refl, refl)

-- a two-byte length: no value, and a value of 256 bytes more
pub two-byte_lengths : (judged_after 0 1 0 ≡ one) × (judged_after 0 1 258 ≡ one) × (judged_after 1 4 296 ≡ one)
two-byte_lengths = (refl, refl, refl)

-- an unknown tag, in whatever length: 0 with that of a tag 1, 7 with that of a tag 6, 255 with none
pub unknown : (judged_after 0 0 2 ≡ one) × (judged_after 6 7 6 ≡ one) × (judged_after 6 255 0 ≡ one)
unknown = (refl, refl, refl)

-- 64 subjects and 512 students leave room for every other tag; 16 results are one student's
pub own-limits :
    (judged_with (far 2 64 0 0) 3 7 ≡ good)
    × (judged_with (far 3 64 0 0) 4 40 ≡ good)
    × (judged_with (far 4 64 0 0) 5 4 ≡ good)
    × (judged_with (far 5 64 512 0) 6 6 ≡ good)
    × (judged_with (far 6 64 512 15) 6 6 ≡ good)
own-limits = (refl, refl, refl, refl, refl)

-- 1 before 2: a 65th subject, a 513th student and a 17th result, each of a wrong length, and each out of order
pub one-before_two :
    (judged_with (far 2 64 0 0) 2 6 ≡ one)
    × (judged_with (far 4 64 0 0) 2 5 ≡ one)
    × (judged_with (far 6 1 512 1) 5 5 ≡ one)
    × (judged_with (far 3 1 512 1) 5 4 ≡ one)
    × (judged_with (far 6 1 1 16) 6 5 ≡ one)
    × (judged_with (far 4 1 1 16) 6 6 ≡ one)
    × (judged_with (far 5 1 512 0) 5 4 ≡ over)
one-before_two = (refl, refl, refl, refl, refl, refl, refl)

-- a file that ends before its tag 4 is 1 at the file's length: after a tag 2; after a tag 5 with no tag 6 it may end
pub ends-between : (ended_at (far 2 1 0 0) 13 ≡ refused (1 at 13)) × (ended_at (far 5 1 1 0) 62 ≡ good)
ends-between = (refl, refl)

-- a field cut short at its own tag: in its length, in its value, of which all but one of 256 bytes are there; and whole with the last
pub cut_short :
    (pieces_of (1 ∷ []) ≡ cut 0 ∷ [])
    × (pieces_of (1 ∷ 0 ∷ []) ≡ cut 0 ∷ [])
    × (pieces_of (1 ∷ 0 ∷ 2 ∷ []) ≡ cut 0 ∷ [])
    × (pieces_of (1 ∷ 0 ∷ 2 ∷ 7 ∷ []) ≡ cut 0 ∷ [])
    × (pieces_of (9 ∷ 1 ∷ 0 ∷ replicate 255 7) ≡ cut 0 ∷ [])
    × (pieces_of (9 ∷ 1 ∷ 0 ∷ replicate 256 7) ≡ whole 0 (field 9 (replicate 256 7)) ∷ [])
    × (pieces_of [] ≡ [])
unfolding word pieces
cut_short = (refl, refl, refl, refl, refl, refl, refl)

-- Fields of a few bytes, and how each is judged, by computing.
use Prim.Native.Nat.{ℕ}
use mathlib.Core.Path.{◌≡◌, refl}
use mathlib.Core.List.{List, [], ◌∷◌, ◌++◌}
use lib.ListN.{replicate}
use Rattle.paper.specs.Limits.{most_results}
use Rattle.paper.specs.Bytes.{word, word_bytes}
use Rattle.paper.specs.Rulings.{Outcome, accepted, refused, ◌at◌, judged}
use Rattle.fields.specs.Fields.{Field, file_of, whole, cut, pieces, pieces_of, beside_offsets}
use Rattle.fields.specs.Order.{start, further, order_rules, end_rules}
use Rattle.fields.specs.declared.order.Far.{Far}
use Rattle.fields.specs.Inner.{head_at}
use Rattle.std.proofs.Common.{Some, None}

abbrev pub field : ℕ → List ℕ → Field
field tag v = record { tag = tag; value = v }

-- how far: the last tag, subjects, students, results of the latest
abbrev pub far : ℕ → ℕ → ℕ → ℕ → Far
far last subjects students latest = record { last = last; subjects = subjects; students = students; latest = latest }

-- a field of two bytes, and one of three hundred
abbrev two : Field
two = field 1 (7 ∷ 229 ∷ [])

abbrev long : Field
long = field 9 (replicate 300 7)

pub bytes : (file_of (two ∷ []) ≡ 1 ∷ 0 ∷ 2 ∷ 7 ∷ 229 ∷ []) × (file_of (long ∷ two ∷ []) ≡ (9 ∷ 1 ∷ 44 ∷ replicate 300 7) ++ (1 ∷ 0 ∷ 2 ∷ 7 ∷ 229 ∷ []))
unfolding word_bytes file_of
bytes = (refl, refl)

-- each beside its offset; a file that ends in a value, in a length, after a tag; a field with no value at the end
pub standing :
    (pieces_of (file_of (two ∷ long ∷ two ∷ [])) ≡ whole 0 two ∷ whole 5 long ∷ whole 308 two ∷ [])
    × (beside_offsets 0 (two ∷ long ∷ two ∷ []) ≡ whole 0 two ∷ whole 5 long ∷ whole 308 two ∷ [])
    × (pieces_of (1 ∷ 0 ∷ 2 ∷ 7 ∷ 229 ∷ 6 ∷ 0 ∷ 1 ∷ []) ≡ whole 0 two ∷ cut 5 ∷ [])
    × (pieces_of (1 ∷ 0 ∷ 2 ∷ 7 ∷ 229 ∷ 6 ∷ 0 ∷ []) ≡ whole 0 two ∷ cut 5 ∷ [])
    × (pieces_of (1 ∷ 0 ∷ 2 ∷ 7 ∷ 229 ∷ 6 ∷ []) ≡ whole 0 two ∷ cut 5 ∷ [])
    × (pieces_of (1 ∷ 0 ∷ 2 ∷ 7 ∷ 229 ∷ 6 ∷ 0 ∷ 0 ∷ []) ≡ whole 0 two ∷ whole 5 (field 6 []) ∷ [])
unfolding word word_bytes file_of pieces
standing = (refl, refl, refl, refl, refl, refl)

pub heads : (head_at (1 ∷ 0 ∷ 2 ∷ 7 ∷ 229 ∷ []) 0 ≡ Some (record { tag = 1; length = 2 })) × (head_at (1 ∷ 0 ∷ 2 ∷ 7 ∷ []) 0 ≡ None) × (head_at (1 ∷ 0 ∷ 2 ∷ 7 ∷ 229 ∷ []) 5 ≡ None)
unfolding word head_at
heads = (refl, refl, refl)

-- one more of each tag
pub counted :
    (further start 1 ≡ far 1 0 0 0)
    × (further (far 1 3 0 0) 2 ≡ far 2 4 0 0)
    × (further (far 2 3 0 0) 3 ≡ far 3 3 0 0)
    × (further (far 3 3 0 0) 4 ≡ far 4 3 0 0)
    × (further (far 6 3 7 9) 5 ≡ far 5 3 8 0)
    × (further (far 6 3 7 9) 6 ≡ far 6 3 7 10)
counted = (refl, refl, refl, refl, refl, refl)

-- a field at offset 8 of a file that is read so far, with a value of so many bytes
abbrev pub judged_with : Far → ℕ → ℕ → Outcome (Unit {0})
judged_with so tag long = judged (order_rules most_results so (field tag (replicate long 0)) 8) tt

-- after a last tag, with one subject, one student and one result
abbrev pub judged_after : ℕ → ℕ → ℕ → Outcome (Unit {0})
judged_after last = judged_with (far last 1 1 1)

abbrev pub good : Outcome (Unit {0})
good = accepted tt

abbrev pub one : Outcome (Unit {0})
one = refused (1 at 8)

abbrev pub over : Outcome (Unit {0})
over = refused (2 at 8)

-- 1: each tag after those that it may follow, and after those next to them
pub ordered :
    (judged_after 0 1 2 ≡ good)
    × (judged_after 1 1 2 ≡ one)
    × (judged_after 0 2 5 ≡ one)
    × (judged_after 1 2 5 ≡ good)
    × (judged_after 2 2 5 ≡ good)
    × (judged_after 3 2 5 ≡ one)
    × (judged_after 0 3 7 ≡ one)
    × (judged_after 1 3 7 ≡ good)
    × (judged_after 2 3 7 ≡ good)
    × (judged_after 3 3 7 ≡ good)
    × (judged_after 4 3 7 ≡ one)
    × (judged_after 0 4 40 ≡ one)
    × (judged_after 1 4 40 ≡ good)
    × (judged_after 2 4 40 ≡ good)
    × (judged_after 3 4 40 ≡ good)
    × (judged_after 4 4 40 ≡ one)
    × (judged_after 3 5 4 ≡ one)
    × (judged_after 4 5 4 ≡ good)
    × (judged_after 5 5 4 ≡ good)
    × (judged_after 6 5 4 ≡ good)
    × (judged_after 4 6 6 ≡ one)
    × (judged_after 5 6 6 ≡ good)
    × (judged_after 6 6 6 ≡ good)
ordered = (refl, refl, refl, refl, refl, refl, refl, refl, refl, refl, refl, refl, refl, refl, refl, refl, refl, refl, refl, refl, refl, refl, refl)

-- 1: unknown tags, and lengths one off
pub known :
    (judged_after 6 0 0 ≡ one)
    × (judged_after 6 7 0 ≡ one)
    × (judged_after 0 1 3 ≡ one)
    × (judged_after 1 2 4 ≡ one)
    × (judged_after 1 3 6 ≡ one)
    × (judged_after 1 4 39 ≡ one)
    × (judged_after 4 5 5 ≡ one)
    × (judged_after 5 6 5 ≡ one)
known = (refl, refl, refl, refl, refl, refl, refl, refl)

-- 2: the last that there may be, and one more; 1 comes before it
pub limits :
    (judged_with (far 2 63 0 0) 2 5 ≡ good)
    × (judged_with (far 2 64 0 0) 2 5 ≡ over)
    × (judged_with (far 6 1 511 16) 5 4 ≡ good)
    × (judged_with (far 6 1 512 16) 5 4 ≡ over)
    × (judged_with (far 6 1 1 15) 6 6 ≡ good)
    × (judged_with (far 6 1 1 16) 6 6 ≡ over)
    × (judged_with (far 6 1 1 16) 6 7 ≡ one)
    × (judged_with (far 3 64 0 0) 2 5 ≡ one)
    × (judged (order_rules 17 (far 6 1 1 16) (field 6 (replicate 6 0)) 8) tt ≡ good)
limits = (refl, refl, refl, refl, refl, refl, refl, refl, refl)

-- 1: the end before the tag 1 and before the tag 4
abbrev pub ended_at : Far → ℕ → Outcome (Unit {0})
ended_at so end = judged (end_rules so end) tt

pub ends :
    (ended_at start 0 ≡ refused (1 at 0))
    × (ended_at (far 1 0 0 0) 5 ≡ refused (1 at 5))
    × (ended_at (far 3 1 0 0) 23 ≡ refused (1 at 23))
    × (ended_at (far 4 1 0 0) 66 ≡ good)
    × (ended_at (far 6 1 2 1) 99 ≡ good)
ends = (refl, refl, refl, refl, refl)

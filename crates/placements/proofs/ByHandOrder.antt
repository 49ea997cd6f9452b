-- Refusals 2, 11, 9, 13 and 12 of both entries: each limit met and passed, and each two rules in their order.
use Prim.Native.Nat.{ℕ}
use native.Mathlib.Omega.{arith}
use mathlib.Core.Path.{◌≡◌, refl, ap}
use mathlib.Core.Bool.{false}
use mathlib.Core.List.{List, [], ◌∷◌}
use lib.ListN.{length, get_or, replicate, set}
use lib.Dec.{ltb, lit<}
use Rattle.paper.specs.Limits.{most_aggregate, band_count, most_entry}
use Rattle.paper.specs.Lists.{sum, count, first, sum_of, first_over, some_over}
use Rattle.paper.specs.Rulings.{Outcome, accepted, refused, Rule, ◌at◌, judged}
use Rattle.paper.proofs.Firsts.{first-here}
use Rattle.tally.specs.Places.{places}
use Rattle.tally.specs.Examples.{full}
use Rattle.placements.specs.Placing.{remainder}
use Rattle.placements.specs.Promise.{size_rules, lent_rules, ruling, lent, together_ruling}
use Rattle.placements.proofs.ByHand.{faulty, high, flat_within, full-within, within, places-over}

-- one student of 0.00 and Y=0: a table, how many ranks, percentiles and bands are lent, and counts
abbrev together_at : List ℕ → ℕ → ℕ → ℕ → List ℕ → Outcome ℕ
together_at table ranks percentiles bands counts = together_ruling (0 ∷ []) table 0 (lent (replicate ranks 0) (replicate percentiles 0) (replicate bands 0) counts)

abbrev two : List ℕ
two = 0 ∷ 0 ∷ []

-- what some of the rules say
abbrev says : List Rule → Outcome (Unit {0})
says rules = judged rules tt

abbrev clear : Outcome (Unit {0})
clear = accepted tt

-- over 512 students by direct count, over 100000 with the ranks, at the limit; before it each length is another than asked
pub limits : (says (size_rules 512 512 2000 512) ≡ clear) × (says (size_rules 512 513 2000 513) ≡ refused (2 at 512)) × (says (size_rules 100000 100000 2000 100000) ≡ clear)
    × (says (size_rules 100000 100001 2000 100001) ≡ refused (2 at 100000)) × (says (size_rules 512 513 1999 513) ≡ refused (2 at 512)) × (says (size_rules 512 513 2000 512) ≡ refused (2 at 512))
limits = (refl, refl, refl, refl, refl, refl)

-- 11: the table one entry short and one too long, the bands likewise, of nobody too
pub lengths : (says (size_rules 512 3 1999 3) ≡ refused (11 at 0)) × (says (size_rules 512 3 2001 3) ≡ refused (11 at 0)) × (says (size_rules 512 3 2000 2) ≡ refused (11 at 0))
    × (says (size_rules 512 3 2000 4) ≡ refused (11 at 0)) × (says (size_rules 512 0 2000 0) ≡ clear)
    × (says (size_rules 512 0 1999 0) ≡ refused (11 at 0)) × (says (size_rules 512 0 2001 0) ≡ refused (11 at 0)) × (says (size_rules 512 0 2000 1) ≡ refused (11 at 0))
lengths = (refl, refl, refl, refl, refl, refl, refl, refl)

-- 11: the ranks one short and one too many, the percentiles, the counts likewise
pub lent-lengths : (says (lent_rules 3 3 3 50001) ≡ clear) × (says (lent_rules 3 2 3 50001) ≡ refused (11 at 0)) × (says (lent_rules 3 4 3 50001) ≡ refused (11 at 0))
    × (says (lent_rules 3 3 2 50001) ≡ refused (11 at 0)) × (says (lent_rules 3 3 4 50001) ≡ refused (11 at 0))
    × (says (lent_rules 3 3 3 50000) ≡ refused (11 at 0)) × (says (lent_rules 3 3 3 50002) ≡ refused (11 at 0)) × (says (lent_rules 0 0 0 50001) ≡ clear)
lent-lengths = (refl, refl, refl, refl, refl, refl, refl, refl)

-- by direct count 2 before 11 (the table alone, the bands alone), 11 before 9 (the table alone, the bands alone), 9 before 13 with Y over
pub direct_order : (ruling (replicate 513 0) [] 1 (replicate 513 0) ≡ refused (2 at 512)) × (ruling (replicate 513 0) full 1 [] ≡ refused (2 at 512))
    × (ruling (0 ∷ []) (replicate 1999 0) 0 (0 ∷ []) ≡ refused (11 at 0)) × (ruling (0 ∷ []) (replicate 2001 0) 0 (0 ∷ []) ≡ refused (11 at 0))
    × (ruling (0 ∷ []) full 0 [] ≡ refused (11 at 0)) × (ruling (0 ∷ []) full 0 (0 ∷ 0 ∷ []) ≡ refused (11 at 0)) × (ruling high faulty 1000001 (0 ∷ 0 ∷ []) ≡ refused (9 at 0))
unfolding full
direct_order = (refl, refl, refl, refl, refl, refl, refl)

-- with the ranks 2 before 11, whatever else is wrong: 100000 students pass on to 11, and one more do not
pub together-limit : (aggregates : List ℕ) → length aggregates ≡ 100000 → together_ruling aggregates [] 0 (lent [] [] [] []) ≡ refused (11 at 0)
together-limit aggregates e = rw e refl

pub together-over : (aggregates : List ℕ) → length aggregates ≡ 100001 → together_ruling aggregates [] 0 (lent [] [] [] []) ≡ refused (2 at 100000)
together-over aggregates e = rw e refl

-- 11 before 9, each alone, one short and one too long: the table, the ranks, the percentiles, the bands; with none of them it is 9
pub together-lengths : (counts : List ℕ) → length counts ≡ 50001
    → (together_at (replicate 1999 0) 1 1 1 counts ≡ refused (11 at 0)) × (together_at (replicate 2001 0) 1 1 1 counts ≡ refused (11 at 0))
    × (together_at full 0 1 1 counts ≡ refused (11 at 0)) × (together_at full 2 1 1 counts ≡ refused (11 at 0))
    × (together_at full 1 0 1 counts ≡ refused (11 at 0)) × (together_at full 1 2 1 counts ≡ refused (11 at 0))
    × (together_at full 1 1 0 counts ≡ refused (11 at 0)) × (together_at full 1 1 2 counts ≡ refused (11 at 0))
    × (together_at full 1 1 1 counts ≡ refused (9 at 0))
unfolding full
together-lengths counts l = (refl, refl, refl, refl, refl, refl, refl, refl, rw l refl)

-- the counts
pub short-counts : (counts : List ℕ) → length counts ≡ 50000 → together_at full 1 1 1 counts ≡ refused (11 at 0)
unfolding full
short-counts counts l = rw l refl

pub long-counts : (counts : List ℕ) → length counts ≡ 50002 → together_at full 1 1 1 counts ≡ refused (11 at 0)
unfolding full
long-counts counts l = rw l refl

-- 9 before 13, 13 before 12, and 12: Y zero and Y over; an entry; an aggregate, at a Y of 1 and of 1000000
pub together-order : (counts : List ℕ) → length counts ≡ 50001
    → (together_ruling high faulty 0 (lent two two two counts) ≡ refused (9 at 0)) × (together_ruling high faulty 1000001 (lent two two two counts) ≡ refused (9 at 0))
    × (together_ruling high faulty 1 (lent two two two counts) ≡ refused (13 at 3)) × (together_ruling high full 1 (lent two two two counts) ≡ refused (12 at 1))
    × (together_ruling high full 1000000 (lent two two two counts) ≡ refused (12 at 1))
unfolding full
together-order counts l =
    (rw l refl, rw l refl, simp (l, places-over.0, places-over.1) refl, simp (l, full-within, places-over.1) refl, simp (l, full-within, places-over.1) refl)

-- nobody is accepted, with remainder 0; but Y is still tested, each lent length before it, and the entries after it
pub together-nobody : (counts : List ℕ) → length counts ≡ 50001
    → (together_ruling [] full 1 (lent [] [] [] counts) ≡ accepted 0) × (together_ruling [] full 0 (lent [] [] [] counts) ≡ refused (9 at 0))
    × (together_ruling [] [] 1 (lent [] [] [] counts) ≡ refused (11 at 0)) × (together_ruling [] full 1 (lent (0 ∷ []) [] [] counts) ≡ refused (11 at 0))
    × (together_ruling [] full 1 (lent [] (0 ∷ []) [] counts) ≡ refused (11 at 0)) × (together_ruling [] full 1 (lent [] [] (0 ∷ []) counts) ≡ refused (11 at 0))
    × (together_ruling [] full 1 (lent [] [] [] []) ≡ refused (11 at 0)) × (together_ruling [] faulty 1 (lent [] [] [] counts) ≡ refused (13 at 3))
unfolding full remainder count sum
together-nobody counts l = (rw (l, full-within, within.2) refl, rw l refl, refl, refl, refl, refl, refl, simp (l, places-over.0) refl)

-- what no rule refuses is accepted, with its remainder: one student of 0.00, and of 500.00 at Y=1000000; all tied; both ends; a table of zeros
abbrev zeros : List ℕ
zeros = replicate band_count 0

taken-within : (some_over most_aggregate (0 ∷ []) ≡ false) × (some_over most_aggregate (50000 ∷ []) ≡ false) × (some_over most_aggregate (7 ∷ 7 ∷ []) ≡ false) × (some_over most_aggregate (50000 ∷ 0 ∷ []) ≡ false)
unfolding first
taken-within = (refl, refl, refl, refl)

taken-remainders : (remainder (0 ∷ []) full 1 ≡ 0) × (remainder (50000 ∷ []) full 1000000 ≡ 0) × (remainder (7 ∷ 7 ∷ []) full 1 ≡ 2) × (remainder (50000 ∷ 0 ∷ []) full 1 ≡ 1)
    × (remainder (7 ∷ 7 ∷ []) zeros 1 ≡ 2)
unfolding remainder places full count sum sum_of
taken-remainders = (refl, refl, refl, refl, refl)

pub together-taken : (counts : List ℕ) → length counts ≡ 50001
    → (together_ruling (0 ∷ []) full 1 (lent (9 ∷ []) (9 ∷ []) (9 ∷ []) counts) ≡ accepted 0) × (together_ruling (50000 ∷ []) full 1000000 (lent (9 ∷ []) (9 ∷ []) (9 ∷ []) counts) ≡ accepted 0)
    × (together_ruling (7 ∷ 7 ∷ []) full 1 (lent two two two counts) ≡ accepted 2) × (together_ruling (50000 ∷ 0 ∷ []) full 1 (lent two two two counts) ≡ accepted 1)
    × (together_ruling (7 ∷ 7 ∷ []) zeros 1 (lent two two two counts) ≡ accepted 2)
unfolding full
together-taken counts l = (
  rw (l, full-within, taken-within.0) (ap accepted taken-remainders.0),
  rw (l, full-within, taken-within.1) (ap accepted taken-remainders.1),
  rw (l, full-within, taken-within.2) (ap accepted taken-remainders.2),
  rw (l, full-within, taken-within.3) (ap accepted taken-remainders.3),
  rw (l, flat_within 0 (omega arith), taken-within.2) (ap accepted taken-remainders.4),
)

-- 100000 students
pub together-most : (aggregates : List ℕ) → length aggregates ≡ 100000 → some_over most_aggregate aggregates ≡ false → (counts : List ℕ) → length counts ≡ 50001
    → together_ruling aggregates full 1 (lent aggregates aggregates aggregates counts) ≡ accepted (remainder aggregates full 1)
unfolding full
together-most aggregates e w counts l = rw (w, full-within, e, l) refl

-- 12 and 13 at the lowest index of those over, the first too
abbrev faulty_first : List ℕ
faulty_first = set full 0 1000001

places-at : (first_over most_aggregate (50001 ∷ 0 ∷ 50001 ∷ []) ≡ 0) × (first_over most_entry faulty_first ≡ 0)
unfolding first full
places-at = (refl, first-here band_count (λ i. ltb most_entry (get_or faulty_first i 0)) 0 (lit< tt) (λ i l. absurd (omega arith)) refl)

pub together-places : (counts : List ℕ) → length counts ≡ 50001
    → (together_ruling (50001 ∷ 0 ∷ 50001 ∷ []) full 1 (lent (0 ∷ 0 ∷ 0 ∷ []) (0 ∷ 0 ∷ 0 ∷ []) (0 ∷ 0 ∷ 0 ∷ []) counts) ≡ refused (12 at 0))
    × (together_ruling two faulty_first 1 (lent two two two counts) ≡ refused (13 at 0))
unfolding full
together-places counts l = (simp (l, full-within, places-at.0) refl, simp (l, places-at.1) refl)

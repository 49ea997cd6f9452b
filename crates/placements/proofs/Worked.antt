-- Whatever meets the promises on cohorts worked by hand answers and writes exactly this.
use Prim.Native.Nat.{ℕ}
use mathlib.Core.Path.{◌≡◌, refl, ap, ◌∙◌}
use mathlib.Core.Bool.{false}
use mathlib.Core.List.{List, [], ◌∷◌}
use lib.ListN.{length, get_or}
use lib.Dec.{lit<}
use borrow.Author.Tests.{eq-eqb}
use Rattle.paper.specs.Limits.{most_aggregate, tally_count}
use Rattle.paper.specs.Lists.{sum, count, first, sum_of, listed, some_over}
use Rattle.paper.specs.Rounding.{nearest}
use Rattle.paper.specs.Rulings.{accepted, refused, ◌at◌}
use Rattle.paper.specs.declared.refusal.Refusal.{Refusal}
use Rattle.paper.specs.declared.refusal.Refusal.TheVariants.{WrongPopulation}
use Rattle.paper.proofs.Promised.{rules_is, only-as}
use Rattle.ranks.specs.Ranking.{ranks_of, percentiles_of}
use Rattle.tally.specs.Counts.{number_at}
use Rattle.tally.specs.Places.{places}
use Rattle.tally.specs.Examples.{full}
use Rattle.tally.proofs.Reaching.{none-fit}
use Rattle.tally.proofs.Tallies.{tally_exists}
use Rattle.placements.specs.Placing.{remainder}
use Rattle.placements.specs.Bands.{bands_of}
use Rattle.placements.specs.Promise.{ruling, Promise, Lent, together_ruling, TogetherPromise}
use Rattle.placements.specs.Given.{LentFor}
use Rattle.std.proofs.Common.{Result, Ok, Err}
use Rattle.paper.proofs.Said.{tells}
use Rattle.placements.proofs.ByHand.{three, tied_below, bands, remainders, ranked, tallies, full-within, within}
use Rattle.placements.proofs.Promised.{owes, together-owes}

-- Y=1, two different: both in 0.00
both-none : bands_of (40000 ∷ 30000 ∷ []) full 1 ≡ 0 ∷ 0 ∷ []
unfolding bands_of listed full places count sum sum_of
both-none = rw (none-fit full 1 1 (lit< tt), none-fit full 1 2 (lit< tt)) refl

two-ruled : (a b : ℕ) → ruling (40000 ∷ 30000 ∷ []) full 1 (a ∷ b ∷ []) ≡ accepted 1
unfolding full
two-ruled a b = rw (full-within, within.1) (ap accepted remainders.1)

three-ruled : (a b c : ℕ) → ruling three full 2000 (a ∷ b ∷ c ∷ []) ≡ accepted 0
unfolding full
three-ruled a b c = rw (full-within, within.0) (ap accepted remainders.0)

-- buffers of these lengths, whatever they hold
pub any_lent : (students : ℕ) (before : Lent) → length before.ranks ≡ students → length before.percentiles ≡ students → length before.bands ≡ students
    → length before.counts ≡ 50001 → LentFor students before
any_lent students before r p b c = record { ranks = r; percentiles = p; bands = b; counts = c }

tied-ruled : (before : Lent) → LentFor 3 before → together_ruling tied_below full 2000 before ≡ accepted 0
unfolding full
tied-ruled before l = rw (l.ranks, l.percentiles, l.bands, eq-eqb (length before.counts) tally_count l.counts, full-within, within.3) (ap accepted remainders.3)

-- by direct count: no program that refuses them, writes no bands, puts all in 0.00, places the first alone, splits the tied or
-- gives them the band of the first of them
pub only-three : (a b c : ℕ) (r : Result ℕ Refusal) (after : List ℕ) → Promise three full 2000 (a ∷ b ∷ c ∷ []) r after → (r ≡ Ok 0) × (after ≡ 1998 ∷ 1998 ∷ 1997 ∷ [])
only-three a b c r after h =
    let o = only-as tells rules_is (owes three full 2000 (a ∷ b ∷ c ∷ [])) (three-ruled a b c) h in
    (o.0, o.1 ∙ bands.0)

-- nor one that counts no remainder
pub only_two : (a b : ℕ) (r : Result ℕ Refusal) (after : List ℕ) → Promise (40000 ∷ 30000 ∷ []) full 1 (a ∷ b ∷ []) r after → (r ≡ Ok 1) × (after ≡ 0 ∷ 0 ∷ [])
only_two a b r after h =
    let o = only-as tells rules_is (owes (40000 ∷ 30000 ∷ []) full 1 (a ∷ b ∷ [])) (two-ruled a b) h in
    (o.0, o.1 ∙ both-none)

-- with the ranks: nor one that ranks the tied by their lower side, counts only the smaller, rounds a percentile down, writes ranks and no
-- bands, or leaves an entry of the tally as a sum or as a band
pub only-tied_together : (before : Lent) → LentFor 3 before → (r : Result ℕ Refusal) (after : Lent) → TogetherPromise tied_below full 2000 before r after
    → (r ≡ Ok 0) × (after.ranks ≡ 3 ∷ 2 ∷ 2 ∷ []) × (after.percentiles ≡ 100000 ∷ 66667 ∷ 66667 ∷ []) × (after.bands ≡ 1999 ∷ 1997 ∷ 1997 ∷ [])
    × (get_or after.counts 40000 0 ≡ 1) × (get_or after.counts 30000 0 ≡ 2) × (get_or after.counts 35000 0 ≡ 0)
only-tied_together before l r after h =
    let o = only-as tells rules_is (together-owes tied_below full 2000 before) (tied-ruled before l) h in
    let w = tally_exists tied_below in (
      o.0,
      ap (λ (l : Lent). l.ranks) o.1 ∙ ranked.2,
      ap (λ (l : Lent). l.percentiles) o.1 ∙ ranked.3,
      ap (λ (l : Lent). l.bands) o.1 ∙ bands.1,
      ap (λ (l : Lent). get_or l.counts 40000 0) o.1 ∙ w.each 40000 (lit< tt) ∙ tallies.0,
      ap (λ (l : Lent). get_or l.counts 30000 0) o.1 ∙ w.each 30000 (lit< tt) ∙ tallies.1,
      ap (λ (l : Lent). get_or l.counts 35000 0) o.1 ∙ w.each 35000 (lit< tt) ∙ tallies.2,
    )

-- at both ends of the aggregates, Y=1: nor one that leaves out the first count or the last, or answers no remainder
abbrev ends : List ℕ
ends = 50000 ∷ 0 ∷ []

ends-ranked : (ranks_of ends ≡ 2 ∷ 1 ∷ []) × (percentiles_of ends ≡ 100000 ∷ 50000 ∷ []) × (remainder ends full 1 ≡ 1) × (some_over most_aggregate ends ≡ false)
    × (number_at ends 50000 ≡ 1) × (number_at ends 0 ≡ 1) × (number_at ends 49999 ≡ 0) × (number_at ends 1 ≡ 0)
unfolding ranks_of percentiles_of remainder number_at listed first full places count sum sum_of nearest
ends-ranked = (refl, refl, refl, refl, refl, refl, refl, refl)

ends-none : bands_of ends full 1 ≡ 0 ∷ 0 ∷ []
unfolding bands_of listed full places count sum sum_of
ends-none = rw (none-fit full 1 1 (lit< tt), none-fit full 1 2 (lit< tt)) refl

ends-ruled : (before : Lent) → LentFor 2 before → together_ruling ends full 1 before ≡ accepted 1
unfolding full
ends-ruled before l = rw (l.ranks, l.percentiles, l.bands, eq-eqb (length before.counts) tally_count l.counts, full-within, ends-ranked.3) (ap accepted ends-ranked.2)

pub only-ends_together : (before : Lent) → LentFor 2 before → (r : Result ℕ Refusal) (after : Lent) → TogetherPromise ends full 1 before r after
    → (r ≡ Ok 1) × (after.ranks ≡ 2 ∷ 1 ∷ []) × (after.percentiles ≡ 100000 ∷ 50000 ∷ []) × (after.bands ≡ 0 ∷ 0 ∷ [])
    × (get_or after.counts 50000 0 ≡ 1) × (get_or after.counts 0 0 ≡ 1) × (get_or after.counts 49999 0 ≡ 0) × (get_or after.counts 1 0 ≡ 0)
only-ends_together before l r after h =
    let o = only-as tells rules_is (together-owes ends full 1 before) (ends-ruled before l) h in
    let w = tally_exists ends in (
      o.0,
      ap (λ (l : Lent). l.ranks) o.1 ∙ ends-ranked.0,
      ap (λ (l : Lent). l.percentiles) o.1 ∙ ends-ranked.1,
      ap (λ (l : Lent). l.bands) o.1 ∙ ends-none,
      ap (λ (l : Lent). get_or l.counts 50000 0) o.1 ∙ w.each 50000 (lit< tt) ∙ ends-ranked.4,
      ap (λ (l : Lent). get_or l.counts 0 0) o.1 ∙ w.each 0 (lit< tt) ∙ ends-ranked.5,
      ap (λ (l : Lent). get_or l.counts 49999 0) o.1 ∙ w.each 49999 (lit< tt) ∙ ends-ranked.6,
      ap (λ (l : Lent). get_or l.counts 1 0) o.1 ∙ w.each 1 (lit< tt) ∙ ends-ranked.7,
    )

-- Y=0 is refused by both entries, and no program that writes a band, a rank, a percentile or a count then
zero_ruled : (a b c : ℕ) → ruling three full 0 (a ∷ b ∷ c ∷ []) ≡ refused (9 at 0)
unfolding full
zero_ruled a b c = refl

zero_tied_ruled : (before : Lent) → LentFor 3 before → together_ruling tied_below full 0 before ≡ refused (9 at 0)
unfolding full
zero_tied_ruled before l = rw (l.ranks, l.percentiles, l.bands, eq-eqb (length before.counts) tally_count l.counts) refl

pub only-refused : (a b c : ℕ) (r : Result ℕ Refusal) (after : List ℕ) → Promise three full 0 (a ∷ b ∷ c ∷ []) r after → (r ≡ Err (WrongPopulation 0)) × (after ≡ a ∷ b ∷ c ∷ [])
only-refused a b c r after h = only-as tells rules_is (owes three full 0 (a ∷ b ∷ c ∷ [])) (zero_ruled a b c) h

pub only-refused_together : (before : Lent) → LentFor 3 before → (r : Result ℕ Refusal) (after : Lent) → TogetherPromise tied_below full 0 before r after
    → (r ≡ Err (WrongPopulation 0)) × (after ≡ before)
only-refused_together before l r after h = only-as tells rules_is (together-owes tied_below full 0 before) (zero_tied_ruled before l) h

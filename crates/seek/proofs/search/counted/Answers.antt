use Rattle.std.proofs.Common.{ℕ, ◌≡◌, ◌<◌, ◌^◌, Bool, true, false, bit_and, refl, sym, ◌∙◌, arith}
use Rattle.std.specs.Int.Count.{ones}
use lib.Dec.{leb}
use borrow.Author.Tests.{leb-true, leb-false, ne_eqb}
use Rattle.paper.specs.Limits.{members, least_general, most_results}
use Rattle.seek.specs.InnerTest.{Counted, Decides}
use Rattle.seek.proofs.Meets.{length-set, count_set}
use Rattle.seek.proofs.search.counted.Goals as goal

-- of a set of five
enough : (general set : ℕ) → set < 2 ^ most_results → ones set ≡ members → Decides (leb least_general (ones (bit_and set general))) (Counted general set)
enough general set small five = go (leb least_general (ones (bit_and set general))) refl
  where
    go : (b : Bool) → leb least_general (ones (bit_and set general)) ≡ b → Decides b (Counted general set)
    go true e = record { five = length-set set small ∙ five; four = omega (arith, count_set set general small, leb-true _ _ e) }
    go false e = λ a. omega (arith, count_set set general small, leb-false _ _ e, a.four)

pub returns-then-set-eq-MEMBERS : goal.returns-then-set-eq-MEMBERS
returns-then-set-eq-MEMBERS c = enough c.args.general c.args.set c.ranges.set.fits c.if-set-eq-MEMBERS.true

pub returns-else-set-eq-MEMBERS : goal.returns-else-set-eq-MEMBERS
returns-else-set-eq-MEMBERS c =
    rw (ne_eqb _ _ c.if-set-eq-MEMBERS.false) (λ (a : Counted c.args.general c.args.set). c.if-set-eq-MEMBERS.false (sym (length-set _ c.ranges.set.fits) ∙ a.five))

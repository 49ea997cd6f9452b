use Rattle.std.proofs.Common.{rules}
use Rattle.std.specs.List.{sum_by}
use Rattle.paper.specs.Lists.{sum}
use Rattle.paper.proofs.Listing.{sum-none}
use Rattle.std.proofs.lemmas.List.Sums.{sum_by-cons}
use Rattle.firsts.specs.Counts.{total}
use lib.ListN.{length, get_or}
use native.Mathlib.Omega.{arith}
use Prim.Native.Nat.{ℕ, zero, suc, ◌+◌}
use mathlib.Core.List.{List, [], ◌∷◌}
use mathlib.Core.Path.{◌≡◌, sym, ◌∙◌}
use Rattle.initial.proofs.counts.total.Goals as goal

-- a sum from its first term on
sum_first : (n : ℕ) (f : ℕ → ℕ) → sum (suc n) f ≡ f 0 + sum n (λ i. f (suc i))
unfolding sum
sum_first zero f = omega arith
sum_first (suc n) f = omega (arith, sum_first n f)

-- std's sum of a list is the paper's
summed : (counts : List ℕ) → sum_by (λ n. n) counts ≡ total counts
summed [] = sym (sum-none (λ i. get_or [] i 0))
summed (n ∷ counts) =
    let more : total (n ∷ counts) ≡ n + total counts = sum_first (length counts) (λ i. get_or (n ∷ counts) i 0) in
    omega (arith, sum_by-cons (λ n. n) n counts, summed counts, more)

pub returns : goal.returns
returns c =
    let s : c.sum.result ≡ sum_by (λ n. n) c.args.counts.now = search rules in
    s ∙ summed c.args.counts.now

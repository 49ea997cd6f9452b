-- A better raw result never gets a lower score, over a list of counts of any length; and no score is over the greatest.
use Prim.Native.Nat.{ℕ, ◌+◌, ◌-◌, ◌*◌, ◌<◌, ◌≤◌}
use native.Mathlib.Omega.{arith}
use native.Mathlib.Decide.{dec_lt, dec_le}
use native.Mathlib.Nat.{mul-le-mul_left}
use mathlib.Core.Path.{◌≡◌, ap}
use mathlib.Core.List.{List}
use lib.ListN.{length, get_or}
use Rattle.paper.specs.Limits.{score_parts, top_score}
use Rattle.paper.proofs.Listing.{sum_step, sum-split}
use Rattle.paper.proofs.Rounded.{nearest-rises, nearest-most, nearest-none}
use Rattle.firsts.specs.Counts.{below, total, score}

module _ (counts : List ℕ) where
  -- what is below a result is below a better one
  below-rises : (i j : ℕ) → i ≤ j → below counts i ≤ below counts j
  below-rises i j h =
      let e : i + (j - i) ≡ j = omega arith in
      omega (arith, sum-split i (j - i) (λ k. get_or counts k 0), ap (below counts) e)

  -- and what is at a result too
  pub below_next : (i j : ℕ) → i < j → below counts i + get_or counts i 0 ≤ below counts j
  below_next i j h = omega (arith, sum_step i (λ k. get_or counts k 0), below-rises (i + 1) j (omega arith))

  twice-rises : (i j : ℕ) → i ≤ j → get_or counts i 0 + 2 * below counts i ≤ get_or counts j 0 + 2 * below counts j
  twice-rises i j h = go (dec_lt i j)
    where
      go : Dec (i < j) → get_or counts i 0 + 2 * below counts i ≤ get_or counts j 0 + 2 * below counts j
      go (yes l) = omega (arith, below_next i j l)
      go (no l) = let e : i ≡ j = omega arith in rw e (omega arith)

  -- a better raw result never gets a lower score
  pub rising : (i j : ℕ) → i ≤ j → score counts i ≤ score counts j
  unfolding score
  rising i j h = nearest-rises _ _ (2 * total counts) (mul-le-mul_left (100 * score_parts) (twice-rises i j h))

  -- a score is at most the greatest
  pub score-most : (j : ℕ) → j < length counts → score counts j ≤ top_score
  unfolding score
  score-most j h = go (dec_le 1 (2 * total counts))
    where
      go : Dec (1 ≤ 2 * total counts) → score counts j ≤ top_score
      go (yes p) =
          let l = below_next j (length counts) h in
          let m : 100 * score_parts * (get_or counts j 0 + 2 * below counts j) ≤ 100 * score_parts * (2 * total counts) = mul-le-mul_left (100 * score_parts) (omega arith) in
          nearest-most _ (2 * total counts) top_score p m
      go (no p) =
          let e : 2 * total counts ≡ 0 = omega arith in
          rw e (omega (arith, nearest-none (100 * score_parts * (get_or counts j 0 + 2 * below counts j))))

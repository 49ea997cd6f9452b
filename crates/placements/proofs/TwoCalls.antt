-- One call gives what two gave: ranks over the aggregates, then bands by tally.
use Prim.Native.Nat.{ℕ, ◌≤◌, ◌<◌}
use native.Mathlib.Omega.{arith}
use native.Mathlib.Decide.{dec_lt}
use mathlib.Core.Path.{◌≡◌, refl, sym, ap, ◌∙◌}
use mathlib.Core.Bool.{Bool, true, false, not}
use mathlib.Core.List.{List, [], ◌∷◌}
use lib.ListN.{length, get_or}
use lib.Dec.{ltb, eqb}
use Rattle.paper.specs.Limits.{band_count, most_tallied, tally_count}
use Rattle.paper.specs.Rulings.{Outcome, accepted, refused, Rule, ◌⇒◌, ◌at◌, judged}
use Rattle.paper.specs.declared.refusal.Refusal.{Refusal}
use Rattle.paper.proofs.Ruled.{given-values}
use Rattle.ranks.specs.Meaning.{Meant}
use Rattle.ranks.specs.Promise as ranksSay
use Rattle.ranks.proofs.Promised.{ranked-is}
use Rattle.ranks.proofs.Means.{ranked-means}
use Rattle.tally.proofs.Tallies.{tally_once}
use Rattle.placements.specs.Placing.{Keeps, remainder}
use Rattle.placements.specs.Promise.{cohort_rules, Lent, ranking, together_rules, together_ruling, TogetherPromise}
use Rattle.placements.specs.TwoCalls.{TallyLent, tally_lent, tally_rules, tally_ruling, TallyPromise, placing, then_ruled, two_ruling}
use Rattle.std.proofs.Common.{Result, Ok, Err}
use Rattle.paper.specs.Promises.{said}
use Rattle.placements.proofs.Placed.{best-once}

-- its refusals are those of the two calls with the same buffers, the second made where the first accepts
same-rules : (many table bands ranks percentiles counts : Bool) (more : List Rule) (v : ℕ)
    → judged (many ⇒ 2 at most_tallied ∷ table ⇒ 11 at 0 ∷ bands ⇒ 11 at 0 ∷ ranks ⇒ 11 at 0 ∷ percentiles ⇒ 11 at 0 ∷ counts ⇒ 11 at 0 ∷ more) v
    ≡ then_ruled (judged (many ⇒ 2 at most_tallied ∷ ranks ⇒ 11 at 0 ∷ percentiles ⇒ 11 at 0 ∷ []) tt)
    (judged (many ⇒ 2 at most_tallied ∷ table ⇒ 11 at 0 ∷ bands ⇒ 11 at 0 ∷ counts ⇒ 11 at 0 ∷ more) v)
same-rules true table bands ranks percentiles counts more v = refl
same-rules false true bands true percentiles counts more v = refl
same-rules false true bands false true counts more v = refl
same-rules false true bands false false counts more v = refl
same-rules false false true true percentiles counts more v = refl
same-rules false false true false true counts more v = refl
same-rules false false true false false counts more v = refl
same-rules false false false true percentiles counts more v = refl
same-rules false false false false true counts more v = refl
same-rules false false false false false counts more v = refl

-- where the two calls accept, each does
both-accept : (o : Outcome (Unit {0})) (p : Outcome ℕ) (n : ℕ) → then_ruled o p ≡ accepted n → (o ≡ accepted tt) × (p ≡ accepted n)
both-accept (accepted u) p n e = (refl, e)
both-accept (refused f) p n e = absurd (let z : ◌≡◌ {A = ℕ} 0 1 = cc in omega arith)

module _ (aggregates table : List ℕ) (Y : ℕ) where
  pub ruled-as_two : (before : Lent) → together_ruling aggregates table Y before ≡ two_ruling aggregates table Y before
  ruled-as_two before =
      let n = length aggregates in
      same-rules (ltb most_tallied n) (not (eqb (length table) band_count)) (not (eqb (length before.bands) n)) (not (eqb (length before.ranks) n))
      (not (eqb (length before.percentiles) n)) (not (eqb (length before.counts) tally_count)) (cohort_rules aggregates table Y) (remainder aggregates table Y)

  -- so it says what they say
  pub says-as_two : (before after : Lent) (first : ranksSay.Lent) (second : TallyLent) (r : Result ℕ Refusal) (s : Result (Unit {0}) Refusal) (t : Result ℕ Refusal)
      → TogetherPromise aggregates table Y before r after → ranksSay.Promise aggregates (ranking before) s first → TallyPromise aggregates table Y (placing before) t second
      → said r ≡ then_ruled (said s) (said t)
  says-as_two before after first second r s t h a b =
      h.says ∙ ruled-as_two before ∙ (λ i. then_ruled (sym a.says i) (sym b.says i))

  -- what it accepts and leaves is what each of the two promised, with the same buffers
  pub as_two : (before after : Lent) (n : ℕ) → TogetherPromise aggregates table Y before (Ok n) after
      → ranksSay.Promise aggregates (ranking before) (Ok tt) (ranking after) × TallyPromise aggregates table Y (placing before) (Ok n) (placing after)
  as_two before after n h =
      let e = both-accept _ _ n (sym (h.says ∙ ruled-as_two before)) in
      (record { says = sym e.0; leaves = h.leaves.ranked }, record { says = sym e.1; leaves = record { best = h.leaves.best; tallied = h.leaves.tallied } })

  -- where it refuses and the first of the two accepts, the second refuses with the same number and place, and leaves its buffers as they were
  pub refused-as_two : (before after : Lent) (x : Refusal) → TogetherPromise aggregates table Y before (Err x) after → ranksSay.ruling aggregates (ranking before) ≡ accepted tt
      → TallyPromise aggregates table Y (placing before) (Err x) (placing after)
  refused-as_two before after x h e =
      record { says = h.says ∙ ruled-as_two before ∙ (λ i. then_ruled (e i) (tally_ruling aggregates table Y (placing before))); leaves = ap placing h.leaves }

  pub left-as_two : (before after : Lent) (second : TallyLent) (x y : Refusal) → TogetherPromise aggregates table Y before (Err x) after
      → TallyPromise aggregates table Y (placing before) (Err y) second → placing after ≡ second
  left-as_two before after second x y h b = ap placing h.leaves ∙ sym b.leaves

  -- and where it accepts gives their ranks, percentiles, bands and remainder, and leaves their tally, whatever each was lent
  pub one-for_two : (before after : Lent) (first₀ first : ranksSay.Lent) (second₀ second : TallyLent) (m n : ℕ)
      → TogetherPromise aggregates table Y before (Ok m) after → ranksSay.Promise aggregates first₀ (Ok tt) first → TallyPromise aggregates table Y second₀ (Ok n) second
      → (m ≡ n) × (ranking after ≡ first) × (placing after ≡ second)
  one-for_two before after first₀ first second₀ second m n h a b =
      let rules = together_rules aggregates table Y (length before.ranks) (length before.percentiles) (length before.bands) (length before.counts) in
      let others = tally_rules aggregates table Y (length second₀.bands) (length second₀.counts) in
      let left = remainder aggregates table Y in
      let bands = best-once aggregates table Y after.bands second.bands h.leaves.best b.leaves.best in
      let counts = tally_once aggregates after.counts second.counts h.leaves.tallied b.leaves.tallied in (
        given-values rules left m (sym h.says) ∙ sym (given-values others left n (sym b.says)),
        ranked-is aggregates (ranking after) h.leaves.ranked ∙ sym (ranked-is aggregates first a.leaves),
        λ i. tally_lent (bands i) (counts i),
      )

  -- ranks are 1 to N, tied students share one, a higher aggregate has a higher, and percentiles are nearest, halves up
  pub ranks-mean : (before after : Lent) (n : ℕ) → TogetherPromise aggregates table Y before (Ok n) after → Meant aggregates (ranking after)
  ranks-mean before after n h = ranked-means aggregates (ranking after) h.leaves.ranked

  -- and ranks and bands are of one list: the higher rank is in no lower band, and equal ranks are in one band
  pub of-one_list : (before after : Lent) (n : ℕ) → TogetherPromise aggregates table Y before (Ok n) after → (i j : ℕ) → i < length aggregates → j < length aggregates
      → (get_or after.ranks i 0 < get_or after.ranks j 0 → get_or after.bands i 0 ≤ get_or after.bands j 0)
      × (get_or after.ranks i 0 ≡ get_or after.ranks j 0 → get_or after.bands i 0 ≡ get_or after.bands j 0)
  of-one_list before after n h i j l k = (λ r. higher r (dec_lt a b) (dec_lt b a), λ r. equal r (dec_lt a b) (dec_lt b a))
    where
      a : ℕ
      a = get_or aggregates i 0

      b : ℕ
      b = get_or aggregates j 0

      means : Meant aggregates (ranking after)
      means = ranks-mean before after n h

      keeps : Keeps aggregates table Y after.bands
      keeps = h.leaves.best.keeps

      higher : get_or after.ranks i 0 < get_or after.ranks j 0 → Dec (a < b) → Dec (b < a) → get_or after.bands i 0 ≤ get_or after.bands j 0
      higher r (yes x) y = keeps.order i j l k x
      higher r (no x) (yes y) = absurd (omega (arith, means.rises j i k l y))
      higher r (no x) (no y) = absurd (omega (arith, means.ties i j l k (omega arith)))

      equal : get_or after.ranks i 0 ≡ get_or after.ranks j 0 → Dec (a < b) → Dec (b < a) → get_or after.bands i 0 ≡ get_or after.bands j 0
      equal r (yes x) y = absurd (omega (arith, means.rises i j l k x))
      equal r (no x) (yes y) = absurd (omega (arith, means.rises j i k l y))
      equal r (no x) (no y) = keeps.ties i j l k (omega arith)

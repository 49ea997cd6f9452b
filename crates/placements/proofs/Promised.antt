-- The promises determine the answer and the buffers, and the computed ones meet them.
use Prim.Native.Nat.{ℕ, ◌≤◌}
use native.Mathlib.Omega.{arith}
use mathlib.Core.Path.{◌≡◌, refl}
use mathlib.Core.Bool.{false}
use mathlib.Core.List.{List, ◌++◌}
use lib.ListN.{length, get_or}
use Rattle.std.proofs.Common.{Result}
use borrow.Author.Tests.{ltb-false, le-ltb, eqb-true, eq-eqb, not-false}
use Rattle.paper.specs.Limits.{most_aggregate, most_population, band_count, most_entry, most_students, most_tallied, tally_count}
use Rattle.paper.specs.Promises.{answer, Owes}
use Rattle.paper.specs.declared.refusal.Refusal.{Refusal}
use Rattle.paper.proofs.Promised as every
use Rattle.paper.specs.Lists.{over, first_over, some_over}
use Rattle.paper.specs.Rulings.{accepted}
use Rattle.paper.proofs.Firsts.{none_over, none_has}
use Rattle.paper.proofs.Ranging.{within-true, true_within}
use Rattle.paper.proofs.Said.{tells}
use Rattle.paper.proofs.Ruled.{Unbroken, unbroken_parts, Tabled, tabled}
use Rattle.ranks.proofs.Promised.{computed, ranked-is}
use Rattle.tally.specs.Counts.{tally_of}
use Rattle.tally.proofs.Tallies.{tally_exists, tally_once}
use Rattle.placements.specs.Placing.{BestPlacement, remainder}
use Rattle.placements.specs.Bands.{bands_of}
use Rattle.placements.specs.Promise.{size_rules, lent_rules, cohort_rules, direct_rules, ruling, Promise, Lent, lent, ranking, together_rules, together_ruling, Together, TogetherPromise, left, together, together_left}
use Rattle.placements.specs.InnerReady.{Ready, TogetherReady}
use Rattle.placements.proofs.Placed.{best-exists, best-once}

-- each rule gives a number and place of the paper's table
direct_tabled : (aggregates table : List ℕ) (Y bands : ℕ) → Tabled (direct_rules aggregates table Y bands)
direct_tabled aggregates table Y bands = (λ e. refl, (λ e. refl, (λ e. refl, (λ e. refl, (λ e. refl, (λ e. refl, tt))))))

together-tabled : (aggregates table : List ℕ) (Y ranks percentiles bands counts : ℕ) → Tabled (together_rules aggregates table Y ranks percentiles bands counts)
together-tabled aggregates table Y ranks percentiles bands counts =
    (λ e. refl, (λ e. refl, (λ e. refl, (λ e. refl, (λ e. refl, (λ e. refl, (λ e. refl, (λ e. refl, (λ e. refl, tt)))))))))

-- by direct count: the computed answer and bands are permitted, no others are, and two permitted results are equal
module _ (aggregates table : List ℕ) (Y : ℕ) (before : List ℕ) where
  pub owes : Owes (λ n. BestPlacement aggregates table Y) (ruling aggregates table Y before) (λ n. bands_of aggregates table Y)
  owes = record { met = λ n e. best-exists aggregates table Y; only = λ n b x. best-once aggregates table Y b _ x (best-exists aggregates table Y) }

  pub meets : let o = ruling aggregates table Y before in Promise aggregates table Y before (answer o) (left aggregates table Y before o)
  meets = every.meets tells every.rules_is owes (tabled (direct_rules aggregates table Y (length before)) (remainder aggregates table Y) (direct_tabled aggregates table Y (length before)))

  pub only : {r : Result ℕ Refusal} {b : List ℕ} → Promise aggregates table Y before r b → let o = ruling aggregates table Y before in (r ≡ answer o) × (b ≡ left aggregates table Y before o)
  only = every.only tells every.rules_is owes

  pub determined : {r s : Result ℕ Refusal} {b c : List ℕ} → Promise aggregates table Y before r b → Promise aggregates table Y before s c → (r ≡ s) × (b ≡ c)
  determined = every.determined tells every.rules_is owes

-- the buffers filled with what is computed hold what is promised, and no others do
pub together-holds : (aggregates table : List ℕ) (Y : ℕ) → Together aggregates table Y (together aggregates table Y)
together-holds aggregates table Y = record { ranked = computed aggregates; best = best-exists aggregates table Y; tallied = tally_exists aggregates }

together-once : (aggregates table : List ℕ) (Y : ℕ) (b : Lent) → Together aggregates table Y b → b ≡ together aggregates table Y
together-once aggregates table Y b x =
    let ranked = ranked-is aggregates (ranking b) x.ranked in
    let bands = best-once aggregates table Y b.bands (bands_of aggregates table Y) x.best (best-exists aggregates table Y) in
    let counts = tally_once aggregates b.counts (tally_of aggregates) x.tallied (tally_exists aggregates) in
    λ i. lent (ranked i).ranks (ranked i).percentiles (bands i) (counts i)

-- in one call with the ranks the same of all four buffers
module _ (aggregates table : List ℕ) (Y : ℕ) (before : Lent) where
  pub together-owes : Owes (λ n. Together aggregates table Y) (together_ruling aggregates table Y before) (λ n. together aggregates table Y)
  together-owes = record { met = λ n e. together-holds aggregates table Y; only = λ n. together-once aggregates table Y }

  pub together-meets : let o = together_ruling aggregates table Y before in TogetherPromise aggregates table Y before (answer o) (together_left aggregates table Y before o)
  together-meets =
      let ranks = length before.ranks in
      let percentiles = length before.percentiles in
      let bands = length before.bands in
      let counts = length before.counts in
      every.meets tells every.rules_is together-owes
      (tabled (together_rules aggregates table Y ranks percentiles bands counts) (remainder aggregates table Y) (together-tabled aggregates table Y ranks percentiles bands counts))

  pub together-only : {r : Result ℕ Refusal} {b : Lent} → TogetherPromise aggregates table Y before r b
      → let o = together_ruling aggregates table Y before in (r ≡ answer o) × (b ≡ together_left aggregates table Y before o)
  together-only = every.only tells every.rules_is together-owes

  pub together-determined : {r s : Result ℕ Refusal} {b c : Lent} → TogetherPromise aggregates table Y before r b → TogetherPromise aggregates table Y before s c → (r ≡ s) × (b ≡ c)
  together-determined = every.determined tells every.rules_is together-owes

-- what the screening clears is ready to be placed
ready : (limit : ℕ) (aggregates table : List ℕ) (Y : ℕ) (bands : List ℕ) → limit ≤ most_tallied → Unbroken (size_rules limit (length aggregates) (length table) (length bands))
    → Unbroken (cohort_rules aggregates table Y) → Ready aggregates table Y bands
ready limit aggregates table Y bands m s k =
    record {
      students = record {
        few = omega (arith, ltb-false limit (length aggregates) s.0);
        each = none_over most_aggregate aggregates (ltb-false (first_over most_aggregate aggregates) (length aggregates) k.1.1.0);
      };
      sized = record {
        long = eqb-true (length table) band_count (not-false _ s.1.0);
        each = none_over most_entry table (ltb-false (first_over most_entry table) (length table) k.1.0);
      };
      people = (within-true 1 most_population Y (not-false _ k.0)).1;
      lent = eqb-true (length bands) (length aggregates) (not-false _ s.1.1.0);
    }

pub direct_ready : (aggregates table : List ℕ) (Y : ℕ) (bands : List ℕ) → Unbroken (direct_rules aggregates table Y (length bands)) → Ready aggregates table Y bands
direct_ready aggregates table Y bands h =
    let k = unbroken_parts (size_rules most_students (length aggregates) (length table) (length bands)) (cohort_rules aggregates table Y) h in
    ready most_students aggregates table Y bands (omega arith) k.0 k.1

pub together-ready : (aggregates table : List ℕ) (Y : ℕ) (before : Lent)
    → Unbroken (together_rules aggregates table Y (length before.ranks) (length before.percentiles) (length before.bands) (length before.counts))
    → TogetherReady aggregates table Y before
together-ready aggregates table Y before h =
    let n = length aggregates in
    let lents = lent_rules n (length before.ranks) (length before.percentiles) (length before.counts) in
    let k = unbroken_parts (size_rules most_tallied n (length table) (length before.bands)) (lents ++ cohort_rules aggregates table Y) h in
    let m = unbroken_parts lents (cohort_rules aggregates table Y) k.1 in
    let cleared = ready most_tallied aggregates table Y before.bands (omega arith) k.0 m.1 in
    record {
      ready = cleared;
      ranking = record {
        students = cleared.students;
        ranks_long = eqb-true (length before.ranks) n (not-false _ m.0.0);
        percentiles_long = eqb-true (length before.percentiles) n (not-false _ m.0.1.0);
        counts_long = eqb-true (length before.counts) tally_count (not-false _ m.0.1.1.0);
      };
    }

-- and what no rule refuses is accepted, whatever the table's entries are: it needn't rise
all_within : (limit : ℕ) (xs : List ℕ) → ((i : ℕ) → get_or xs i 0 ≤ limit) → some_over limit xs ≡ false
all_within limit xs h = none_has (length xs) (over limit xs) (λ i l. le-ltb _ _ (h i))

pub accepts : (aggregates table : List ℕ) (Y : ℕ) (bands : List ℕ) → Ready aggregates table Y bands → length aggregates ≤ most_students → 1 ≤ Y
    → ruling aggregates table Y bands ≡ accepted (remainder aggregates table Y)
accepts aggregates table Y bands r few some =
    rw (
      le-ltb most_students (length aggregates) few,
      eq-eqb (length table) band_count r.sized.long,
      eq-eqb (length bands) (length aggregates) r.lent,
      true_within 1 most_population Y some r.people,
      all_within most_entry table r.sized.each,
      all_within most_aggregate aggregates r.students.each,
    ) refl

pub together-accepts : (aggregates table : List ℕ) (Y : ℕ) (before : Lent) → TogetherReady aggregates table Y before → 1 ≤ Y
    → together_ruling aggregates table Y before ≡ accepted (remainder aggregates table Y)
together-accepts aggregates table Y before t some =
    let r = t.ready in
    rw (
      le-ltb most_tallied (length aggregates) r.students.few,
      eq-eqb (length table) band_count r.sized.long,
      eq-eqb (length before.bands) (length aggregates) r.lent,
      eq-eqb (length before.ranks) (length aggregates) t.ranking.ranks_long,
      eq-eqb (length before.percentiles) (length aggregates) t.ranking.percentiles_long,
      eq-eqb (length before.counts) tally_count t.ranking.counts_long,
      true_within 1 most_population Y some r.people,
      all_within most_entry table r.sized.each,
      all_within most_aggregate aggregates r.students.each,
    ) refl

-- The promise determines the answer and both buffers, and a computed answer meets it.
use Prim.Native.Nat.{ℕ, ◌<◌, ◌≤◌}
use native.Mathlib.Omega.{arith}
use mathlib.Core.Path.{◌≡◌, refl, ap, ◌∙◌}
use Rattle.std.proofs.Common.{Result}
use mathlib.Core.List.{List}
use lib.ListN.{length, get_or}
use borrow.Author.Tests.{le-ltb, eq-eqb}
use Rattle.paper.specs.Limits.{most_values}
use Rattle.paper.specs.Lists.{listed}
use Rattle.paper.specs.Rulings.{accepted}
use Rattle.paper.specs.Promises.{answer, Owes}
use Rattle.paper.specs.declared.refusal.Refusal.{Refusal}
use Rattle.paper.proofs.Listing.{length-listed, at-list, is-listed}
use Rattle.paper.proofs.Promised as every
use Rattle.paper.proofs.Ruled.{tabled}
use Rattle.paper.proofs.Said.{tells}
use Rattle.ranks.specs.Ranking.{at_most, rank, percentile, ranks_of, percentiles_of}
use Rattle.ranks.specs.Promise.{Lent, lent, rank_rules, ruling, Ranked, Promise, ranked, left}
use Rattle.ranks.specs.Inner.{SameCounts}
use Rattle.ranks.proofs.Counting.{at-within}

-- the computed ranks and percentiles are those of the values, and no others are
pub computed : (values : List ℕ) → Ranked values (ranked values)
unfolding ranks_of percentiles_of
computed values =
    let n = length values in
    record {
      ranks_long = length-listed 0 n (rank values);
      percentiles_long = length-listed 0 n (λ i. percentile n (rank values i));
      ranks_are = at-list n (rank values);
      percentiles_are = at-list n (λ i. percentile n (rank values i));
    }

pub ranked-is : (values : List ℕ) (b : Lent) → Ranked values b → b ≡ ranked values
unfolding ranks_of percentiles_of
ranked-is values b w =
    let n = length values in
    let ranks = is-listed b.ranks n (rank values) w.ranks_long w.ranks_are in
    let percentiles = is-listed b.percentiles n (λ i. percentile n (rank values i)) w.percentiles_long w.percentiles_are in
    λ i. lent (ranks i) (percentiles i)

pub owes : (values : List ℕ) (before : Lent) → Owes (λ u. Ranked values) (ruling values before) (λ u. ranked values)
owes values before = record { met = λ u e. computed values; only = λ u. ranked-is values }

module _ (values : List ℕ) (before : Lent) where
  -- the computed answer and buffers are permitted
  pub meets : let o = ruling values before in Promise values before (answer o) (left values before o)
  meets = every.meets tells every.rules_is (owes values before) (tabled (rank_rules values before) tt (λ e. refl, (λ e. refl, (λ e. refl, tt))))

  -- and no others
  pub only : {r : Result (Unit {0}) Refusal} {b : Lent} → Promise values before r b → let o = ruling values before in (r ≡ answer o) × (b ≡ left values before o)
  only = every.only tells every.rules_is (owes values before)

  -- two permitted results are equal
  pub determined : {r s : Result (Unit {0}) Refusal} {b c : Lent} → Promise values before r b → Promise values before s c → (r ≡ s) × (b ≡ c)
  determined = every.determined tells every.rules_is (owes values before)

-- what no rule refuses is accepted, whatever the values
pub accepts : (values : List ℕ) (before : Lent) → length values ≤ most_values → length before.ranks ≡ length values → length before.percentiles ≡ length values
    → ruling values before ≡ accepted tt
accepts values before few r p = rw (le-ltb most_values (length values) few, eq-eqb (length before.ranks) (length values) r, eq-eqb (length before.percentiles) (length values) p) refl

-- ranks counted in a list of the same counts
module _ (values xs ranks : List ℕ) (s : SameCounts values xs) (e : ranks ≡ listed 0 (length values) (λ i. at_most xs (get_or values i 0))) where
  pub counted-long : length ranks ≡ length values
  counted-long = ap length e ∙ length-listed 0 (length values) _

  counted-at : (i : ℕ) → i < length values → get_or ranks i 0 ≡ at_most xs (get_or values i 0)
  counted-at i l = ap (λ (r : List ℕ). get_or r i 0) e ∙ at-list (length values) (λ i. at_most xs (get_or values i 0)) i l

  -- are at most as many as there are
  pub counted-within : (i : ℕ) → i < length ranks → get_or ranks i 0 ≤ length ranks
  counted-within i l =
      omega (arith, counted-long, counted-at i (omega (arith, counted-long)), at-within xs (get_or values i 0), s.long)

  -- and with their percentiles are what is promised
  pub all_ranked : (percentiles : List ℕ) → percentiles ≡ listed 0 (length ranks) (λ i. percentile (length ranks) (get_or ranks i 0)) → Ranked values (lent ranks percentiles)
  all_ranked percentiles g =
      let n = length values in
      let are : (i : ℕ) → i < n → get_or ranks i 0 ≡ rank values i = λ i l. counted-at i l ∙ s.same (get_or values i 0) in
      let h : percentiles ≡ listed 0 n (λ i. percentile n (get_or ranks i 0)) = g ∙ ap (λ (m : ℕ). listed 0 m (λ i. percentile m (get_or ranks i 0))) counted-long in
      record {
        ranks_long = counted-long;
        percentiles_long = ap length h ∙ length-listed 0 n _;
        ranks_are = are;
        percentiles_are = λ i l. ap (λ (r : List ℕ). get_or r i 0) h ∙ at-list n (λ i. percentile n (get_or ranks i 0)) i l ∙ ap (percentile n) (are i l);
      }

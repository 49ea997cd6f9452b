-- The inner calls of ranks and bands never refuse, and the table is drawn.
use Prim.Native.Nat.{ℕ, ◌≤◌, ◌<◌}
use native.Mathlib.Omega.{arith}
use mathlib.Core.Path.{◌≡◌, refl, ap, subst, ◌∙◌}
use mathlib.Core.Bool.{Bool, false}
use mathlib.Core.List.{List}
use Rattle.std.proofs.Common.{Result, Ok, Err}
use lib.ListN.{length, get_or}
use borrow.Author.Tests.{le-ltb, eq-eqb}
use Rattle.paper.specs.Limits.{most_aggregate, band_count, most_students, most_values, most_population, most_entry, least_rate, most_rate}
use Rattle.paper.specs.Lists.{over, some_over, pick}
use Rattle.paper.specs.Rulings.{accepted}
use Rattle.paper.proofs.Firsts.{none_has}
use Rattle.paper.proofs.Ranging.{true_within}
use Rattle.paper.proofs.Promised.{rules_is, only-as, left_as}
use Rattle.paper.proofs.Said.{tells}
use Rattle.paper.specs.declared.refusal.Refusal.{Refusal}
use Rattle.curve.specs.Curve.{table_of, drawn}
use Rattle.curve.specs.Meaning.{Curved}
use Rattle.curve.proofs.Means.{curved}
use Rattle.ranks.specs.Promise.{Lent, lent, ranked, ruling as ranksRuling, Promise as RanksPromise}
use Rattle.ranks.proofs.Promised.{ranked-is, accepts}
use Rattle.placements.specs.Placing.{remainder}
use Rattle.placements.specs.Bands.{bands_of}
use Rattle.placements.specs.Promise.{ruling as bandsRuling, Promise as BandsPromise}
use Rattle.placements.proofs.Promised.{owes as bands-owes}
use Rattle.printed.specs.Report.{Columns, columns_of}
use Rattle.printed.specs.InnerCohorts.{Populated, columns, Cohort, Placeable}

-- a list with no number over a limit
within-over : (limit : ℕ) (xs : List ℕ) → ((i : ℕ) → i < length xs → get_or xs i 0 ≤ limit) → some_over limit xs ≡ false
within-over limit xs h = none_has (length xs) (over limit xs) (λ i l. le-ltb _ _ (h i l))

module _ (rate population : ℕ) (p : Populated rate population) where
  -- the table of a rate that is accepted
  pub table-drawn : (before : List ℕ) → drawn rate before ≡ table_of rate
  table-drawn before = ap (λ (b : Bool). pick b (table_of rate) before) (true_within least_rate most_rate rate p.rate_least p.rate_most)

  shape : Curved rate (table_of rate)
  shape = curved rate (table_of rate) p.rate_least p.rate_most refl

  pub table_long : (before : List ℕ) → length (drawn rate before) ≡ band_count
  table_long before = ap length (table-drawn before) ∙ shape.long

module _ (rate population : ℕ) (aggregates : List ℕ) (p : Cohort aggregates rate population) where
  pub ranks-accept : (ranks percentiles : List ℕ) → length ranks ≡ length aggregates → length percentiles ≡ length aggregates → ranksRuling aggregates (lent ranks percentiles) ≡ accepted tt
  ranks-accept ranks percentiles a b =
      let few : length aggregates ≤ most_values = omega (arith, p.few) in
      accepts aggregates (lent ranks percentiles) few a b

  pub bands-accept : (bands : List ℕ) → length bands ≡ length aggregates → bandsRuling aggregates (table_of rate) population bands ≡ accepted (remainder aggregates (table_of rate) population)
  bands-accept bands b =
      let w = shape rate population p.populated in
      rw (
        le-ltb most_students (length aggregates) p.few,
        eq-eqb (length (table_of rate)) band_count w.long,
        eq-eqb (length bands) (length aggregates) b,
        true_within 1 most_population population p.populated.some p.populated.most,
        within-over most_entry (table_of rate) (λ i l. w.most i (omega (arith, w.long))),
        within-over most_aggregate aggregates (λ i l. p.each i),
      ) refl

  -- so what they leave is what is listed
  pub all_ranked : (before after : Lent) {r : Result (Unit {0}) Refusal} → length before.ranks ≡ length aggregates → length before.percentiles ≡ length aggregates
      → RanksPromise aggregates before r after → after ≡ ranked aggregates
  all_ranked before after a b g = ranked-is aggregates after (left_as (ranks-accept before.ranks before.percentiles a b) g)

  pub all_placed : (before drawing table after : List ℕ) {r : Result ℕ Refusal} → length before ≡ length aggregates → table ≡ drawn rate drawing
      → BandsPromise aggregates table population before r after
      → (r ≡ Ok (remainder aggregates (table_of rate) population)) × (after ≡ bands_of aggregates (table_of rate) population)
  all_placed before drawing table after {r} b h k =
      let m : BandsPromise aggregates (table_of rate) population before r after =
      subst (λ (x : List ℕ). BandsPromise aggregates x population before r after) (h ∙ table-drawn rate population p.populated drawing) k in
      only-as tells rules_is (bands-owes aggregates (table_of rate) population before) (bands-accept before b) m

-- together, into buffers of their lengths
pub all_listed : (rate population : ℕ) (c : Columns) → Placeable rate population c → (drawing table : List ℕ) {ranks percentiles bands : List ℕ} {r : Result (Unit {0}) Refusal} {s : Result ℕ Refusal}
    → table ≡ drawn rate drawing → RanksPromise c.aggregates (lent c.ranks c.percentiles) r (lent ranks percentiles) → BandsPromise c.aggregates table population c.bands s bands
    → (columns c.aggregates ranks percentiles bands ≡ columns_of c.aggregates (table_of rate) population) × (s ≡ Ok (remainder c.aggregates (table_of rate) population))
all_listed rate population c p drawing table {ranks} {percentiles} {bands} h g k =
    let e = all_ranked rate population c.aggregates p.cohort (lent c.ranks c.percentiles) (lent ranks percentiles) p.even.ranks p.even.percentiles g in
    let f = all_placed rate population c.aggregates p.cohort c.bands drawing table bands p.even.bands h k in
    (λ i. columns c.aggregates (e i).ranks (e i).percentiles (f.1 i), f.0)

-- of answers, beside what the code needs now: the remainder of an answer, 0 of a refusal
abbrev pub remainder_in : Result ℕ Refusal → ℕ
remainder_in (Ok n) = n
remainder_in (Err x) = 0

-- The worked examples hold: by computing, since whatever meets a promise is what is computed.
use Prim.Native.Nat.{ℕ, zero, suc}
use native.Mathlib.Omega.{arith}
use mathlib.Core.Path.{◌≡◌, refl, ap, ap₂, subst, ◌∙◌}
use mathlib.Core.List.{List, [], ◌∷◌, map}
use lib.ListN.{length, get_or, take, drop}
use lib.Dec.{lit<}
use borrow.Author.Tests.{le-ltb, ltb-false, eq-eqb}
use Rattle.paper.specs.Limits.{most_students, most_tallied}
use Rattle.paper.specs.Lists.{sum, count, first, sum_of, listed}
use Rattle.paper.specs.Bytes.{word, long, word_bytes, long_bytes}
use Rattle.paper.specs.Rounding.{nearest}
use Rattle.paper.specs.Rulings.{Outcome, accepted, values_or, in_turn}
use Rattle.paper.proofs.Ruled.{Unbroken, unbroken_all}
use Rattle.paper.proofs.Promised.{rules_is, only-as, left_as}
use Rattle.catalogue.specs.Catalogue.{outside}
use Rattle.scores.specs.Scores.{found, slot_of}
use Rattle.scores.specs.Rows.{slots_from}
use Rattle.seek.specs.Sets.{ones_from, sum_over, count_over}
use Rattle.results.specs.Results.{Student}
use Rattle.results.specs.Scoring.{score_found, score}
use Rattle.results.specs.Counting.{usable, usable_at, shows_english, kept}
use Rattle.sets.specs.Rules.{wrong, unscored, repeated}
use Rattle.paper.specs.Promises.{said}
use Rattle.paper.specs.declared.refusal.Refusal.{Refusal}
use Rattle.sets.specs.Promise.{aggregate_of}
use Rattle.sets.specs.declared.BestSet.{BestSet}
use Rattle.sets.specs.Computed.{admissible, earlier, chosen, computed}
use Rattle.sets.proofs.Meeting.{said-only}
use Rattle.ranks.specs.Ranking.{ranks_of}
use Rattle.curve.specs.Population.{S, E}
use Rattle.curve.specs.Curve.{lower, upper, entry, table_of}
use Rattle.curve.specs.Promise.{population_ruling}
use Rattle.curve.specs.declared.Participation.{Participation}
use Rattle.curve.proofs.Promised.{table-ruled}
use Rattle.tally.specs.Places.{places, band_up_to}
use Rattle.tally.specs.Examples.{full}
use Rattle.tally.proofs.Reaching.{none-fit}
use Rattle.placements.specs.Placing.{remainder}
use Rattle.placements.specs.Bands.{bands_of}
use Rattle.placements.specs.Promise.{direct_rules, together_rules, Lent, TogetherPromise}
use Rattle.placements.specs.Given.{LentFor}
use Rattle.placements.proofs.ByHand.{full-within}
use Rattle.std.proofs.Common.{Result}
use Rattle.paper.proofs.Said.{tells}
use Rattle.placements.proofs.Promised.{owes, together-owes}
use Rattle.worked.specs.Called.{Rated, Placed, alone, with_table, directly, ranked}
use Rattle.worked.specs.Example.{counted, at_rate, atar_of, aggregate_in, Answers, Example, best-set◌by◌is◌, figures◌give◌, rate◌band◌has◌, aggregates◌by◌of◌get◌leaving◌, cohort◌by◌and◌of◌have◌rank◌get◌leaving◌, Holds, All}
use Rattle.worked.specs.Worked.{examples}

-- the aggregates that are computed of students, 0 where one is refused
abbrev aggregates_in : List Student → List ℕ → List ℕ
aggregates_in students table = map (λ s. (values_or (record { aggregate = 0; set = 0 }) (computed s table)).aggregate) students

-- what is to be computed for an example
abbrev Computes : Example → Type 0
Computes (best-set s by table is o) = computed s table ≡ o
Computes (figures q give o) = population_ruling q ≡ o
Computes (rate r band k has v) = (population_ruling (at_rate r) ≡ counted 10000 r) × (get_or (table_of r) k 0 ≡ v)
Computes (aggregates xs by table of Y get atars leaving n) =
    Unbroken (direct_rules xs table Y (length xs)) × (remainder xs table Y ≡ n) × (map atar_of (bands_of xs table Y) ≡ atars)
Computes (cohort ss by scores and table of Y have xs rank ranks get atars leaving n) =
    (aggregates_in ss scores ≡ xs) × (length ss ≡ length xs) × Unbroken (direct_rules xs table Y (length xs)) × (remainder xs table Y ≡ n) × (ranks_of xs ≡ ranks) × (map atar_of (bands_of xs table Y) ≡ atars)

-- Y and r, by either entry
rated : (q : List ℕ) (o : Outcome Participation) (r : Result Participation Refusal) → population_ruling q ≡ o → Rated q r → said r ≡ o
rated q o r c (alone h) = h.says ∙ c
rated q o r c (with_table before after l h) = h.says ∙ table-ruled q before l ∙ c

-- whom the direct count accepts the call with the ranks accepts too
taken : (xs table : List ℕ) (Y : ℕ) (before : Lent) → LentFor (length xs) before → Unbroken (direct_rules xs table Y (length xs))
    → Unbroken (together_rules xs table Y (length before.ranks) (length before.percentiles) (length before.bands) (length before.counts))
taken xs table Y before l k =
    rw (l.ranks, l.percentiles, l.bands, l.counts, eq-eqb (length xs) (length xs) refl)
    (le-ltb most_tallied (length xs) (omega (arith, ltb-false most_students (length xs) k.0)), (k.1.0, (refl, (refl, (refl, (refl, k.1.1.1))))))

-- bands and remainder, by either entry
placed : (xs table : List ℕ) (Y : ℕ) (atars : List ℕ) (n : ℕ) (r : Result ℕ Refusal) (bands : List ℕ) → Computes (aggregates xs by table of Y get atars leaving n)
    → Placed xs table Y r bands → (said r ≡ accepted n) × (map atar_of bands ≡ atars)
placed xs table Y atars n r bands c (directly before l h) =
    let e = unbroken_all (direct_rules xs table Y (length before)) (remainder xs table Y) (rw l c.0) in
    let o = only-as tells rules_is (owes xs table Y before) (e ∙ ap accepted c.1) h in
    (ap said o.0, ap (map atar_of) o.1 ∙ c.2)
placed xs table Y atars n r bands c (ranked before ranks percentiles counts l h) =
    let rules = together_rules xs table Y (length before.ranks) (length before.percentiles) (length before.bands) (length before.counts) in
    let e = unbroken_all rules (remainder xs table Y) (taken xs table Y before l c.0) in
    let o = only-as tells rules_is (together-owes xs table Y before) (e ∙ ap accepted c.1) h in
    (ap said o.0, ap (λ (b : Lent). map atar_of b.bands) o.1 ∙ c.2)

-- the aggregates of promised answers are those that are computed
answered : (ss : List Student) (scores : List ℕ) (rs : List (Result BestSet Refusal)) → Answers ss scores rs → map aggregate_in rs ≡ aggregates_in ss scores
answered [] scores [] h = refl
answered [] scores (r ∷ rs) h = absurd h
answered (s ∷ ss) scores [] h = absurd h
answered (s ∷ ss) scores (r ∷ rs) h =
    ap₂ (λ (x : ℕ) (xs : List ℕ). x ∷ xs) (ap (λ (o : Outcome BestSet). (values_or (record { aggregate = 0; set = 0 }) o).aggregate) (said-only s scores h.0))
    (answered ss scores rs h.1)

-- ranks and bands of students, in one call
stand : (ss : List Student) (scores table : List ℕ) (Y : ℕ) (xs ranks atars : List ℕ) (n : ℕ) → Computes (cohort ss by scores and table of Y have xs rank ranks get atars leaving n)
    → Holds (cohort ss by scores and table of Y have xs rank ranks get atars leaving n)
stand ss scores table Y xs ranks atars n c rs h r before after l p =
    let e = answered ss scores rs h ∙ c.0 in
    let k = subst (λ (m : ℕ). LentFor m before) c.1 l in
    let rules = together_rules xs table Y (length before.ranks) (length before.percentiles) (length before.bands) (length before.counts) in
    let u = unbroken_all rules (remainder xs table Y) (taken xs table Y before k c.2) in
    let o = only-as tells rules_is (together-owes xs table Y before) (u ∙ ap accepted c.3) (subst (λ (ys : List ℕ). TogetherPromise ys table Y before r after) e p) in
    (e, ap said o.0, ap (λ (b : Lent). b.ranks) o.1 ∙ c.4, ap (λ (b : Lent). map atar_of b.bands) o.1 ∙ c.5)

-- what computes so is promised so
holds : (e : Example) → Computes e → Holds e
holds (best-set s by table is o) c = λ r h. said-only s table h ∙ c
holds (figures q give o) c = λ r h. rated q o r c h
holds (rate r band k has v) c = λ a before after l h.
    let e = table-ruled (at_rate r) before l ∙ c.0 in
    (h.says ∙ e, ap (λ (t : List ℕ). get_or t k 0) (left_as e h) ∙ c.1)
holds (aggregates xs by table of Y get atars leaving n) c = λ r bands h. placed xs table Y atars n r bands c h
holds (cohort ss by scores and table of Y have xs rank ranks get atars leaving n) c = stand ss scores table Y xs ranks atars n c

-- each example of a list
abbrev AllCompute : List Example → Type 0
AllCompute [] = Unit {0}
AllCompute (e ∷ es) = Computes e × AllCompute es

all_hold : (es : List Example) → AllCompute es → All es
all_hold [] c = tt
all_hold (e ∷ es) c = (holds e c.0, all_hold es c.1)

-- the first n and the rest
join : (n : ℕ) (es : List Example) → AllCompute (take n es) → AllCompute (drop n es) → AllCompute es
join zero es a b = b
join (suc n) [] a b = tt
join (suc n) (e ∷ es) a b = (a.0, join n es a.1 b)

-- students 7, 8, 9 and 11; six Generals; those of many years; those to four decimals
of-students : AllCompute (take 14 examples)
unfolding examples slots_from word_bytes long_bytes first word long in_turn outside found slot_of ones_from sum_over count_over score_found score usable usable_at shows_english kept wrong unscored repeated admissible earlier chosen aggregate_of nearest
of-students = (refl, (refl, (refl, (refl, (refl, (refl, (refl, (refl, (refl, (refl, (refl, (refl, (refl, (refl, tt))))))))))))))

-- r=5000, r=2500 and r=7500
entries : AllCompute (take 7 (drop 14 examples))
unfolding examples sum first S E nearest listed lower upper entry table_of
entries = ((refl, refl), ((refl, refl), ((refl, refl), ((refl, refl), ((refl, refl), ((refl, refl), ((refl, refl), tt)))))))

-- Y=100000
rates : AllCompute (take 4 (drop 21 examples))
unfolding examples sum first S E nearest
rates = (refl, (refl, (refl, (refl, tt))))

-- full table: Y=2000; Y=1, where neither of two fits band 1
three-placed : AllCompute (take 1 (drop 25 examples))
unfolding examples sum count first sum_of listed full places remainder band_up_to bands_of
three-placed = (((refl, (refl, (refl, (refl, (full-within, (refl, tt)))))), refl, refl), tt)

two-placed : AllCompute (take 1 (drop 26 examples))
unfolding examples sum count first sum_of listed full places remainder bands_of
two-placed =
    (((refl, (refl, (refl, (refl, (full-within, (refl, tt)))))), refl, rw (none-fit full 1 1 (lit< tt), none-fit full 1 2 (lit< tt)) refl), tt)

-- four students of which two share an aggregate
four-placed : AllCompute (drop 27 examples)
unfolding examples slots_from word_bytes long_bytes first word long in_turn outside found slot_of ones_from sum_over count_over score_found score usable usable_at shows_english kept wrong unscored repeated admissible earlier chosen aggregate_of nearest sum count sum_of listed full places remainder band_up_to bands_of ranks_of
four-placed = ((refl, refl, (refl, (refl, (refl, (refl, (full-within, (refl, tt)))))), refl, refl, refl), tt)

-- the paper's examples marked P and those of requests E2 and E5, in one statement
pub worked : All examples
unfolding examples
worked =
    all_hold examples
    (join 14 examples of-students
    (join 7 (drop 14 examples) entries (join 4 (drop 21 examples) rates (join 1 (drop 25 examples) three-placed (join 1 (drop 26 examples) two-placed four-placed)))))

-- The best set, computed: of all sets of the results those that are admissible, and of these the first of the greatest.
use Rattle.std.specs.Prelude.{ℕ, zero, suc, ◌+◌, ◌^◌, Bool, true, false, not, ◌&&◌, ◌||◌, List, [], ◌∷◌, length}
use Rattle.paper.specs.Limits.{most_results, members, least_general, most_span}
use Rattle.paper.specs.Lists.{some}
use Rattle.paper.specs.Rulings.{Outcome, accepted, refused, ◌at◌}
use Rattle.paper.specs.Words.{◌≤?◌, ◌<?◌, ◌=?◌, when◌then◌else◌}
use Rattle.catalogue.specs.Kinds.{english, mathematics}
use Rattle.seek.specs.Sets.{has, positions, count_over}
use Rattle.results.specs.Results.{Student, held, result}
use Rattle.results.specs.Counting.{general_at, applied_at, strand_at, kept}
use Rattle.sets.specs.Admissible.{identified}
use Rattle.sets.specs.Promise.{ruling, total_of, aggregate_of}
use Rattle.sets.specs.declared.BestSet.{BestSet}

-- some member has f
abbrev pub some_in : ℕ → (ℕ → Bool) → Bool
some_in set f = some most_results (λ i. has set i && f i)

-- strand, student, set: both a General and an Applied of the strand
abbrev pub both : ℕ → Student → ℕ → Bool
both strand s set = some_in set (λ i. general_at s i && strand_at strand s i) && some_in set (λ i. applied_at s i && strand_at strand s i)

-- result j comes after result i, and is of kinds 1 or 3 with its identity
abbrev pub shares : Student → ℕ → ℕ → Bool
shares s i j = i <? j && (identified s j && (result s i).entry.identity =? (result s j).entry.identity)

-- two of kinds 1 or 3 with one identity
abbrev pub twice : Student → ℕ → Bool
twice s set = some_in set (λ i. identified s i && some_in set (shares s i))

-- result j is more than four years later than result i
abbrev pub beyond : Student → ℕ → ℕ → Bool
beyond s i j = ((result s i).year + most_span) <? (result s j).year

-- some member is more than four years later than another
abbrev pub scattered : Student → ℕ → Bool
scattered s set = some_in set (λ i. some_in set (beyond s i))

-- the test of a set
unfoldable pub admissible : Student → ℕ → Bool
admissible s set =
    (set <? 2 ^ most_results && length (positions set) =? members)
    && ((not (some_in set (λ i. not (kept s i))) && least_general ≤? count_over (general_at s) (positions set))
    && (not (both english s set) && (not (both mathematics s set) && (not (twice s set) && not (scattered s set)))))

-- dictionary order
unfoldable pub earlier : List ℕ → List ℕ → Bool
earlier [] [] = false
earlier [] (y ∷ ys) = true
earlier (x ∷ xs) [] = false
earlier (x ∷ xs) (y ∷ ys) = x <? y || (x =? y && earlier xs ys)

-- a choice so far, and whether a set is better than it
pub data Choice : Type 0 where
  none : Choice
  one : ℕ → Choice

abbrev pub better : (ℕ → ℕ) → ℕ → ℕ → Bool
better worth best set = worth best <? worth set || (worth best =? worth set && earlier (positions set) (positions best))

abbrev pub choose : (ℕ → ℕ) → Choice → ℕ → Choice
choose worth none set = one set
choose worth (one best) set = one (when better worth best set then set else best)

-- the choice among the numbers below n
unfoldable pub chosen : (ℕ → Bool) → (ℕ → ℕ) → ℕ → Choice
chosen right worth zero = none
chosen right worth (suc n) = let c = chosen right worth n in when right n then choose worth c n else c

-- what is said of a choice: the aggregate and the set, or 8
abbrev pub told : Student → List ℕ → Choice → Outcome BestSet
told s table none = refused (8 at 0)
told s table (one set) = accepted (record { aggregate = aggregate_of (total_of s table set); set = set })

abbrev pub decided : Student → List ℕ → Outcome (Unit {0}) → Outcome BestSet
decided s table (refused f) = refused f
decided s table (accepted u) = told s table (chosen (admissible s) (total_of s table) (2 ^ held s))

-- the whole answer
abbrev pub computed : Student → List ℕ → Outcome BestSet
computed s table = decided s table (ruling s table)

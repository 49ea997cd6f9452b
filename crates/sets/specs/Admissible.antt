-- Which sets of results are admissible.
use Rattle.std.specs.Prelude.{ℕ, ◌+◌, ◌^◌, ◌<◌, ◌≤◌, ◌≡◌, Bool, true, length}
use Rattle.paper.specs.Limits.{most_results, members, least_general, most_span}
use Rattle.catalogue.specs.Kinds.{english, mathematics, is_identified}
use Rattle.seek.specs.Sets.{In, positions, count_over}
use Rattle.results.specs.Results.{Student, result}
use Rattle.results.specs.Counting.{general_at, applied_at, strand_at, kept}

-- strand, student, set: not both a General and an Applied of the strand
abbrev pub NotBoth : ℕ → Student → ℕ → Type 0
NotBoth strand s set =
    (i j : ℕ) → In i set → In j set
    → general_at s i ≡ true → strand_at strand s i ≡ true → applied_at s j ≡ true → strand_at strand s j ≡ true → ⊥

-- result i is of kinds 1 or 3
abbrev pub identified : Student → ℕ → Bool
identified s i = is_identified (result s i).entry.kind

-- no two of kinds 1 or 3 with one identity
abbrev pub OneEach : Student → ℕ → Type 0
OneEach s set =
    (i j : ℕ) → i < j → In i set → In j set
    → identified s i ≡ true → identified s j ≡ true → (result s i).entry.identity ≡ (result s j).entry.identity → ⊥

-- its latest year exceeds its earliest by at most four: of any two members the one's year is at most four more than the other's
abbrev pub FiveYears : Student → ℕ → Type 0
FiveYears s set = (i j : ℕ) → In i set → In j set → (result s j).year ≤ (result s i).year + most_span

-- five kept results, at least four of them General; not both a General and an Applied of strand 1; not both of strand 2; no two of kinds 1 or 3 with one identity;
-- all within five consecutive years
pub record Admissible (s : Student) (set : ℕ) : Type 0 where
  pub bits : set < 2 ^ most_results
  pub five : length (positions set) ≡ members
  pub each : (i : ℕ) → In i set → kept s i ≡ true
  pub four : least_general ≤ count_over (general_at s) (positions set)
  pub englishes : NotBoth english s set
  pub maths : NotBoth mathematics s set
  pub identities : OneEach s set
  pub years : FiveYears s set

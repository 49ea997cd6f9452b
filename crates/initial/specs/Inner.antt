-- What the functions below the entry ask of each other.
use Rattle.std.specs.Prelude.{ℕ, ◌<◌, ◌≤◌, ◌≡◌, true, not, ◌||◌, List, length, get_or, Result, MatchResult}
use Rattle.paper.specs.Ranges.{within}
use Rattle.paper.specs.Refusals.{fault}
use Rattle.paper.specs.Rulings.{◌at◌}
use Rattle.paper.specs.Words.{◌=?◌}
use Rattle.paper.specs.declared.refusal.Refusal.{Refusal}
use Rattle.catalogue.specs.Kinds.{general, short_course, vet, number}
use Rattle.catalogue.specs.declared.kinds.Kind.{Kind}
use Rattle.paper.specs.Limits.{slots, row_bytes, most_count}
use Rattle.firsts.specs.Counts.{total}
use Rattle.firsts.specs.Row.{asked}

-- number, result: the kind that has the number; or a refusal, where it is a short course's or no kind's
abbrev pub Scored : ℕ → Result Kind Refusal → Type 0
Scored n r = MatchResult r (λ kind. (number kind ≡ n) × (n ≡ short_course → ⊥)) (λ x. (fault x ≡ 3 at 0) × ((n =? short_course || not (within general vet n)) ≡ true))

-- counts that can be summed: at most 100, and none over the greatest
pub record Countable (counts : List ℕ) : Type 0 where
  pub few : length counts ≤ slots
  pub each : (i : ℕ) → i < length counts → get_or counts i 0 ≤ most_count

-- kind, counts, their total and a row that can be written
pub record Writable (kind : ℕ) (counts : List ℕ) (all : ℕ) (row : List ℕ) : Type 0 where
  pub long : length counts ≡ asked kind
  pub all_are : all ≡ total counts
  pub most : all ≤ most_count
  pub whole : length row ≡ row_bytes

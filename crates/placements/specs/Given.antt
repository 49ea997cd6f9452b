-- What an accepted call of either entry gives, and buffers of the lengths that are asked.
use Rattle.std.specs.Prelude.{ℕ, ◌≡◌, Ok, List, length}
use Rattle.paper.specs.Limits.{tally_count}
use Rattle.placements.specs.Promise.{Promise, Lent, lent, TogetherPromise}

-- the remainder n and the bands, by direct count or in one call with the ranks, whatever the lent buffers held before
pub data Given (aggregates table : List ℕ) (Y n : ℕ) (bands : List ℕ) : Type 0 where
  directly : (before : List ℕ) → Promise aggregates table Y before (Ok n) bands → Given aggregates table Y n bands
  ranked : (before : Lent) (ranks percentiles counts : List ℕ) → TogetherPromise aggregates table Y before (Ok n) (lent ranks percentiles bands counts) → Given aggregates table Y n bands

-- lent to the call with the ranks: as many ranks, percentiles and bands as there are students, and 50001 counts
pub record LentFor (students : ℕ) (before : Lent) : Type 0 where
  pub ranks : length before.ranks ≡ students
  pub percentiles : length before.percentiles ≡ students
  pub bands : length before.bands ≡ students
  pub counts : length before.counts ≡ tally_count

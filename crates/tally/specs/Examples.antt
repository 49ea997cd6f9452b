-- A participation table that is the same in every band.
use Rattle.std.specs.Prelude.{ℕ, List, replicate}
use Rattle.paper.specs.Limits.{band_count, most_entry}

-- all 1000000
unfoldable pub full : List ℕ
full = replicate band_count most_entry

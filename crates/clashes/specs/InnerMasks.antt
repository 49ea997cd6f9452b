-- Masks of results, bit i for result i.
use Rattle.std.specs.Prelude.{ℕ, ◌*◌, ◌%◌, ◌^◌, ◌<◌, ◌≡◌, Bool, true}
use Rattle.std.specs.Int.Bits.{bit_or}
use Rattle.paper.specs.Words.{when◌then◌else◌}
use Rattle.seek.specs.Sets.{In}

-- of the results below n a mask holds those of f, and those alone
pub record MaskOf (f : ℕ → Bool) (n mask : ℕ) : Type 0 where
  pub small : mask < 2 ^ n
  pub sound : (i : ℕ) → In i mask → f i ≡ true
  pub whole : (i : ℕ) → i < n → f i ≡ true → In i mask

-- a mask with result i, if it is of the sort
abbrev pub marked : ℕ → ℕ → Bool → ℕ
marked mask i belongs = when belongs then bit_or mask (1 * 2 ^ i % 65536) else mask

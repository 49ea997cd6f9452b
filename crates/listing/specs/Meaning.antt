-- What the digits of a number mean.
use Rattle.std.specs.Prelude.{ℕ, ◌+◌, ◌-◌, ◌*◌, ◌<◌, ◌≤◌, ◌≡◌, List, [], ◌∷◌, length, get_or}
use Rattle.listing.specs.Text.{zero_digit}

-- the number that decimal digits say, after those that were read
abbrev pub read_on : ℕ → List ℕ → ℕ
read_on n [] = n
read_on n (byte ∷ text) = read_on (n * 10 + (byte - zero_digit)) text

abbrev pub Digit : ℕ → Type 0
Digit byte = (zero_digit ≤ byte) × (byte ≤ zero_digit + 9)

-- a text is the number in decimal: each byte is a digit, they say the number, and the first is no 0 unless the number is, which is one digit
pub record Decimal (n : ℕ) (text : List ℕ) : Type 0 where
  pub each : (i : ℕ) → i < length text → Digit (get_or text i 0)
  pub value : read_on 0 text ≡ n
  pub some : 0 < length text
  pub lead : 0 < n → zero_digit < get_or text 0 0
  pub alone : n ≡ 0 → length text ≡ 1

-- A list that is filled in, entry by entry.
use Prim.Native.Nat.{ℕ, ◌+◌, ◌<◌, ◌≤◌}
use native.Mathlib.Omega.{arith}
use mathlib.Core.Path.{◌≡◌, ◌∙◌}
use mathlib.Core.List.{List}
use lib.ListN.{length, get_or, set, length-set}
use Rattle.paper.specs.Lists.{listed}
use Rattle.paper.proofs.Listing.{put_next, is-listed}

-- of n entries the first i are f of their index
pub record Filled (n : ℕ) (f : ℕ → ℕ) (i : ℕ) (xs : List ℕ) : Type 0 where
  pub within : i ≤ n
  pub long : length xs ≡ n
  pub each : (j : ℕ) → j < i → get_or xs j 0 ≡ f j

pub none_filled : (n : ℕ) (f : ℕ → ℕ) (xs : List ℕ) → length xs ≡ n → Filled n f 0 xs
none_filled n f xs e = record { within = omega arith; long = e; each = λ j l. omega arith }

pub next_filled : {n : ℕ} {f : ℕ → ℕ} {i : ℕ} {xs : List ℕ} (v : ℕ) → Filled n f i xs → i < n → v ≡ f i → Filled n f (i + 1) (set xs i v)
next_filled {n} {f} {i} {xs} v w l e =
    record {
      within = omega arith;
      long = length-set xs i v ∙ w.long;
      each = put_next f xs i v (omega (arith, w.long)) w.each e;
    }

pub all_filled : {n : ℕ} {f : ℕ → ℕ} {i : ℕ} {xs : List ℕ} → Filled n f i xs → n ≤ i → xs ≡ listed 0 n f
all_filled {n} {f} {xs = xs} w h = is-listed xs n f w.long (λ j l. w.each j (omega arith))

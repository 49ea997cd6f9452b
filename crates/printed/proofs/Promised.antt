-- The promise determines the answer and the text buffer, and the computed ones meet it.
use Prim.Native.Nat.{ℕ, ◌≤◌}
use native.Mathlib.Omega.{arith}
use mathlib.Core.Path.{◌≡◌, refl, sym, ap, ◌∙◌}
use mathlib.Core.List.{List, ◌++◌}
use Rattle.std.proofs.Common.{Result, Ok}
use lib.ListN.{length, drop, length-append}
use borrow.Author.Tests.{eq-eqb}
use Rattle.paper.specs.Rulings.{accepted}
use Rattle.paper.specs.Promises.{said, answer}
use Rattle.paper.specs.declared.refusal.Refusal.{Refusal}
use Rattle.paper.proofs.Said.{tells}
use Rattle.paper.proofs.Promised as every
use Rattle.paper.proofs.Ruled.{given-values, tabled}
use Rattle.paper.proofs.Parted.{laid-start}
use Rattle.printed.specs.Sizes.{text_bytes}
use Rattle.printed.specs.Report.{text_of}
use Rattle.printed.specs.Promise.{text_rules, ruling, written, Promise, left}

module _ (file before : List ℕ) where
  -- the computed answer and buffer are permitted
  pub meets : let o = ruling file before in Promise file before (answer o) (left file before o)
  meets = every.meets tells every.rules_is every.owes_equal (tabled (text_rules before) (length (text_of file)) (λ e. refl, tt))

  -- and no others
  pub only : {r : Result ℕ Refusal} {b : List ℕ} → Promise file before r b → let o = ruling file before in (r ≡ answer o) × (b ≡ left file before o)
  only = every.only tells every.rules_is every.owes_equal

  -- two permitted results are equal
  pub determined : {r s : Result ℕ Refusal} {b c : List ℕ} → Promise file before r b → Promise file before s c → (r ≡ s) × (b ≡ c)
  determined = every.determined tells every.rules_is every.owes_equal

  -- a buffer of its length is accepted, whatever the file
  pub room : length before ≡ text_bytes → ruling file before ≡ accepted (length (text_of file))
  room l = simp (eq-eqb _ _ l)

  -- with a lent buffer, which keeps its length, the text is in it; of any file, with no buffer: Lengths
  pub fits : {r : Result ℕ Refusal} {after : List ℕ} → length before ≡ text_bytes → length after ≡ text_bytes → Promise file before r after → length (text_of file) ≤ text_bytes
  fits {after = after} l m h =
      let e : length after ≡ length (written file before) = ap length (every.left_as (room l) h) in
      let b : length (written file before) ≡ length (text_of file ++ drop (length (text_of file)) before) = ap length (laid-start before (text_of file)) in
      omega (arith, length-append (text_of file) (drop (length (text_of file)) before))

  -- so does the length that is told
  pub length-fits : {r : Result ℕ Refusal} {after : List ℕ} (n : ℕ) → length before ≡ text_bytes → length after ≡ text_bytes → Promise file before r after → r ≡ Ok n → n ≤ text_bytes
  length-fits n l m h e = omega (arith, given-values (text_rules before) (length (text_of file)) n (sym (ap said (sym e) ∙ h.says)), fits l m h)

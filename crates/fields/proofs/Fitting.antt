-- What the rules for 1 and 2 say of each tag, where none is broken.
use Prim.Native.Nat.{ℕ, ◌<◌, ◌≤◌}
use native.Mathlib.Omega.{arith}
use mathlib.Core.Path.{◌≡◌, subst}
use mathlib.Core.Bool.{false, not}
use lib.Dec.{eqb}
use borrow.Author.Tests.{not-false, leb-false, eqb-true}
use Rattle.paper.specs.Limits.{entry_bytes, result_bytes, most_subjects, most_students, most_bytes}
use Rattle.paper.specs.Ranges.{within}
use Rattle.paper.proofs.Ranging.{within-true}
use Rattle.paper.proofs.Ruled.{Unbroken}
use Rattle.fields.specs.Order.{head_rules}
use Rattle.fields.specs.Inner.{Countable}
use Rattle.fields.specs.declared.order.Far.{Far}

-- tests of a range and of equality that did not fail
pub range_kept : (low high n : ℕ) → not (within low high n) ≡ false → (low ≤ n) × (n ≤ high)
range_kept low high n e = within-true low high n (not-false (within low high n) e)

pub equal_kept : (a b : ℕ) → not (eqb a b) ≡ false → a ≡ b
equal_kept a b e = eqb-true a b (not-false (eqb a b) e)

module _ (limit : ℕ) (far : Far) (tag long p : ℕ) (k : Unbroken (head_rules limit far tag long p)) where
  at_tag : (n : ℕ) → tag ≡ n → Unbroken (head_rules limit far n long p)
  at_tag n e = subst (λ (t : ℕ). Unbroken (head_rules limit far t long p)) e k

  pub subject-fits : tag ≡ 2 → (long ≡ entry_bytes) × (far.subjects < most_subjects)
  subject-fits e = let h = at_tag 2 e in (equal_kept long entry_bytes h.1.0, leb-false most_subjects far.subjects h.1.1.1.0)

  pub student-fits : tag ≡ 5 → far.students < most_students
  student-fits e = leb-false most_students far.students (at_tag 5 e).1.1.1.0

  pub result_fits : tag ≡ 6 → (long ≡ result_bytes) × (5 ≤ far.last) × (far.latest < limit)
  result_fits e = let h = at_tag 6 e in (equal_kept long result_bytes h.1.0, (range_kept 5 6 far.last h.1.1.0).0, leb-false limit far.latest h.1.1.1.0)

  -- one more of the tag can be counted
  pub countable : limit ≤ most_bytes → Countable far tag
  countable l = record { subject = λ e. (subject-fits e).1; student = student-fits; result = λ e. let h = (result_fits e).2 in omega arith }

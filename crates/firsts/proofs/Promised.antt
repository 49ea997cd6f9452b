-- The promise determines the answer and the table, and a computed answer meets it.
use Rattle.std.proofs.Common.{Result}
use Prim.Native.Nat.{ℕ, ◌%◌, ◌<◌, ◌≤◌}
use mathlib.Core.Path.{◌≡◌, refl}
use mathlib.Core.List.{List}
use lib.ListN.{length, get_or}
use borrow.Author.Tests.{lt-leb, le-ltb, eq-eqb, ne_eqb}
use Rattle.paper.specs.Limits.{row_bytes, most_count}
use Rattle.paper.specs.Lists.{over}
use Rattle.paper.specs.Rulings.{accepted}
use Rattle.paper.specs.Promises.{answer}
use Rattle.paper.specs.declared.refusal.Refusal.{Refusal}
use Rattle.paper.proofs.Firsts.{none_has}
use Rattle.paper.proofs.Promised as every
use Rattle.paper.proofs.Ranging.{true_within}
use Rattle.paper.proofs.Ruled.{tabled}
use Rattle.paper.proofs.Said.{tells}
use Rattle.catalogue.specs.Kinds.{general, short_course, vet}
use Rattle.scores.specs.Scores.{rows}
use Rattle.firsts.specs.Counts.{total}
use Rattle.firsts.specs.Row.{asked}
use Rattle.firsts.specs.Promise.{count_rules, ruling, Promise, left}

module _ (kind subject : ℕ) (counts before : List ℕ) where
  -- the computed answer and table are permitted
  pub meets : let o = ruling kind subject counts before in Promise kind subject counts before (answer o) (left kind subject counts before o)
  meets =
      every.meets tells every.rules_is every.owes_equal
      (tabled (count_rules kind subject counts before) tt (λ e. refl, (λ e. refl, (λ e. refl, (λ e. refl, (λ e. refl, (λ e. refl, (λ e. refl, tt))))))))

  -- and no others
  pub only : {r : Result (Unit {0}) Refusal} {after : List ℕ} → Promise kind subject counts before r after
      → let o = ruling kind subject counts before in (r ≡ answer o) × (after ≡ left kind subject counts before o)
  only = every.only tells every.rules_is every.owes_equal

  -- two permitted results are equal
  pub determined : {r s : Result (Unit {0}) Refusal} {b c : List ℕ} → Promise kind subject counts before r b → Promise kind subject counts before s c → (r ≡ s) × (b ≡ c)
  determined = every.determined tells every.rules_is every.owes_equal

  -- what no rule refuses is accepted, whatever the table holds and however many rows it has
  pub accepts : (kind ≡ short_course → ⊥) → general ≤ kind → kind ≤ vet → subject < rows before → length counts ≡ asked kind → length before % row_bytes ≡ 0
      → ((i : ℕ) → get_or counts i 0 ≤ most_count) → total counts ≤ most_count → ruling kind subject counts before ≡ accepted tt
  accepts long low high there lent whole each most =
      rw (
        ne_eqb kind short_course long,
        true_within general vet kind low high,
        lt-leb (rows before) subject there,
        eq-eqb (length counts) (asked kind) lent,
        eq-eqb (length before % row_bytes) 0 whole,
        none_has (length counts) (over most_count counts) (λ i l. le-ltb most_count (get_or counts i 0) (each i)),
        le-ltb most_count (total counts) most,
      ) refl

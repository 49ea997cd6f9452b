-- What is within its ranges is accepted: the value of a field that has them breaks no rule of values, for each tag.
use Prim.Native.Nat.{ℕ, ◌<◌, ◌≤◌}
use mathlib.Core.Path.{◌≡◌, ap}
use mathlib.Core.Bool.{not}
use mathlib.Core.List.{List, [], ◌∷◌}
use lib.ListN.{length, get_or}
use borrow.Author.Tests.{lt-leb, le-ltb, ne_eqb}
use Rattle.paper.specs.Limits.{slots, top_score, least_year, most_year}
use Rattle.paper.specs.Words.{◌=?◌}
use Rattle.paper.specs.Bytes.{byte, word, long}
use Rattle.paper.specs.Rulings.{Rule, ◌⇒◌, ◌at◌}
use Rattle.paper.proofs.Firsts.{none_has}
use Rattle.paper.proofs.Ranging.{true_within}
use Rattle.paper.proofs.Ruled.{Unbroken}
use Rattle.catalogue.specs.Catalogue.{subjects, entry_at}
use Rattle.catalogue.specs.Meaning.{Ranged}
use Rattle.catalogue.proofs.Ranges.{not_outside}
use Rattle.scores.specs.Scores.{absent, found}
use Rattle.curve.specs.Population.{population_rules}
use Rattle.held.specs.Held.{Held, ids_of}
use Rattle.held.specs.Taking.{figures_in}
use Rattle.held.specs.Judging.{given, all_at, holds_id, value_rules}
use Rattle.held.proofs.Figures.{kept_at}

module _ (held : Held) (v : List ℕ) (p : ℕ) where
  -- a field of the tag with this value
  abbrev pub Fine : ℕ → Type 0
  Fine tag = Unbroken (value_rules held (record { tag = tag; value = v }) p)

  pub year-accepted : least_year ≤ word v 0 → word v 0 ≤ most_year → Fine 1
  year-accepted a b = (ap not (true_within least_year most_year (word v 0) a b), tt)

  -- whatever stands in the catalogue already
  pub subject-accepted : Ranged (entry_at v 0) → Fine 2
  subject-accepted r = (not_outside (entry_at v 0) r, tt)

  -- of a subject of any kind, and any slot of its row
  pub score-accepted : word v 0 < subjects held.catalogue → 1 ≤ byte v 2 → byte v 2 ≤ slots → long v 3 ≤ top_score
      → found held.table (word v 0) (byte v 2) ≡ absent → Fine 3
  score-accepted known low high top free =
      (lt-leb _ _ known, (ap not (true_within 1 slots (byte v 2) low high), (le-ltb top_score (long v 3) top, (ap given free, tt))))

  pub figures-accepted : Unbroken (population_rules (figures_in v)) → Fine 4
  figures-accepted = kept_at p (population_rules (figures_in v))

  pub student-accepted : ((i : ℕ) → i < length (ids_of held.students) → get_or (ids_of held.students) i 0 ≡ long v 0 → ⊥) → Fine 5
  unfolding holds_id
  student-accepted new =
      let ids = ids_of held.students in
      (none_has (length ids) (λ i. get_or ids i 0 =? long v 0) (λ i l. ne_eqb (get_or ids i 0) (long v 0) (new i l)), tt)

  -- results are judged with their student
  pub result-accepted : Fine 6
  result-accepted = tt

-- of lists, beside what the code needs now

-- the places of rules do not matter to whether one is broken
all_at_lem : (p : ℕ) (rules : List Rule) → Unbroken rules → Unbroken (all_at p rules)
all_at_lem p [] u = tt
all_at_lem p (test ⇒ number at place ∷ rules) u = (u.0, all_at_lem p rules u.1)

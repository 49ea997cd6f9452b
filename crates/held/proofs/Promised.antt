-- The promise determines the answer and the buffers, and a computed answer meets it.
use Prim.Native.Nat.{ℕ, ◌≤◌}
use mathlib.Core.Path.{◌≡◌, refl}
use mathlib.Core.Bool.{Bool, true, false}
use mathlib.Core.List.{List, [], ◌∷◌}
use Rattle.std.proofs.Common.{Result}
use lib.ListN.{length}
use lib.Dec.{eqb, ltb}
use borrow.Author.Tests.{le-ltb}
use Rattle.paper.specs.Limits.{most_results, most_bytes}
use Rattle.paper.specs.Lists.{pick}
use Rattle.paper.specs.Rulings.{Outcome, accepted, refused, ◌at◌}
use Rattle.paper.specs.Promises.{answer}
use Rattle.paper.specs.declared.refusal.Refusal.{Refusal}
use Rattle.paper.proofs.Said.{tells}
use Rattle.paper.proofs.Promised as every
use Rattle.paper.proofs.Ruled.{Tabled, Refusing, refusing-mapped, tabled, tabled_join, tabled_pick}
use Rattle.catalogue.specs.Catalogue.{subjects}
use Rattle.fields.specs.Fields.{Field, Piece, whole, cut, pieces_of}
use Rattle.fields.specs.Order.{order_rules, end_rules}
use Rattle.held.specs.Held.{Held, ids_of}
use Rattle.held.specs.Taking.{figures_in}
use Rattle.held.specs.Judging.{value_rules, year_rules, subject_rules, score_rules, figures_rules, student_rules}
use Rattle.held.specs.Reading.{Reader, opened, passed, field_rules, after, read_all, ended, body, reading}
use Rattle.held.specs.Promise.{summary_of, Lent, ruling, Promise, left}
use Rattle.held.specs.declared.Summary.{Summary}
use Rattle.held.proofs.Figures.{ten-figures, ten-kept}

-- each rule that is broken gives a number and place of the paper's table
told-value : (held : Held) (f : Field) (p : ℕ) → Tabled (value_rules held f p)
told-value held f p =
    let tag = f.tag in
    let v = f.value in
    tabled_pick (eqb tag 1) (year_rules v p) _ (λ e. refl, tt)
    (tabled_pick (eqb tag 2) (subject_rules v p) _ (λ e. refl, tt)
    (tabled_pick (eqb tag 3) (score_rules (subjects held.catalogue) held.table v p) _ (λ e. refl, (λ e. refl, (λ e. refl, (λ e. refl, tt))))
    (tabled_pick (eqb tag 4) (figures_rules v p) _ (λ e. absurd (ten-kept (figures_in v) (ten-figures v) e), (λ e. refl, (λ e. refl, (λ e. refl, (λ e. refl, tt)))))
    (tabled_pick (eqb tag 5) (student_rules (ids_of held.students) v p) [] (λ e. refl, tt) tt))))

told-after : (o : Outcome Reader) (piece : Piece) → Refusing o → Refusing (after o piece)
told-after (refused x) piece h = h
told-after (accepted so) (cut p) h = refl
told-after (accepted so) (whole p f) h =
    tabled (field_rules so f p) (passed so f)
    (tabled_join (order_rules most_results so.far f p) (value_rules so.held f p) (λ e. refl, (λ e. refl, (λ e. refl, (λ e. refl, tt)))) (told-value so.held f p))

told-all : (ps : List Piece) (o : Outcome Reader) → Refusing o → Refusing (read_all ps o)
told-all [] o h = h
told-all (piece ∷ ps) o h = told-all ps (after o piece) (told-after o piece h)

told-ended : (end : ℕ) (o : Outcome Reader) → Refusing o → Refusing (ended end o)
told-ended end (refused x) h = h
told-ended end (accepted so) h = tabled (end_rules so.far end) so.held (λ e. refl, tt)

pub told-reading : (file : List ℕ) → Refusing (reading file)
unfolding reading body
told-reading file = go (ltb most_bytes (length file))
  where
    go : (b : Bool) → Refusing (pick b (refused (2 at most_bytes)) (ended (length file) (read_all (pieces_of file) (accepted opened))))
    go true = refl
    go false = told-ended (length file) (read_all (pieces_of file) (accepted opened)) (told-all (pieces_of file) (accepted opened) tt)

module _ (file : List ℕ) (before : Lent) where
  -- the computed answer and buffers are permitted
  pub meets : Promise file before (answer (ruling file)) (left file before (ruling file))
  meets = every.meets tells every.rules_is every.owes_equal (refusing-mapped summary_of (reading file) (told-reading file))

  -- and no others
  pub only : {r : Result Summary Refusal} {after : Lent} → Promise file before r after → (r ≡ answer (ruling file)) × (after ≡ left file before (ruling file))
  only = every.only tells every.rules_is every.owes_equal

  -- two permitted results are equal
  pub determined : {r s : Result Summary Refusal} {after after' : Lent} → Promise file before r after → Promise file before s after' → (r ≡ s) × (after ≡ after')
  determined = every.determined tells every.rules_is every.owes_equal

-- of a file that is not too long, what its fields come to
pub small : (file : List ℕ) → length file ≤ most_bytes → reading file ≡ body file
unfolding reading
small file h = simp (le-ltb _ _ h)

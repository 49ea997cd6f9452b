-- What an accepted file holds.
use Prim.Native.Nat.{ℕ, ◌%◌, ◌≤◌}
use native.Mathlib.Omega.{arith}
use mathlib.Core.Path.{◌≡◌, refl, sym, subst}
use mathlib.Core.Bool.{Bool, true, false}
use mathlib.Core.List.{List, [], ◌∷◌}
use lib.ListN.{length}
use lib.Dec.{ltb}
use borrow.Author.Tests.{ltb-false}
use Rattle.paper.specs.Limits.{entry_bytes, most_subjects, figure_count, most_bytes}
use Rattle.paper.specs.Lists.{pick}
use Rattle.paper.specs.Rulings.{Outcome, accepted, refused, ◌at◌, judged}
use Rattle.paper.proofs.Ruled.{all_unbroken, unbroken_all, given-values}
use Rattle.catalogue.specs.Catalogue.{subjects, catalogue_rules}
use Rattle.curve.specs.Population.{population_rules}
use Rattle.curve.specs.Promise.{values}
use Rattle.fields.specs.Fields.{Piece, whole, cut, pieces_of}
use Rattle.fields.specs.Order.{end_rules}
use Rattle.fields.proofs.Fitting.{equal_kept}
use Rattle.held.specs.Held.{Held}
use Rattle.held.specs.Reading.{Reader, opened, passed, field_rules, after, read_all, ended, body, reading}
use Rattle.held.specs.Meaning.{Sound}
use Rattle.held.proofs.Fairly.{Fair, fair_opened, fair_passed, all_bytes}

-- what is held after some fields is fair
abbrev FairOutcome : Outcome Reader → Type 0
FairOutcome (accepted so) = Fair so
FairOutcome (refused x) = Unit {0}

fair_after : (o : Outcome Reader) (piece : Piece) → FairOutcome o → FairOutcome (after o piece)
fair_after (refused x) piece h = tt
fair_after (accepted so) (cut p) h = tt
fair_after (accepted so) (whole p f) h = go (judged (field_rules so f p) (passed so f)) refl
  where
    go : (o : Outcome Reader) → judged (field_rules so f p) (passed so f) ≡ o → FairOutcome o
    go (refused x) e = tt
    go (accepted x) e =
        subst Fair (sym (given-values (field_rules so f p) (passed so f) x e)) (fair_passed so f.value p h f.tag (all_unbroken (field_rules so f p) (passed so f) x e))

fair_all : (ps : List Piece) (o : Outcome Reader) → FairOutcome o → FairOutcome (read_all ps o)
fair_all [] o h = h
fair_all (piece ∷ ps) o h = fair_all ps (after o piece) (fair_after o piece h)

sound-end : (end : ℕ) (o : Outcome Reader) (held : Held) → FairOutcome o → ended end o ≡ accepted held → Sound held
sound-end end (refused x) held h e = absurd (let z : ◌≡◌ {A = ℕ} 0 1 = cc in omega arith)
sound-end end (accepted so) held h e = subst Sound (sym (given-values (end_rules so.far end) so.held held e)) sound
  where
    four : 4 ≤ so.far.last
    four = ltb-false so.far.last 4 (all_unbroken (end_rules so.far end) so.held held e).0

    sound : Sound so.held
    sound =
        let x = so.held in
        let year = h.started (omega (arith, four)) in
        let c = h.catalogue in
        let n = h.counts in
        let p = h.peopled four in
        let w : length x.catalogue % entry_bytes ≡ 0 = equal_kept (length x.catalogue % entry_bytes) 0 c.0 in
        record {
          year_from = year.0;
          year_up_to = year.1;
          catalogue = unbroken_all (catalogue_rules x.catalogue) tt c;
          few_subjects = ltb-false most_subjects (subjects x.catalogue) c.1.0;
          whole = omega arith;
          table = omega (arith, n.fives, n.rows);
          scores = h.scores;
          ten = equal_kept (length x.figures) figure_count p.0;
          population = unbroken_all (population_rules x.figures) (values x.figures) p;
          few_students = h.few;
          few_results = h.each;
          bytes = omega (arith, all_bytes x.students h.each, h.few);
          distinct = h.distinct;
        }

-- of every file that is accepted
pub sound : (file : List ℕ) (held : Held) → reading file ≡ accepted held → Sound held
unfolding reading body
sound file held = go (ltb most_bytes (length file))
  where
    go : (b : Bool) → pick b (refused (2 at most_bytes)) (ended (length file) (read_all (pieces_of file) (accepted opened))) ≡ accepted held → Sound held
    go true e = absurd (let z : ◌≡◌ {A = ℕ} 0 1 = cc in omega arith)
    go false e = sound-end (length file) (read_all (pieces_of file) (accepted opened)) held (fair_all (pieces_of file) (accepted opened) fair_opened) e

-- and it has no more bytes than the limit
pub small-file : (file : List ℕ) (held : Held) → reading file ≡ accepted held → length file ≤ most_bytes
unfolding reading
small-file file held = go (ltb most_bytes (length file)) refl
  where
    go : (b : Bool) → ltb most_bytes (length file) ≡ b → pick b (refused (2 at most_bytes)) (body file) ≡ accepted held → length file ≤ most_bytes
    go true t e = absurd (let z : ◌≡◌ {A = ℕ} 0 1 = cc in omega arith)
    go false t e = ltb-false most_bytes (length file) t

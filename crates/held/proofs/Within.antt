-- The place of a refused file lies in it, and an id of a file of bytes has four of them.
use Prim.Native.Nat.{ℕ, zero, suc, ◌+◌, ◌<◌, ◌≤◌}
use native.Mathlib.Omega.{arith}
use native.Mathlib.Decide.{dec_lt}
use mathlib.Core.Path.{◌≡◌, refl, sym, subst, ◌∙◌}
use mathlib.Core.Bool.{Bool, true, false}
use mathlib.Core.List.{List, [], ◌∷◌, ◌++◌}
use lib.ListN.{length, take, drop, length-take, get_or-eq_default}
use lib.Seq.{get_or-take, get_or-drop}
use lib.Dec.{eqb, ltb}
use borrow.Author.Tests.{ltb-false}
use Rattle.paper.specs.Limits.{most_results, most_bytes}
use Rattle.paper.specs.Lists.{pick}
use Rattle.paper.specs.Bytes.{byte, word, long}
use Rattle.paper.specs.Rulings.{Fault, place_of, Outcome, accepted, refused, Rule, ◌⇒◌, ◌at◌, judged}
use Rattle.paper.proofs.Ruled.{Faults, IfRefused, faults_ruled, faults_join, faults_pick, given-values}
use Rattle.catalogue.specs.Catalogue.{subjects}
use Rattle.curve.specs.Population.{population_rules}
use Rattle.fields.specs.Fields.{Field, Piece, whole, cut, head_bytes, past, field_at, pieces, pieces_of}
use Rattle.fields.specs.Order.{order_rules, end_rules}
use Rattle.fields.proofs.Pieces.{pieces-cut, pieces_whole, pieces_end}
use Rattle.held.specs.Held.{Enrolled, Held, ids_of}
use Rattle.held.specs.Taking.{figures_in, with_year, with_subject, with_score, with_figures, with_student, with_result, fresh, joined, taken}
use Rattle.held.specs.Judging.{value_rules, year_rules, subject_rules, score_rules, all_at, figures_rules, student_rules}
use Rattle.held.specs.Reading.{Reader, opened, passed, field_rules, after, read_all, ended, body, reading}
use Rattle.held.specs.Meaning.{Each}
use Rattle.held.proofs.Holding.{small-file}
use Rattle.held.proofs.Promised.{small}

-- of every piece of a file
abbrev EachPiece : (Piece → Type 0) → List Piece → Type 0
EachPiece P [] = Unit {0}
EachPiece P (piece ∷ ps) = P piece × EachPiece P ps

each-piece : (P : Piece → Type 0) (file : List ℕ) → ((p : ℕ) → p < length file → P (cut p)) → ((p : ℕ) → p < length file → P (whole p (field_at file p)))
    → (n p : ℕ) → EachPiece P (pieces n file p)
unfolding pieces
each-piece P file c w zero p = tt
each-piece P file c w (suc n) p = go (dec_lt p (length file)) (dec_lt (length file) (past file p)) (each-piece P file c w n (past file p))
  where
    go : Dec (p < length file) → Dec (length file < past file p) → EachPiece P (pieces n file (past file p)) → EachPiece P (pieces (suc n) file p)
    go (no a) b r = subst (EachPiece P) (sym (pieces_end (suc n) file p (omega arith))) tt
    go (yes a) (yes b) r = subst (EachPiece P) (sym (pieces-cut n file p a b)) (c p a, tt)
    go (yes a) (no b) r = subst (EachPiece P) (sym (pieces_whole n file p a (omega arith))) (w p a, r)

-- what is refused is so at a place up to the end
module _ (end : ℕ) where
  abbrev Near : Fault → Type 0
  Near f = place_of f ≤ end

  abbrev Inside : Piece → Type 0
  Inside (whole p f) = p ≤ end
  Inside (cut p) = p ≤ end

  all_near : (p : ℕ) (rules : List Rule) → p ≤ end → Faults Near (all_at p rules)
  all_near p [] h = tt
  all_near p (test ⇒ number at place ∷ rules) h = (λ e. h, all_near p rules h)

  values-near : (held : Held) (f : Field) (p : ℕ) → p ≤ end → Faults Near (value_rules held f p)
  values-near held f p h =
      let tag = f.tag in
      let v = f.value in
      faults_pick Near (eqb tag 1) (year_rules v p) _ (λ e. h, tt)
      (faults_pick Near (eqb tag 2) (subject_rules v p) _ (λ e. h, tt)
      (faults_pick Near (eqb tag 3) (score_rules (subjects held.catalogue) held.table v p) _ (λ e. h, (λ e. h, (λ e. h, (λ e. h, tt))))
      (faults_pick Near (eqb tag 4) (figures_rules v p) _ (all_near p (population_rules (figures_in v)) h)
      (faults_pick Near (eqb tag 5) (student_rules (ids_of held.students) v p) [] (λ e. h, tt) tt))))

  near_after : (o : Outcome Reader) (piece : Piece) → IfRefused Near o → Inside piece → IfRefused Near (after o piece)
  near_after (refused x) piece n h = n
  near_after (accepted so) (cut p) n h = h
  near_after (accepted so) (whole p f) n h =
      faults_ruled Near (field_rules so f p) (passed so f)
      (faults_join Near (order_rules most_results so.far f p) (value_rules so.held f p) (λ e. h, (λ e. h, (λ e. h, (λ e. h, tt)))) (values-near so.held f p h))

  near_all : (ps : List Piece) (o : Outcome Reader) → IfRefused Near o → EachPiece Inside ps → IfRefused Near (read_all ps o)
  near_all [] o n h = n
  near_all (piece ∷ ps) o n h = near_all ps (after o piece) (near_after o piece n h.0) h.1

  near_ended : (p : ℕ) (o : Outcome Reader) → p ≤ end → IfRefused Near o → IfRefused Near (ended p o)
  near_ended p (refused x) h n = n
  near_ended p (accepted so) h n = faults_ruled Near (end_rules so.far p) so.held (λ e. h, tt)

pub place-within : (file : List ℕ) → IfRefused (Near most_bytes) (reading file)
unfolding reading body
place-within file = go (ltb most_bytes (length file)) refl
  where
    go : (b : Bool) → ltb most_bytes (length file) ≡ b → IfRefused (Near most_bytes) (pick b (refused (2 at most_bytes)) (ended (length file) (read_all (pieces_of file) (accepted opened))))
    go true e = omega arith
    go false e =
        let few : length file ≤ most_bytes = ltb-false most_bytes (length file) e in
        near_ended most_bytes (length file) (read_all (pieces_of file) (accepted opened)) few
        (near_all most_bytes (pieces_of file) (accepted opened) tt (each-piece (Inside most_bytes) file (λ p h. omega arith) (λ p h. omega arith) (length file) 0))

-- the bytes of a part of a file of bytes
part_bytes : (file : List ℕ) → ((i : ℕ) → byte file i < 256) → (k n i : ℕ) → byte (take n (drop k file)) i < 256
part_bytes file bytes k n i = go (dec_lt i n)
  where
    go : Dec (i < n) → byte (take n (drop k file)) i < 256
    go (yes h) = omega (arith, get_or-take n (drop k file) i 0 h ∙ get_or-drop k file i 0, bytes (k + i))
    go (no h) =
        let past : length (take n (drop k file)) ≤ i = omega (arith, length-take n (drop k file)) in
        omega (arith, get_or-eq_default (take n (drop k file)) 0 past)

-- an id of four bytes
abbrev pub ShortId : Enrolled → Type 0
ShortId s = s.id < 4294967296

long-short : (v : List ℕ) → ((i : ℕ) → byte v i < 256) → long v 0 < 4294967296
unfolding long word
long-short v b = omega (arith, b 0, b 1, b 2, b 3)

short-fresh : (ss : List Enrolled) (id : ℕ) → id < 4294967296 → Each ShortId ss → Each ShortId (ss ++ (fresh id ∷ []))
short-fresh [] id l h = (l, tt)
short-fresh (s ∷ ss) id l h = (h.0, short-fresh ss id l h.1)

short-joined : (ss : List Enrolled) (v : List ℕ) → Each ShortId ss → Each ShortId (joined ss v)
short-joined [] v h = tt
short-joined (s ∷ []) v h = (h.0, tt)
short-joined (s ∷ (t ∷ ss)) v h = (h.0, short-joined (t ∷ ss) v h.1)

-- what holds of each that a field may give holds of what is given
by_choice : (P : Held → Type 0) (b : Bool) (x y : Held) → P x → P y → P (pick b x y)
by_choice P true x y p q = p
by_choice P false x y p q = q

short-taken : (held : Held) (f : Field) → ((i : ℕ) → byte f.value i < 256) → Each ShortId held.students → Each ShortId (taken held f).students
short-taken held f b h =
    let P : Held → Type 0 = λ x. Each ShortId x.students in
    let tag = f.tag in
    let v = f.value in
    by_choice P (eqb tag 1) (with_year held v) _ h
    (by_choice P (eqb tag 2) (with_subject held v) _ h
    (by_choice P (eqb tag 3) (with_score held v) _ h
    (by_choice P (eqb tag 4) (with_figures held v) _ h
    (by_choice P (eqb tag 5) (with_student held v) _ (short-fresh held.students (long v 0) (long-short v b) h)
    (by_choice P (eqb tag 6) (with_result held v) held (short-joined held.students v h) h)))))

abbrev ShortAll : Outcome Reader → Type 0
ShortAll (accepted so) = Each ShortId so.held.students
ShortAll (refused x) = Unit {0}

abbrev OfBytes : Piece → Type 0
OfBytes (whole p f) = (i : ℕ) → byte f.value i < 256
OfBytes (cut p) = Unit {0}

short-after : (o : Outcome Reader) (piece : Piece) → OfBytes piece → ShortAll o → ShortAll (after o piece)
short-after (refused x) piece b h = tt
short-after (accepted so) (cut p) b h = tt
short-after (accepted so) (whole p f) b h = go (judged (field_rules so f p) (passed so f)) refl
  where
    go : (o : Outcome Reader) → judged (field_rules so f p) (passed so f) ≡ o → ShortAll o
    go (refused x) e = tt
    go (accepted x) e = subst (λ (y : Reader). Each ShortId y.held.students) (sym (given-values (field_rules so f p) (passed so f) x e)) (short-taken so.held f b h)

short-all : (ps : List Piece) (o : Outcome Reader) → EachPiece OfBytes ps → ShortAll o → ShortAll (read_all ps o)
short-all [] o b h = h
short-all (piece ∷ ps) o b h = short-all ps (after o piece) b.1 (short-after o piece b.0 h)

short-ended : (end : ℕ) (o : Outcome Reader) (held : Held) → ShortAll o → ended end o ≡ accepted held → Each ShortId held.students
short-ended end (refused x) held h e = absurd (let z : ◌≡◌ {A = ℕ} 0 1 = cc in omega arith)
short-ended end (accepted so) held h e = subst (λ (x : Held). Each ShortId x.students) (sym (given-values (end_rules so.far end) so.held held e)) h

pub short-ids : (file : List ℕ) → ((i : ℕ) → byte file i < 256) → (held : Held) → reading file ≡ accepted held → Each ShortId held.students
unfolding body
short-ids file bytes held e =
    short-ended (length file) (read_all (pieces_of file) (accepted opened)) held
    (short-all (pieces_of file) (accepted opened) (each-piece OfBytes file (λ p h. tt) (λ p h. part_bytes file bytes (p + head_bytes) (word file (p + 1))) (length file) 0) tt)
    (sym (small file (small-file file held e)) ∙ e)

-- What is held is sound after every field.
use Prim.Native.Nat.{ℕ, zero, suc, ◌+◌, ◌*◌, ◌%◌, ◌<◌, ◌≤◌}
use native.Mathlib.Omega.{arith}
use native.Mathlib.Decide.{dec_lt}
use mathlib.Core.Path.{◌≡◌, refl, sym, ap, subst, ◌∙◌}
use mathlib.Core.Bool.{false, not}
use mathlib.Core.List.{List, [], ◌∷◌, ◌++◌}
use lib.ListN.{length, get_or, length-append, get_or-append}
use lib.Seq.{get_or-append-add}
use lib.Dec.{eqb}
use borrow.Author.Tests.{ltb-false, le-ltb, eq-eqb, eqb-false}
use Rattle.paper.specs.Limits.{entry_bytes, result_bytes, row_bytes, most_subjects, most_students, most_results, results_bytes, top_score, least_year, most_year}
use Rattle.paper.specs.Bytes.{byte, word, long}
use Rattle.paper.proofs.Ruled.{Unbroken, unbroken_parts}
use Rattle.paper.proofs.Firsts.{none_has, some-not}
use Rattle.catalogue.specs.Catalogue.{subjects, outside, outside_at, catalogue_rules}
use Rattle.scores.specs.Meaning.{NoneOver}
use Rattle.scores.proofs.Rowed.{length-missing}
use Rattle.scores.proofs.Filling.{length-stored}
use Rattle.scores.proofs.Within.{none-over_empty, none-over_row, none-over_stored}
use Rattle.curve.specs.Population.{population_rules}
use Rattle.fields.specs.Fields.{Field}
use Rattle.fields.specs.Order.{head_rules, order_rules}
use Rattle.fields.specs.declared.order.Far.{Far}
use Rattle.fields.proofs.Fitting.{range_kept, equal_kept, subject-fits, student-fits, result_fits}
use Rattle.held.specs.Held.{Enrolled, Held, latest, ids_of, results_of}
use Rattle.held.specs.Taking.{new_row, figures_in, fresh, joined}
use Rattle.held.specs.Judging.{value_rules, holds_id}
use Rattle.held.specs.Reading.{Reader, opened, passed, field_rules}
use Rattle.held.specs.Meaning.{Each, FewResults, Distinct}
use Rattle.held.specs.InnerCounts.{Counts}
use Rattle.held.proofs.Pupils.{ids-fresh, latest-fresh, same_number, same-ids, latest-more}
use Rattle.held.proofs.Figures.{at-kept}

-- how far, and what is held
abbrev pub reader : Far → Held → Reader
reader far held = record { far = far; held = held }

pub record Fair (so : Reader) : Type 0 where
  pub counts : Counts so.far so.held
  pub started : 1 ≤ so.far.last → (least_year ≤ so.held.year) × (so.held.year ≤ most_year)
  pub catalogue : Unbroken (catalogue_rules so.held.catalogue)
  pub scores : NoneOver so.held.table
  pub peopled : 4 ≤ so.far.last → Unbroken (population_rules so.held.figures)
  pub few : length so.held.students ≤ most_students
  pub each : Each FewResults so.held.students
  pub distinct : Distinct (ids_of so.held.students)
  pub met : 5 ≤ so.far.last → 1 ≤ length so.held.students

-- the subjects and the students are few
module _ {so : Reader} (fair : Fair so) where
  pub few_subjects : so.far.subjects ≤ most_subjects
  few_subjects =
      let few : subjects so.held.catalogue ≤ most_subjects = ltb-false most_subjects (subjects so.held.catalogue) fair.catalogue.1.0 in
      omega (arith, fair.counts.fives)

  pub few_students : so.far.students ≤ most_students
  few_students = omega (arith, fair.counts.number, fair.few)

-- an entry more in a catalogue
entry-before : (cat v : List ℕ) (i : ℕ) → entry_bytes * i + entry_bytes ≤ length cat → outside_at (cat ++ v) i ≡ outside_at cat i
unfolding outside word
entry-before cat v i h =
    let at : (k : ℕ) → k < length cat → byte (cat ++ v) k ≡ byte cat k = λ k l. get_or-append cat v 0 k l in
    rw (at (entry_bytes * i) (omega arith), at (entry_bytes * i + 1) (omega arith), at (entry_bytes * i + 2) (omega arith), at (entry_bytes * i + 3) (omega arith), at (entry_bytes * i + 3 + 1) (omega arith))

entry-last : (cat v : List ℕ) (n : ℕ) → length cat ≡ entry_bytes * n → outside_at (cat ++ v) n ≡ outside_at v 0
unfolding outside word
entry-last cat v n l =
    let there : (k j : ℕ) → k ≡ length cat + j → byte (cat ++ v) k ≡ byte v j = λ k j e. ap (byte (cat ++ v)) e ∙ get_or-append-add cat v j 0 in
    rw (there (entry_bytes * n) 0 (omega arith), there (entry_bytes * n + 1) 1 (omega arith), there (entry_bytes * n + 2) 2 (omega arith), there (entry_bytes * n + 3) 3 (omega arith), there (entry_bytes * n + 3 + 1) 4 (omega arith))

pub catalogue-more : (cat v : List ℕ) → Unbroken (catalogue_rules cat) → length v ≡ entry_bytes → subjects cat < most_subjects → outside_at v 0 ≡ false → Unbroken (catalogue_rules (cat ++ v))
catalogue-more cat v k l h o =
    let n : ℕ = subjects cat in
    let w : length cat % entry_bytes ≡ 0 = equal_kept (length cat % entry_bytes) 0 k.0 in
    let a = length-append cat v in
    let whole : length cat ≡ entry_bytes * n = omega arith in
    let z : length (cat ++ v) % entry_bytes ≡ 0 = omega arith in
    let m : subjects (cat ++ v) ≡ n + 1 = omega arith in
    let q : subjects (cat ++ v) ≤ most_subjects = omega arith in
    (ap not (eq-eqb _ _ z), (le-ltb _ _ q, (none_has (subjects (cat ++ v)) (outside_at (cat ++ v)) (λ i j. go i (omega arith) whole (dec_lt i n)), tt)))
  where
    go : (i : ℕ) → i < subjects cat + 1 → length cat ≡ entry_bytes * subjects cat → Dec (i < subjects cat) → outside_at (cat ++ v) i ≡ false
    go i j whole (yes p) = entry-before cat v i (omega arith) ∙ some-not (subjects cat) (outside_at cat) k.1.1.0 i p
    go i j whole (no p) = let e : i ≡ subjects cat = omega arith in ap (outside_at (cat ++ v)) e ∙ entry-last cat v (subjects cat) whole ∙ o

-- a new row
new_row_lem : length new_row ≡ row_bytes
unfolding new_row
new_row_lem = length-missing

-- an id more
distinct_more : (ids : List ℕ) (id : ℕ) → Distinct ids → holds_id ids id ≡ false → Distinct (ids ++ (id ∷ []))
unfolding holds_id
distinct_more ids id d h i j l m e = go (dec_lt j (length ids))
  where
    front : (k : ℕ) → k < length ids → get_or (ids ++ (id ∷ [])) k 0 ≡ get_or ids k 0
    front k p = get_or-append ids (id ∷ []) 0 k p

    go : Dec (j < length ids) → ⊥
    go (yes p) = d i j l p (sym (front i (omega arith)) ∙ e ∙ front j p)
    go (no p) =
        let r : j ≡ length ids + 0 = omega (arith, length-append ids (id ∷ [])) in
        let q : i < length ids = omega (arith, length-append ids (id ∷ [])) in
        let same : get_or ids i 0 ≡ id = sym (front i q) ∙ e ∙ ap (λ (k : ℕ). get_or (ids ++ (id ∷ [])) k 0) r ∙ get_or-append-add ids (id ∷ []) 0 0 in
        eqb-false (get_or ids i 0) id (some-not (length ids) (λ k. eqb (get_or ids k 0) id) h i q) same

-- a student and a result more
each-fresh : (ss : List Enrolled) (id : ℕ) → Each FewResults ss → Each FewResults (ss ++ (fresh id ∷ []))
each-fresh [] id h = ((refl, omega arith), tt)
each-fresh (s ∷ ss) id h = (h.0, each-fresh ss id h.1)

each_more : (ss : List Enrolled) (v : List ℕ) → length v ≡ result_bytes → latest ss < most_results → Each FewResults ss → Each FewResults (joined ss v)
each_more [] v l h e = tt
each_more (s ∷ []) v l h e = let a = length-append s.results v in ((omega (arith, e.0.0), omega (arith, e.0.0)), tt)
each_more (s ∷ (t ∷ ss)) v l h e = (e.0, each_more (t ∷ ss) v l h e.1)

-- the bytes of all results, and of one more
pub all_bytes : (ss : List Enrolled) → Each FewResults ss → length (results_of ss) ≤ most_results * result_bytes * length ss
unfolding results_of
all_bytes [] e = omega arith
all_bytes (s ∷ ss) e = omega (arith, length-append s.results (results_of ss), all_bytes ss e.1, e.0.0, e.0.1)

more_bytes : (s : Enrolled) (ss : List Enrolled) → Each FewResults (s ∷ ss) → latest (s ∷ ss) < most_results → length (results_of (s ∷ ss)) + result_bytes ≤ most_results * result_bytes * length (s ∷ ss)
unfolding results_of
more_bytes s [] e l = omega (arith, length-append s.results [], e.0.0)
more_bytes s (t ∷ ss) e l = omega (arith, length-append s.results (results_of (t ∷ ss)), more_bytes t ss e.1 l, e.0.0, e.0.1)

pub space : (ss : List Enrolled) → Each FewResults ss → length ss ≤ most_students → latest ss < most_results → length (results_of ss) + result_bytes ≤ results_bytes
unfolding results_of
space [] e f l = omega arith
space (s ∷ ss) e f l = omega (arith, more_bytes s ss e l)

-- what holds of each tag holds of every tag that is known
pub by_tag : (P : ℕ → Type 0) (tag : ℕ) → 1 ≤ tag → tag ≤ 6 → P 1 → P 2 → P 3 → P 4 → P 5 → P 6 → P tag
by_tag P zero l h a b c d e f = absurd (omega arith)
by_tag P (suc zero) l h a b c d e f = a
by_tag P (suc (suc zero)) l h a b c d e f = b
by_tag P (suc (suc (suc zero))) l h a b c d e f = c
by_tag P (suc (suc (suc (suc zero)))) l h a b c d e f = d
by_tag P (suc (suc (suc (suc (suc zero))))) l h a b c d e f = e
by_tag P (suc (suc (suc (suc (suc (suc zero)))))) l h a b c d e f = f
by_tag P (suc (suc (suc (suc (suc (suc (suc n))))))) l h a b c d e f = absurd (omega arith)

pub fair_opened : Fair opened
unfolding results_of
fair_opened =
    record {
      counts = record { fives = refl; rows = refl; number = refl; newest = refl };
      started = λ h. absurd (omega arith);
      catalogue = (refl, (refl, (none_has 0 (outside_at []) (λ i l. absurd (omega arith)), tt)));
      scores = none-over_empty;
      peopled = λ h. absurd (omega arith);
      few = omega arith;
      each = tt;
      distinct = λ i j l m e. omega arith;
      met = λ h. absurd (omega arith);
    }

module _ (so : Reader) (v : List ℕ) (p : ℕ) (fair : Fair so) where
  abbrev held : Held
  held = so.held

  abbrev last : ℕ
  last = so.far.last

  abbrev count : Counts so.far held
  count = fair.counts

  -- the field of a tag
  abbrev of : ℕ → Field
  of tag = record { tag = tag; value = v }

  abbrev FairAt : ℕ → Type 0
  FairAt tag = Unbroken (head_rules most_results so.far tag (length v) p) → Unbroken (value_rules held (of tag) p) → Fair (passed so (of tag))

  fair_year : FairAt 1
  fair_year s k =
      record {
        counts = record { fives = count.fives; rows = count.rows; number = count.number; newest = count.newest };
        started = λ h. range_kept least_year most_year (word v 0) k.0;
        catalogue = fair.catalogue;
        scores = fair.scores;
        peopled = λ h. absurd (omega arith);
        few = fair.few;
        each = fair.each;
        distinct = fair.distinct;
        met = λ h. absurd (omega arith);
      }

  fair_subject : FairAt 2
  unfolding new_row
  fair_subject s k =
      let fit = subject-fits most_results so.far 2 (length v) p s refl in
      let a = length-append held.catalogue v in
      let n : subjects held.catalogue ≡ so.far.subjects = omega (arith, count.fives) in
      let rows : length held.table ≡ row_bytes * subjects held.catalogue = omega (arith, count.rows) in
      record {
        counts = record { fives = omega (arith, count.fives, fit.0); rows = omega (arith, length-append held.table new_row, new_row_lem, count.rows); number = count.number; newest = count.newest };
        started = λ h. fair.started (range_kept 1 2 last s.1.1.0).0;
        catalogue = catalogue-more held.catalogue v fair.catalogue fit.0 (omega (arith, fit.1)) k.0;
        scores = none-over_row held.table (subjects held.catalogue) rows fair.scores;
        peopled = λ h. absurd (omega arith);
        few = fair.few;
        each = fair.each;
        distinct = fair.distinct;
        met = λ h. absurd (omega arith);
      }

  fair_score : FairAt 3
  fair_score s k =
      record {
        counts = record { fives = count.fives; rows = length-stored held.table (word v 0) (byte v 2) (long v 3) ∙ count.rows; number = count.number; newest = count.newest };
        started = λ h. fair.started (range_kept 1 3 last s.1.1.0).0;
        catalogue = fair.catalogue;
        scores = none-over_stored held.table (word v 0) (byte v 2) (long v 3) (ltb-false top_score (long v 3) k.1.1.0) fair.scores;
        peopled = λ h. absurd (omega arith);
        few = fair.few;
        each = fair.each;
        distinct = fair.distinct;
        met = λ h. absurd (omega arith);
      }

  fair_figures : FairAt 4
  fair_figures s k =
      record {
        counts = record { fives = count.fives; rows = count.rows; number = count.number; newest = count.newest };
        started = λ h. fair.started (range_kept 1 3 last s.1.1.0).0;
        catalogue = fair.catalogue;
        scores = fair.scores;
        peopled = λ h. at-kept p (population_rules (figures_in v)) k;
        few = fair.few;
        each = fair.each;
        distinct = fair.distinct;
        met = λ h. absurd (omega arith);
      }

  fair_student : FairAt 5
  fair_student s k =
      let ss = held.students in
      let l = (range_kept 4 6 last s.1.1.0).0 in
      let a = length-append ss (fresh (long v 0) ∷ []) in
      record {
        counts = record { fives = count.fives; rows = count.rows; number = omega (arith, count.number); newest = sym (latest-fresh ss (long v 0)) };
        started = λ h. fair.started (omega arith);
        catalogue = fair.catalogue;
        scores = fair.scores;
        peopled = λ h. fair.peopled l;
        few = omega (arith, student-fits most_results so.far 5 (length v) p s refl, count.number);
        each = each-fresh ss (long v 0) fair.each;
        distinct = subst Distinct (sym (ids-fresh ss (long v 0))) (distinct_more (ids_of ss) (long v 0) fair.distinct k.0);
        met = λ h. omega arith;
      }

  fair_result : FairAt 6
  fair_result s k =
      let ss = held.students in
      let fit = result_fits most_results so.far 6 (length v) p s refl in
      let l : 5 ≤ last = fit.1 in
      let n = same_number ss v in
      let some : 1 ≤ length ss = fair.met l in
      record {
        counts = record { fives = count.fives; rows = count.rows; number = count.number ∙ sym n; newest = ap (λ (m : ℕ). m + 1) count.newest ∙ sym (latest-more ss v fit.0 some) };
        started = λ h. fair.started (omega arith);
        catalogue = fair.catalogue;
        scores = fair.scores;
        peopled = λ h. fair.peopled (omega arith);
        few = omega (arith, fair.few);
        each = each_more ss v fit.0 (omega (arith, fit.2, count.newest)) fair.each;
        distinct = subst Distinct (sym (same-ids ss v)) fair.distinct;
        met = λ h. omega arith;
      }

  -- a field that breaks no rule
  pub fair_passed : (tag : ℕ) → Unbroken (field_rules so (of tag) p) → Fair (passed so (of tag))
  fair_passed tag k =
      let s = unbroken_parts (order_rules most_results so.far (of tag) p) (value_rules held (of tag) p) k in
      let t = range_kept 1 6 tag s.0.0 in
      by_tag FairAt tag t.0 t.1 fair_year fair_subject fair_score fair_figures fair_student fair_result s.0 s.1

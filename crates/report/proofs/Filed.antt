-- What a file that is read leaves in the buffers is what is listed.
use Prim.Native.Nat.{ℕ, zero, suc, ◌*◌, ◌≤◌, ◌<◌}
use native.Mathlib.Omega.{arith}
use mathlib.Core.Path.{◌≡◌, refl, sym, ap, subst, ◌∙◌}
use mathlib.Core.List.{List, [], ◌∷◌}
use lib.ListN.{length, get_or, take, drop, replicate, length-replicate}
use Rattle.paper.specs.Limits.{entry_bytes, row_bytes, most_subjects, most_results, figure_count, most_students, catalogue_bytes, table_bytes, results_bytes}
use Rattle.paper.specs.Rulings.{Outcome, accepted, refused, number_of, place_of, mapped, values_or}
use Rattle.paper.specs.Refusals.{fault}
use Rattle.paper.proofs.Promised.{left_as}
use Rattle.paper.specs.declared.refusal.Refusal.{Refusal}
use Rattle.catalogue.specs.Catalogue.{subjects}
use Rattle.curve.specs.Population.{Y, rate}
use Rattle.curve.specs.Curve.{table_of}
use Rattle.curve.proofs.Means.{counted}
use Rattle.listing.specs.Lines.{file_line}
use Rattle.held.specs.Held.{Enrolled, Held, nothing, ids_of, counts_of, results_of}
use Rattle.held.specs.Meaning.{Each, FewResults, Sound}
use Rattle.held.specs.Reading.{reading}
use Rattle.paper.specs.Promises.{said}
use Rattle.held.specs.Promise.{Lent, lent, written, summary_of, Promise}
use Rattle.cohort.specs.Inner.{Sized}
use Rattle.held.specs.declared.Summary.{Summary}
use Rattle.std.proofs.Common.{Result, Ok, Err}
use Rattle.held.proofs.Holding.{sound}
use Rattle.paper.proofs.Parted.{take-start, laid-start, length-laid}
use Rattle.held.proofs.Pupils.{length_ids, length-counts}
use Rattle.printed.specs.Sizes.{text_bytes}
use Rattle.printed.specs.Report.{outcome, listed, text_of_outcome, text_of}
use Rattle.printed.specs.Promise.{Promise as Printed}
use Rattle.printed.proofs.Promised.{room}
use Rattle.outcomes.specs.Inner.{students_in}
use Rattle.lines.specs.Inner.{Put}
use Rattle.report.specs.Inner.{Read}
use Rattle.outcomes.proofs.Standing.{stand}

-- a refused file
abbrev fault_line : Outcome Summary → List ℕ
fault_line (accepted v) = []
fault_line (refused f) = file_line (number_of f) (place_of f)

pub refused-text : (file : List ℕ) (old : Lent) (r : Result Summary Refusal) (new : Lent) (x : Refusal) → r ≡ Err x → Promise file old r new
    → file_line (number_of (fault x)) (place_of (fault x)) ≡ text_of file
unfolding text_of
refused-text file old r new x e h = go (reading file) (ap said (sym e) ∙ h.says)
  where
    go : (o : Outcome Held) → refused (fault x) ≡ mapped summary_of o → file_line (number_of (fault x)) (place_of (fault x)) ≡ text_of_outcome o
    go (accepted held) w = absurd (let z : ◌≡◌ {A = ℕ} 0 1 = cc in omega arith)
    go (refused f) w = ap fault_line w

-- six buffers of zeros
abbrev pub zeros : Lent
zeros = lent (replicate catalogue_bytes 0) (replicate table_bytes 0) (replicate figure_count 0) (replicate most_students 0) (replicate most_students 0) (replicate results_bytes 0)

pub zeros-sized : Sized zeros
zeros-sized =
    let long : (n : ℕ) → length (replicate {A = ℕ} n 0) ≡ n = λ n. length-replicate {A = ℕ} n 0 in
    record { catalogue = long catalogue_bytes; table = long table_bytes; figures = long figure_count; ids = long most_students; counts = long most_students; results = long results_bytes }

-- an accepted file: what it holds, what the answer says of it, and the buffers
pub record Taken (file : List ℕ) (old new : Lent) (v : Summary) : Type 0 where
  pub held : Held
  pub reads : reading file ≡ accepted held
  pub values : v ≡ summary_of held
  pub left : new ≡ written held old

pub taken : (file : List ℕ) (old : Lent) (r : Result Summary Refusal) (new : Lent) (v : Summary) → said r ≡ accepted v → Promise file old r new → Taken file old new v
taken file old r new v e h = go (reading file) refl (sym e ∙ h.says)
  where
    go : (o : Outcome Held) → reading file ≡ o → accepted v ≡ mapped summary_of o → Taken file old new v
    go (accepted held) s w =
        record { held = held; reads = s; values = ap (values_or v) w; left = left_as (sym h.says ∙ e) h ∙ ap (λ (o : Outcome Held). written (values_or nothing o) old) s }
    go (refused f) s w = absurd (let z : ◌≡◌ {A = ℕ} 0 1 = cc in omega arith)

few-counts : (ss : List Enrolled) (i : ℕ) → Each FewResults ss → i < length (counts_of ss) → get_or (counts_of ss) i 0 ≤ most_results
few-counts [] i h l = absurd (omega arith)
few-counts (s ∷ ss) zero h l = h.0.1
few-counts (s ∷ ss) (suc i) h l = few-counts ss i h.1 (omega arith)

module _ (file : List ℕ) (old new : Lent) (v : Summary) (b : Sized old) (w : Taken file old new v) where
  abbrev so : Held
  so = w.held

  good : Sound so
  good = sound file so w.reads

  number : v.subjects ≡ subjects so.catalogue
  number = ap (λ (v : Summary). v.subjects) w.values

  pupils : v.students ≡ length so.students
  pupils = ap (λ (v : Summary). v.students) w.values

  pub few_subjects : v.subjects ≤ most_subjects
  few_subjects = omega (arith, number, good.few_subjects)

  pub few_students : v.students ≤ most_students
  few_students = omega (arith, pupils, good.few_students)

  -- what is held stands at the front of the buffers
  catalogue-is : take (entry_bytes * v.subjects) new.catalogue ≡ so.catalogue
  catalogue-is = ap (λ (b : Lent). take (entry_bytes * v.subjects) b.catalogue) w.left ∙ take-start old.catalogue so.catalogue (entry_bytes * v.subjects) (omega (arith, number, good.whole))

  table_is : take (row_bytes * v.subjects) new.table ≡ so.table
  table_is = ap (λ (b : Lent). take (row_bytes * v.subjects) b.table) w.left ∙ take-start old.table so.table (row_bytes * v.subjects) (omega (arith, number, good.table))

  ids-are : take v.students new.ids ≡ ids_of so.students
  ids-are = ap (λ (b : Lent). take v.students b.ids) w.left ∙ take-start old.ids (ids_of so.students) v.students (omega (arith, pupils, length_ids so.students))

  counts-are : take v.students new.counts ≡ counts_of so.students
  counts-are = ap (λ (b : Lent). take v.students b.counts) w.left ∙ take-start old.counts (counts_of so.students) v.students (omega (arith, pupils, length-counts so.students))

  -- each buffer keeps its length
  pub sized : Sized new
  sized =
      record {
        catalogue = ap (λ (b : Lent). length b.catalogue) w.left ∙ length-laid old.catalogue 0 so.catalogue (omega (arith, good.whole, good.few_subjects, b.catalogue)) ∙ b.catalogue;
        table = ap (λ (b : Lent). length b.table) w.left ∙ length-laid old.table 0 so.table (omega (arith, good.table, good.few_subjects, b.table)) ∙ b.table;
        figures = ap (λ (b : Lent). length b.figures) w.left ∙ length-laid old.figures 0 so.figures (omega (arith, good.ten, b.figures)) ∙ b.figures;
        ids = ap (λ (b : Lent). length b.ids) w.left ∙ length-laid old.ids 0 (ids_of so.students) (omega (arith, length_ids so.students, good.few_students, b.ids)) ∙ b.ids;
        counts = ap (λ (b : Lent). length b.counts) w.left ∙ length-laid old.counts 0 (counts_of so.students) (omega (arith, length-counts so.students, good.few_students, b.counts)) ∙ b.counts;
        results = ap (λ (b : Lent). length b.results) w.left ∙ length-laid old.results 0 (results_of so.students) (omega (arith, good.bytes, b.results)) ∙ b.results;
      }

  -- so it can be listed
  pub ready : (text : List ℕ) → length text ≡ text_bytes → Read v.rate v.population (take (entry_bytes * v.subjects) new.catalogue) (take v.students new.ids) (take v.students new.counts) new.results text
  ready text room =
      let people = counted so.figures (Y so.figures) (rate so.figures) (record { says = sym good.population; leaves = tt }) in
      let r : v.rate ≡ rate so.figures = ap (λ (v : Summary). v.rate) w.values in
      let y : v.population ≡ Y so.figures = ap (λ (v : Summary). v.population) w.values in
      record {
        few_subjects = subst (λ (c : List ℕ). subjects c ≤ most_subjects) (sym catalogue-is) good.few_subjects;
        populated = record { rate_least = omega (arith, people.rate_least); rate_most = omega (arith, people.rate_most); some = omega (arith, people.some); most = omega (arith, people.most) };
        ids_long = ap length ids-are ∙ length_ids so.students ∙ sym (ap length counts-are ∙ length-counts so.students);
        few = record {
          students = omega (arith, ap length counts-are ∙ length-counts so.students, good.few_students);
          each = λ i l. subst (λ (l : List ℕ). i < length l → get_or l i 0 ≤ most_results) (sym counts-are) (few-counts so.students i good.few_results) l;
          bytes = sized.results;
        };
        room = room;
      }

  students-are : students_in (length (take v.students new.counts)) (take v.students new.ids) (take v.students new.counts) new.results ≡ so.students
  students-are =
      (λ i. students_in (length (counts-are i)) (ids-are i) (counts-are i) (w.left i).results)
      ∙ (λ i. students_in (length-counts so.students i) (ids_of so.students) (counts_of so.students) (laid-start old.results (results_of so.students) i))
      ∙ stand so.students (drop (length (results_of so.students)) old.results) good.few_results

  -- what is listed of the buffers is the file's text
  pub accepted-text : listed (outcome (take (entry_bytes * v.subjects) new.catalogue) (take (row_bytes * v.subjects) new.table) v.year) (table_of v.rate) v.population
      (students_in (length (take v.students new.counts)) (take v.students new.ids) (take v.students new.counts) new.results) ≡ text_of file
  unfolding text_of
  accepted-text =
      let so-told = w.values in
      (λ i. listed (outcome (catalogue-is i) (table_is i) (so-told i).year) (table_of (so-told i).rate) (so-told i).population (students-are i))
      ∙ sym (ap text_of_outcome w.reads)

-- so a text that is put as the file's is what is promised
module _ (file before : List ℕ) where
  pub text_put : (after : List ℕ) (n : ℕ) → length before ≡ text_bytes → Put before after 0 n (text_of file) → Printed file before (Ok n) after
  text_put after n l p =
      let z : n ≡ length (text_of file) = omega (arith, p.ends) in
      record { says = ap accepted z ∙ sym (room file before l); leaves = p.content }

-- The text of a file of bytes has at most 64 bytes for each student and for the cohort, and so fits, whatever is lent.
use Prim.Native.Nat.{ℕ, ◌+◌, ◌*◌, ◌<◌, ◌≤◌}
use native.Mathlib.Omega.{arith}
use native.Mathlib.Decide.{dec_lt}
use mathlib.Core.Path.{◌≡◌, refl}
use mathlib.Core.List.{List, [], ◌∷◌}
use lib.ListN.{length, get_or, length-append, get_or-eq_default}
use Rattle.paper.specs.Limits.{most_students, most_bytes, most_results, most_subjects}
use Rattle.paper.specs.Bytes.{byte}
use Rattle.paper.specs.Rulings.{Fault, place_of, number_of, Outcome, accepted, refused}
use Rattle.paper.proofs.Ruled.{OfTable, Refusing, IfRefused, short-number}
use Rattle.catalogue.specs.Catalogue.{subjects}
use Rattle.results.specs.Results.{Student, student, held}
use Rattle.sets.specs.declared.BestSet.{BestSet}
use Rattle.sets.proofs.Meeting.{computed-tabled}
use Rattle.sets.proofs.Places.{Near, place-near}
use Rattle.curve.specs.Population.{Y}
use Rattle.ranks.proofs.Meaning.{rank_most, percentile-within}
use Rattle.ranks.proofs.Promised.{computed as ranks-computed}
use Rattle.placements.specs.Placing.{remainder}
use Rattle.placements.proofs.Placed.{best-exists}
use Rattle.listing.specs.Lines.{cohort_line, refused_line, line_bytes}
use Rattle.listing.proofs.Fits.{cohort-fits, student-fits, file-fits, refused-fits}
use Rattle.held.specs.Held.{Enrolled, Held}
use Rattle.held.specs.Meaning.{Each, FewResults, Sound}
use Rattle.held.specs.Reading.{reading}
use Rattle.held.proofs.Holding.{sound}
use Rattle.held.proofs.Promised.{told-reading}
use Rattle.held.proofs.Within.{ShortId, place-within, short-ids}
use Rattle.printed.specs.Sizes.{text_bytes}
use Rattle.printed.specs.Report.{outcome, outcome_of, eligible_of, Columns, columns_of, eligible_line, line_of, after_one, lines_of, participation, text_of_outcome, text_of}
use Rattle.printed.proofs.Bounded.{aggregates-most}
use Rattle.printed.proofs.Few.{eligible-within, remainder-within}

-- a number of a list, where those that it has are at most a limit
up_to : (limit : ℕ) (xs : List ℕ) (j : ℕ) → (j < length xs → get_or xs j 0 ≤ limit) → get_or xs j 0 ≤ limit
up_to limit xs j h = go (dec_lt j (length xs))
  where
    go : Dec (j < length xs) → get_or xs j 0 ≤ limit
    go (yes l) = h l
    go (no l) = let past : length xs ≤ j = omega arith in omega (arith, get_or-eq_default xs 0 past)

-- the lines of eligible students
module _ (table : List ℕ) (Y : ℕ) (aggregates : List ℕ) (each : (j : ℕ) → get_or aggregates j 0 ≤ 50000) (few : length aggregates ≤ most_students) where
  abbrev cols : Columns
  cols = columns_of aggregates table Y

  eligible-short : (j id : ℕ) → id < 4294967296 → length (eligible_line cols j id) ≤ line_bytes
  eligible-short j id h =
      let r = ranks-computed aggregates in
      let k = (best-exists aggregates table Y).keeps in
      let rank = up_to 512 cols.ranks j (λ l. omega (arith, r.ranks_long, r.ranks_are j (omega (arith, r.ranks_long)), rank_most aggregates j)) in
      let percentile = up_to 100000 cols.percentiles j (λ l.
      let inside : j < length aggregates = omega (arith, r.percentiles_long) in omega (arith, r.percentiles_are j inside, percentile-within (length aggregates) _ (rank_most aggregates j) (omega arith))) in
      let band = up_to 1999 cols.bands j (λ l. k.within j (omega (arith, k.long))) in
      student-fits id _ _ _ _ h (omega (arith, each j)) (omega (arith, rank)) (omega (arith, percentile)) (omega (arith, band))

-- the line of a refused student of at most 64 subjects and 16 results
refused-short : (one : Student) (table : List ℕ) (id : ℕ) (f : Fault) → id < 4294967296 → subjects one.catalogue ≤ most_subjects → held one ≤ most_results → OfTable f → Near one table f
    → length (refused_line id (number_of f) (place_of f)) ≤ line_bytes
refused-short one table id f h s r t n = refused-fits id (number_of f) (place_of f) h (file-fits (number_of f) (place_of f) (short-number f t) (omega (arith, n)))

module _ (file : List ℕ) (bytes : (i : ℕ) → byte file i < 256) (so : Held) (reads : reading file ≡ accepted so) where
  good : Sound so
  good = sound file so reads

  abbrev out : Enrolled → Outcome BestSet
  out = outcome_of so

  abbrev shares : List ℕ
  shares = participation so.figures

  few : length (eligible_of so) ≤ most_students
  few = omega (arith, eligible-within out so.students, good.few_students)

  one-short : (s : Enrolled) (j : ℕ) → ShortId s → FewResults s → length (line_of (columns_of (eligible_of so) shares (Y so.figures)) j s.id (out s)) ≤ line_bytes
  unfolding outcome
  one-short s j h r = go (out s) (computed-tabled one so.table) (place-near one so.table)
    where
      one : Student
      one = student so.catalogue so.year s.results

      go : (o : Outcome BestSet) → Refusing o → IfRefused (Near one so.table) o → length (line_of (columns_of (eligible_of so) shares (Y so.figures)) j s.id o) ≤ line_bytes
      go (accepted v) t n = eligible-short shares (Y so.figures) (eligible_of so) (aggregates-most so.catalogue so.table so.year so.students) few j s.id h
      go (refused f) t n = refused-short one so.table s.id f h good.few_subjects r.1 t n

  lines_short : (ss : List Enrolled) (j : ℕ) → Each ShortId ss → Each FewResults ss → length (lines_of out (columns_of (eligible_of so) shares (Y so.figures)) j ss) ≤ line_bytes * length ss
  unfolding lines_of
  lines_short [] j h r = omega arith
  lines_short (s ∷ ss) j h r =
      omega (
        arith,
        length-append (line_of (columns_of (eligible_of so) shares (Y so.figures)) j s.id (out s)) (lines_of out (columns_of (eligible_of so) shares (Y so.figures)) (after_one j (out s)) ss),
        one-short s j h.0 r.0,
        lines_short ss (after_one j (out s)) h.1 r.1,
      )

  listed-short : length (text_of_outcome (accepted so)) ≤ line_bytes * (most_students + 1)
  listed-short =
      let left = remainder (eligible_of so) shares (Y so.figures) in
      let first : length (cohort_line (length so.students) (length (eligible_of so)) left) ≤ line_bytes =
      cohort-fits _ _ _ (omega (arith, good.few_students)) (omega (arith, few)) (omega (arith, few, remainder-within (eligible_of so) shares (Y so.figures))) in
      omega (
        arith,
        length-append (cohort_line (length so.students) (length (eligible_of so)) left) (lines_of out (columns_of (eligible_of so) shares (Y so.figures)) 0 so.students),
        first,
        lines_short so.students 0 (short-ids file bytes so reads) good.few_results,
        good.few_students,
      )

-- of any file of bytes
pub text_most : (file : List ℕ) → ((i : ℕ) → byte file i < 256) → length (text_of file) ≤ line_bytes * (most_students + 1)
unfolding text_of
text_most file bytes = go (reading file) refl (told-reading file) (place-within file)
  where
    go : (o : Outcome Held) → reading file ≡ o → Refusing o → IfRefused (λ f. place_of f ≤ most_bytes) o → length (text_of_outcome o) ≤ line_bytes * (most_students + 1)
    go (accepted so) e t n = listed-short file bytes so e
    go (refused f) e t n = omega (arith, file-fits (number_of f) (place_of f) (short-number f t) (omega (arith, n)))

-- so it always fits
pub text_fits : (file : List ℕ) → ((i : ℕ) → byte file i < 256) → length (text_of file) ≤ text_bytes
text_fits file bytes = omega (arith, text_most file bytes)

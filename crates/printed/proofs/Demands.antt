-- What is listed of an accepted file, in the demands' own terms.
use Prim.Native.Nat.{ℕ, suc, ◌+◌, ◌<◌}
use native.Mathlib.Omega.{arith}
use mathlib.Core.Path.{◌≡◌, refl, sym, ap, subst, ◌∙◌}
use mathlib.Core.List.{List, [], ◌∷◌, ◌++◌, append_assoc}
use lib.ListN.{length, get_or, length-append}
use lib.Seq.{get_or-append_seam}
use Rattle.paper.specs.Rulings.{Outcome, accepted, refused, number_of, place_of}
use Rattle.results.specs.Results.{student}
use Rattle.sets.specs.Promise.{Ruled}
use Rattle.sets.specs.declared.BestSet.{BestSet}
use Rattle.curve.specs.Population.{Y, rate}
use Rattle.curve.specs.Curve.{drawn}
use Rattle.curve.proofs.Means.{counted}
use Rattle.ranks.specs.Ranking.{rank, percentile, ranks_of, percentiles_of}
use Rattle.ranks.specs.Promise.{lent, ruling as ranksRuling}
use Rattle.ranks.proofs.Promised.{computed as ranks-computed}
use Rattle.placements.specs.Placing.{remainder}
use Rattle.placements.specs.Bands.{bands_of}
use Rattle.placements.specs.Promise.{ruling as bandsRuling}
use Rattle.placements.proofs.Placed.{best-exists}
use Rattle.listing.specs.Text.{digits}
use Rattle.listing.specs.Lines.{cohort, eligible, remainder as left, cohort_line, student_line, refused_line}
use Rattle.held.specs.Held.{Enrolled, Held}
use Rattle.held.specs.Reading.{reading}
use Rattle.held.proofs.Holding.{sound}
use Rattle.printed.specs.Report.{outcome, outcome_of, with_aggregate, aggregates_of, eligible_of, participation, Columns, columns_of, eligible_line, line_of, after_one, lines_of, text_of_outcome, text_of}
use Rattle.printed.specs.InnerCohorts.{Cohort}
use Rattle.printed.specs.Meaning.{In, Estimated}
use Rattle.printed.proofs.Whole.{whole-line, whole_join, all_whole}
use Rattle.printed.proofs.Accepting.{table-drawn, ranks-accept, bands-accept}
use Rattle.printed.proofs.Best.{chosen}
use Rattle.sets.proofs.Meeting.{computed-ruled}
use Rattle.printed.proofs.Bounded.{aggregates-most}
use Rattle.printed.proofs.Few.{eligible-within}

-- each student's outcome is one that the best set permits: the greatest over all admissible sets, or the refusal that the rules fix
pub owed : (held : Held) (s : Enrolled)
    → let one = student held.catalogue held.year s.results in Ruled one held.table (outcome_of held s)
unfolding outcome
owed held s = computed-ruled (student held.catalogue held.year s.results) held.table

-- the aggregates of some students and of those after them
aggregates-join : (out : Enrolled → Outcome BestSet) (before rest : List Enrolled) → aggregates_of out (before ++ rest) ≡ aggregates_of out before ++ aggregates_of out rest
unfolding aggregates_of
aggregates-join out [] rest = refl
aggregates-join out (s ∷ before) rest = go (out s) (aggregates-join out before rest)
  where
    go : (o : Outcome BestSet) → aggregates_of out (before ++ rest) ≡ aggregates_of out before ++ aggregates_of out rest
        → with_aggregate o (aggregates_of out (before ++ rest)) ≡ with_aggregate o (aggregates_of out before) ++ aggregates_of out rest
    go (accepted v) e = ap (λ (l : List ℕ). v.aggregate ∷ l) e
    go (refused f) e = e

-- an eligible student's place among the eligible is the number of those before, and the aggregate there its own
own-aggregate : (out : Enrolled → Outcome BestSet) (before : List Enrolled) (s : Enrolled) (rest : List Enrolled) (v : BestSet) → out s ≡ accepted v
    → get_or (aggregates_of out (before ++ (s ∷ rest))) (length (aggregates_of out before)) 0 ≡ v.aggregate
unfolding aggregates_of
own-aggregate out before s rest v e =
    ap (λ (l : List ℕ). get_or l (length (aggregates_of out before)) 0) (aggregates-join out before (s ∷ rest))
    ∙ ap (λ (o : Outcome BestSet). get_or (aggregates_of out before ++ with_aggregate o (aggregates_of out rest)) (length (aggregates_of out before)) 0) e
    ∙ get_or-append_seam (aggregates_of out before) v.aggregate (aggregates_of out rest) 0

own-within : (out : Enrolled → Outcome BestSet) (before : List Enrolled) (s : Enrolled) (rest : List Enrolled) (v : BestSet) → out s ≡ accepted v
    → length (aggregates_of out before) < length (aggregates_of out (before ++ (s ∷ rest)))
unfolding aggregates_of
own-within out before s rest v e =
    let w : length (aggregates_of out (before ++ (s ∷ rest))) ≡ length (aggregates_of out before) + suc (length (aggregates_of out rest)) =
    ap length (aggregates-join out before (s ∷ rest)) ∙ length-append (aggregates_of out before) (with_aggregate (out s) (aggregates_of out rest))
    ∙ ap (λ (o : Outcome BestSet). length (aggregates_of out before) + length (with_aggregate o (aggregates_of out rest))) e in
    omega arith

-- and its line is written with that place
lines_join : (out : Enrolled → Outcome BestSet) (c : Columns) (j : ℕ) (before rest : List Enrolled)
    → lines_of out c j (before ++ rest) ≡ lines_of out c j before ++ lines_of out c (j + length (aggregates_of out before)) rest
unfolding lines_of aggregates_of
lines_join out c j [] rest = let e : j ≡ j + 0 = omega arith in ap (λ (n : ℕ). lines_of out c n rest) e
lines_join out c j (s ∷ before) rest = go (out s) (λ n. lines_join out c n before rest)
  where
    go : (o : Outcome BestSet)
        → ((n : ℕ) → lines_of out c n (before ++ rest) ≡ lines_of out c n before ++ lines_of out c (n + length (aggregates_of out before)) rest)
        → line_of c j s.id o ++ lines_of out c (after_one j o) (before ++ rest)
        ≡ (line_of c j s.id o ++ lines_of out c (after_one j o) before)
        ++ lines_of out c (j + length (with_aggregate o (aggregates_of out before))) rest
    go (accepted v) r =
        let e : suc j + length (aggregates_of out before) ≡ j + suc (length (aggregates_of out before)) = omega arith in
        rw (r (suc j), e) (sym (append_assoc (line_of c j s.id (accepted v)) (lines_of out c (suc j) before) _))
    go (refused f) r = rw (r j) (sym (append_assoc (line_of c j s.id (refused f)) (lines_of out c j before) _))

-- a file that is accepted, and one of its students with those before
module _ (file : List ℕ) (held : Held) (reads : reading file ≡ accepted held) where
  abbrev out : Enrolled → Outcome BestSet
  out = outcome_of held

  abbrev cols : Columns
  cols = columns_of (eligible_of held) (participation held.figures) (Y held.figures)

  -- the line of each student stands in the text
  printed : (before : List Enrolled) (s : Enrolled) (rest : List Enrolled) → held.students ≡ before ++ (s ∷ rest)
      → In (line_of cols (length (aggregates_of out before)) s.id (out s)) (text_of file)
  unfolding text_of lines_of
  printed before s rest e =
      let front = cohort_line (length held.students) (length (eligible_of held)) (remainder (eligible_of held) (participation held.figures) (Y held.figures)) in
      let j = length (aggregates_of out before) in
      let tail = lines_of out cols (after_one j (out s)) rest in
      record {
        before = front ++ lines_of out cols 0 before;
        whole =
            whole_join front (lines_of out cols 0 before)
            (whole-line (cohort ∷ digits (length held.students) ∷ eligible ∷ digits (length (eligible_of held)) ∷ left ∷ digits (remainder (eligible_of held) (participation held.figures) (Y held.figures)) ∷ []))
            (all_whole out cols 0 before);
        after = tail;
        text_is =
            ap text_of_outcome reads
            ∙ ap (λ (ss : List Enrolled). front ++ lines_of out cols 0 ss) e
            ∙ ap (λ (l : List ℕ). front ++ l) (lines_join out cols 0 before (s ∷ rest) ∙ ap (λ (n : ℕ). lines_of out cols 0 before ++ lines_of out cols n (s ∷ rest)) zero_more)
            ∙ sym (append_assoc front (lines_of out cols 0 before) (line_of cols j s.id (out s) ++ tail));
      }
    where
      zero_more : 0 + length (aggregates_of out before) ≡ length (aggregates_of out before)
      zero_more = omega arith

  -- of an eligible student
  pub estimated : (before : List Enrolled) (s : Enrolled) (rest : List Enrolled) (v : BestSet) → held.students ≡ before ++ (s ∷ rest) → out s ≡ accepted v
      → Estimated file held s (length (aggregates_of out before))
  unfolding outcome
  estimated before s rest v e a =
      let j = length (aggregates_of out before) in
      let w = ap (aggregates_of out) e in
      let own : get_or (eligible_of held) j 0 ≡ v.aggregate = ap (λ (l : List ℕ). get_or l j 0) w ∙ own-aggregate out before s rest v a in
      let within : j < length (eligible_of held) = subst (λ (l : List ℕ). j < length l) (sym w) (own-within out before s rest v a) in
      let r = ranks-computed (eligible_of held) in
      record {
        values = v;
        greatest = chosen (student held.catalogue held.year s.results) held.table v a;
        own = own;
        bands = bands_of (eligible_of held) (participation held.figures) (Y held.figures);
        best = best-exists (eligible_of held) (participation held.figures) (Y held.figures);
        printed = subst (λ (line : List ℕ). In line (text_of file)) (line_is j own (r.ranks_are j within) (r.percentiles_are j within)) (subst (λ (o : Outcome BestSet). In (line_of cols j s.id o) (text_of file)) a (printed before s rest e));
      }
    where
      line_is : (j : ℕ) → get_or (eligible_of held) j 0 ≡ v.aggregate → get_or (ranks_of (eligible_of held)) j 0 ≡ rank (eligible_of held) j
          → get_or (percentiles_of (eligible_of held)) j 0 ≡ percentile (length (eligible_of held)) (rank (eligible_of held) j)
          → eligible_line cols j s.id
          ≡ student_line s.id v.aggregate (rank (eligible_of held) j) (percentile (length (eligible_of held)) (rank (eligible_of held) j)) (get_or (bands_of (eligible_of held) (participation held.figures) (Y held.figures)) j 0)
      line_is j x y z = λ i. student_line s.id (x i) (y i) (z i) (get_or (bands_of (eligible_of held) (participation held.figures) (Y held.figures)) j 0)

  -- of a refused student, who refuses nobody else
  pub turned : (before : List Enrolled) (s : Enrolled) (rest : List Enrolled) (f : _) → held.students ≡ before ++ (s ∷ rest) → out s ≡ refused f
      → In (refused_line s.id (number_of f) (place_of f)) (text_of file)
  turned before s rest f e a = subst (λ (o : Outcome BestSet). In (line_of cols (length (aggregates_of out before)) s.id o) (text_of file)) a (printed before s rest e)

  cohort-is : Cohort (eligible_of held) (rate held.figures) (Y held.figures)
  cohort-is =
      let good = sound file held reads in
      let people = counted held.figures (Y held.figures) (rate held.figures) (record { says = sym good.population; leaves = tt }) in
      record {
        populated = record { rate_least = people.rate_least; rate_most = people.rate_most; some = people.some; most = people.most };
        few = omega (arith, eligible-within out held.students, good.few_students);
        each = aggregates-most held.catalogue held.table held.year held.students;
      }

  -- the inner calls of ranks and bands never refuse, with buffers of the lengths that they ask for; and the table that is drawn for the rate is the population's
  pub never_refused : (before ranks percentiles bands : List ℕ) → length ranks ≡ length (eligible_of held) → length percentiles ≡ length (eligible_of held) → length bands ≡ length (eligible_of held)
      → (drawn (rate held.figures) before ≡ participation held.figures)
      × (ranksRuling (eligible_of held) (lent ranks percentiles) ≡ accepted tt)
      × (bandsRuling (eligible_of held) (participation held.figures) (Y held.figures) bands ≡ accepted (remainder (eligible_of held) (participation held.figures) (Y held.figures)))
  never_refused before ranks percentiles bands a b c =
      let p = cohort-is in
      (table-drawn _ _ p.populated before, ranks-accept _ _ _ p ranks percentiles a b, bands-accept _ _ _ p bands c)

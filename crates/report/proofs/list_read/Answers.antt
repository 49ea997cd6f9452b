use Rattle.report.proofs.Noting.{eligible-are, listed-told}
use Rattle.outcomes.proofs.Bounded.{collected_cohort}
use Rattle.lines.specs.Inner.{Put}
use Rattle.report.specs.Inner.{listed_noted}
use Rattle.curve.specs.Curve.{table_of}
use Rattle.paper.specs.Limits.{most_students}
use lib.Seq.{take_at}
use lib.ListN.{length, take, drop, replicate}
use mathlib.Core.List.{List, ◌++◌}
use mathlib.Core.Path.{◌≡◌, sym, ap, subst, ◌∙◌}
use Prim.Native.Nat.{ℕ}
use native.Mathlib.Omega.{arith}
use Rattle.report.proofs.list_read.Goals as goal

-- a column of n stands at the front of its array
front : (n : ℕ) (xs : List ℕ) → length xs ≡ n → take n (xs ++ drop n (replicate most_students 0)) ≡ xs
front n xs l = take_at xs (drop n (replicate most_students 0)) n l

pub list_noted-requires : goal.list_noted-requires
list_noted-requires c =
    let a = c.args in
    let p = c.requires in
    let w = rw c.from-year.ensures at c.collect-n.ensures in
    let l = c.collect-n.new in
    let eligible = take c.collect-n.result l.aggregates in
    record {
      cohort = collected_cohort a.catalogue.now a.table.now a.summary.year a.summary.rate a.summary.population a.counts.now a.results.now l.aggregates l.counts l.places c.collect-n.result p.few.students p.populated w;
      few = omega (arith, p.ids_long, p.few.students);
      numbers_long = w.numbers_long ∙ sym p.ids_long;
      places_long = ap length (front (length a.counts.now) l.places w.places_long) ∙ w.places_long ∙ sym p.ids_long;
      eligible = eligible-are a.catalogue.now a.table.now a.summary.year (table_of a.summary.rate) a.summary.population a.ids.now a.counts.now a.results.now eligible l.counts l.places (w.are a.ids.now);
      room = p.room;
    }

pub returns : goal.returns
returns c =
    let a = c.args in
    let w = rw c.from-year.ensures at c.collect-n.ensures in
    let l = c.collect-n.new in
    let y = front (length a.counts.now) l.places w.places_long in
    let eligible = take c.collect-n.result l.aggregates in
    subst (Put a.text.now c.list_noted.new.text 0 c.list_noted.result)
    ((λ i. listed_noted a.ids.now l.counts (y i) eligible (table_of a.summary.rate) a.summary.population)
    ∙ listed-told a.catalogue.now a.table.now a.summary.year (table_of a.summary.rate) a.summary.population a.ids.now a.counts.now a.results.now eligible l.counts l.places c.requires.ids_long (w.are a.ids.now))
    c.list_noted.ensures

use Rattle.firsts.proofs.Slotting.{asked-most}
use Rattle.firsts.specs.Counts.{total}
use Rattle.firsts.specs.Row.{asked, row_for}
use Rattle.firsts.specs.Promise.{ruling}
use Rattle.firsts.proofs.Written.{length-for}
use Rattle.scores.specs.Scores.{rows}
use Rattle.scores.specs.Rows.{with_row}
use Rattle.scores.proofs.Rowed.{row_put}
use Rattle.catalogue.specs.Kinds.{general, short_course, vet}
use Rattle.catalogue.proofs.Ranges.{kind_known}
use Rattle.paper.specs.Limits.{row_bytes, most_count}
use Rattle.paper.specs.Lists.{some_over, first_over}
use Rattle.paper.specs.Ranges.{within}
use Rattle.paper.specs.Rulings.{◌⇒◌, ◌at◌, judged}
use Rattle.paper.specs.Words.{◌≤?◌, ◌<?◌, ◌=?◌}
use Rattle.paper.proofs.Firsts.{none_over}
use borrow.Author.Tests.{eq-eqb, ne_eqb, le-ltb, lt-leb}
use lib.ListN.{length}
use native.Mathlib.Omega.{arith}
use Prim.Native.Nat.{ℕ, ◌%◌}
use mathlib.Core.Bool.{true, false}
use mathlib.Core.List.{[], ◌∷◌}
use mathlib.Core.Path.{◌≡◌, refl, sym, ap, ◌∙◌}
use Rattle.initial.proofs.first_scores.Goals as goal

pub total-total-requires : goal.total-total-requires
total-total-requires c =
    let n = c.args in
    record {
      few = omega (arith, asked-most n.kind, c.if-counts-asked.false, c.asked.ensures, ap asked c.in_ok-known.ensures.0);
      each = λ i l. none_over most_count n.counts.now (omega (arith, c.first_over-over.ensures, c.if-over-counts.false)) i;
    }

pub returns : goal.returns
returns c =
    let a = c.args in
    let n = a.counts.now in
    let own = c.in_ok-known.ensures in
    -- no rule before the total is broken
    let not_short : a.kind =? short_course ≡ false = ne_eqb _ _ own.1 in
    let known : within general vet a.kind ≡ true = kind_known a.kind c.in_ok-known.known own.0 in
    let there : rows a.table.now ≤? a.subject ≡ false = lt-leb _ _ c.if-table-subject.false in
    let counted : length n =? asked a.kind ≡ true = eq-eqb _ _ (c.if-counts-asked.false ∙ c.asked.ensures ∙ ap asked own.0) in
    let whole : length a.table.now % row_bytes =? 0 ≡ true = eq-eqb _ _ c.if-table-ne0.false in
    let none : some_over most_count n ≡ false = le-ltb (first_over most_count n) (length n) (omega (arith, c.first_over-over.ensures, c.if-over-counts.false)) in
    -- only the total is left to rule
    let left : ruling a.kind a.subject n a.table.now ≡ judged {A = Unit {0}} (most_count <? total n ⇒ 15 at 0 ∷ []) tt = simp (not_short, known, there, counted, whole, none) refl in
    let filled : c.fill.new.row ≡ row_for a.kind n = c.fill.ensures ∙ ap (λ (k : ℕ). row_for k n) own.0 in
    record {
      says = sym (left ∙ simp (← c.total-total.ensures, le-ltb most_count c.total-total.result (omega (arith, c.from.ensures, c.if-from-total.false))) refl);
      leaves = row_put a.table.now a.subject c.fill.new.row c.if-table-subject.false (ap length filled ∙ length-for a.kind n) ∙ ap (with_row a.table.now a.subject) filled;
    }

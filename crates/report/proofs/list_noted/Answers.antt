use Rattle.lines.proofs.Puts.{put-more, put-part, shown-short}
use Rattle.report.proofs.Noting.{front_lines}
use Rattle.printed.proofs.Few.{remainder-within}
use Rattle.lines.specs.Inner.{lines_noted, Put}
use Rattle.printed.specs.InnerCohorts.{columns}
use Rattle.listing.specs.Lines.{cohort_line, line_bytes, shown}
use Rattle.placements.specs.Placing.{remainder}
use Rattle.curve.specs.Curve.{table_of}
use Rattle.paper.specs.Limits.{most_students}
use lib.ListN.{length, take, drop, replicate}
use mathlib.Core.List.{List, ◌++◌}
use mathlib.Core.Path.{refl, ap, subst, ◌∙◌}
use borrow.Rule.Slice.PartMut.{put_mid}
use Prim.Native.Nat.{ℕ, ◌+◌, ◌-◌, ◌*◌, ◌≤◌}
use native.Mathlib.Omega.{arith}
use borrow.Author.Rules.{rules}
use Rattle.report.proofs.list_noted.Goals as goal

pub overflow_cast-remainder : goal.overflow_cast-remainder
overflow_cast-remainder c =
    let a = c.args in
    let w = c.requires.cohort.few in
    let e = c.place-remainder.ensures.1 in
    let k = remainder-within a.aggregates.now (table_of a.summary.rate) a.summary.population in
    search rules

pub returns : goal.returns
returns c =
    let a = c.args in
    let p = c.requires in
    let lines = c.lines in
    let t = c.append-start.new.text in
    let start = c.append-start.result in
    -- the first line is the cohort's, and leaves room for the others
    let short : length (shown c.cohort_line-line.result) ≤ line_bytes = shown-short c.cohort_line-line.ensures in
    let room : start + line_bytes * most_students ≤ length t = omega (arith, c.append-start.ensures.ends, c.append-start.auto.text, short, p.room) in
    let first : Put a.text.now t 0 start (cohort_line (length a.ids.now) (length a.aggregates.now) (remainder a.aggregates.now (table_of a.summary.rate) a.summary.population)) =
    subst (Put a.text.now t 0 start) (c.cohort_line-line.ensures.same ∙ ap (cohort_line (length a.ids.now) (length a.aggregates.now)) c.place-remainder.ensures.1) c.append-start.ensures in
    let zeros : List ℕ = drop (length a.aggregates.now) (replicate most_students 0) in
    let l = c.place-remainder.new in
    let text = lines_noted (columns a.aggregates.now (l.ranks ++ zeros) (l.percentiles ++ zeros) (l.bands ++ zeros)) 0 a.ids.now a.numbers.now a.places.now in
    let second : Put t (put_mid start (length t - start) t lines.new.text) start (start + lines.result) text =
    put-part t (take (length t - start) (drop start t)) lines.new.text start (length t - start) lines.result text (omega (arith, room)) refl (omega (arith, lines.ensures.0.ends, lines.ensures.1, room, p.few)) lines.ensures.0 in
    put-more a.text.now t _ 0 start (start + lines.result) _ _ first
    (subst (Put t _ start (start + lines.result)) (front_lines a.aggregates.now (table_of a.summary.rate) a.summary.population l.ranks l.percentiles l.bands zeros zeros zeros c.place-remainder.ensures.0 a.ids.now a.numbers.now a.places.now p.eligible) second)
    (omega arith)

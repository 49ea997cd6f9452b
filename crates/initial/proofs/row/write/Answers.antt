use Rattle.std.proofs.Common.{◌≡◌, ℕ, ◌+◌, ◌*◌, ◌<◌, ◌≤◌, List, length, get_or, refl, sym, ap, ◌∙◌, arith}
use Rattle.paper.specs.Limits.{most_count, score_parts, top_score}
use Rattle.paper.specs.Lists.{sum}
use Rattle.paper.specs.Rounding.{nearest}
use Rattle.paper.proofs.Listing.{sum_step}
use Rattle.scores.specs.Rows.{row_of, stored}
use Rattle.scores.proofs.Slotted.{row_same, missing-row, row-stored}
use Rattle.catalogue.specs.Kinds.{number}
use Rattle.firsts.specs.Counts.{below as under, total as sum_of, score}
use Rattle.firsts.specs.InnerAmong.{score_among}
use Rattle.firsts.specs.Row.{asked, slot_for}
use Rattle.firsts.proofs.Rising.{below_next, score-most}
use Rattle.firsts.proofs.Slotting.{slot_within, in_none, row_next}
use Rattle.initial.specs.Inner.{Writable}
use Rattle.initial.proofs.row.write.Goals as goal

-- the counts up to and with the one at j are few
few : {kind : ℕ} {counts : List ℕ} {all : ℕ} {row : List ℕ} (j count below : ℕ) → Writable kind counts all row → j < length counts → count ≡ get_or counts j 0 → below ≡ under counts j
    → count + below ≤ most_count
few {counts = counts} j count below w l e f = omega (arith, w.all_are, w.most, below_next counts j (length counts) l)

-- the quotient is the score at j
scored : {kind : ℕ} {counts : List ℕ} {all : ℕ} {row : List ℕ} (j count below : ℕ) {top quotient : ℕ} → Writable kind counts all row → count ≡ get_or counts j 0 → below ≡ under counts j
    → top ≡ top_score → quotient ≡ nearest (top * (count + 2 * below)) (2 * all) → quotient ≡ score counts j
unfolding score
scored {counts = counts} {all = all} j count below w e f t q =
    let twice : top_score * (count + 2 * below) ≡ 100 * score_parts * (get_or counts j 0 + 2 * under counts j) = omega arith in
    let whole : 2 * all ≡ 2 * sum_of counts = omega (arith, w.all_are) in
    q ∙ ap (λ (top : ℕ). nearest (top * (count + 2 * below)) (2 * all)) t ∙ ap (λ (a : ℕ). nearest a (2 * all)) twice ∙ ap (nearest _) whole

pub loop-j-init : goal.loop-j-init
unfolding sum
loop-j-init c =
    let a = c.args in
    (refl, c.requires.2 ∙ missing-row ∙ row_same _ _ (λ slot x y. sym (in_none (number a.kind) a.counts.now slot)))

pub overflow_mul-below : goal.overflow_mul-below
overflow_mul-below c = omega (arith, few c.loop-j.j c.from-count.result c.loop-j.below c.requires.0 c.loop-j-test.true c.from-count.ensures c.loop-j.invariant.0)

pub overflow_add-count : goal.overflow_add-count
overflow_add-count c = omega (arith, few c.loop-j.j c.from-count.result c.loop-j.below c.requires.0 c.loop-j-test.true c.from-count.ensures c.loop-j.invariant.0)

pub overflow_mul-from : goal.overflow_mul-from
overflow_mul-from c = rw c.from.ensures (omega (arith, few c.loop-j.j c.from-count.result c.loop-j.below c.requires.0 c.loop-j-test.true c.from-count.ensures c.loop-j.invariant.0))

pub overflow_cast-score : goal.overflow_cast-score
overflow_cast-score c =
    omega (arith, scored c.loop-j.j c.from-count.result c.loop-j.below c.requires.0 c.from-count.ensures c.loop-j.invariant.0 c.from.ensures c.nearest-score.ensures, score-most c.args.counts.now c.loop-j.j c.loop-j-test.true)

pub overflow_add-below : goal.overflow_add-below
overflow_add-below c = omega (arith, few c.loop-j.j c.from-count.result c.loop-j.below c.requires.0 c.loop-j-test.true c.from-count.ensures c.loop-j.invariant.0)

pub loop-j-preserved : goal.loop-j-preserved
loop-j-preserved c =
    let a = c.args in
    let j = c.loop-j.j in
    let h : j < asked (number a.kind) = omega (arith, c.requires.0.long, c.loop-j-test.true) in
    let w = slot_within (number a.kind) j h in
    let is = scored j c.from-count.result c.loop-j.below c.requires.0 c.from-count.ensures c.loop-j.invariant.0 c.from.ensures c.nearest-score.ensures in
    let row' : c.store.new.table ≡ row_of (score_among (number a.kind) a.counts.now (j + 1)) =
    c.store.ensures
    ∙ (λ i. stored (c.loop-j.invariant.1 i) 0 (c.slot_for.ensures i) (is i))
    ∙ row-stored (score_among (number a.kind) a.counts.now j) (slot_for (number a.kind) j) (score a.counts.now j) w.0 w.1
    ∙ row_next (number a.kind) a.counts.now j h in
    (omega (arith, sum_step j (λ i. get_or a.counts.now i 0), c.from-count.ensures), row')

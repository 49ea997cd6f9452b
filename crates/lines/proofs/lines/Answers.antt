use Rattle.std.specs.Slice.Iter.{iter_rest}
use Rattle.std.specs.Option.{unwrap_or}
use Rattle.lines.proofs.Puts.{put-none, put-more, shown-short}
use Rattle.lines.proofs.Lining.{far_none, far-all, far-more, eligible-adds, refused-adds}
use Rattle.lines.specs.Inner.{line_noted, after_noted, Put}
use Rattle.printed.specs.InnerCohorts.{columns}
use Rattle.listing.specs.Lines.{student_line, refused_line, shown, line_bytes}
use lib.ListN.{length, get_or}
use mathlib.Core.Logic.{⊎_elim}
use mathlib.Core.List.{[], ◌∷◌, ◌++◌}
use mathlib.Core.Path.{◌≡◌, refl, sym, ap, subst, ◌∙◌}
use Prim.Native.Nat.{ℕ, ◌+◌, ◌≤◌}
use native.Mathlib.Omega.{arith}
use Rattle.lines.proofs.lines.Goals as goal
use Rattle.lines.proofs.lines.Goals.{then-number-eq0, else-number-eq0}

pub loop-id-init : goal.loop-id-init
loop-id-init c =
    let a = c.args in
    let whole = c.into_iter-id-iterator.ensures.into_iter_gives in
    let ids : iter_rest c.into_iter-id-iterator.result.a.a ≡ a.ids.now = ap (λ z. iter_rest z.a.a) whole ∙ ap (λ z. iter_rest z.a) c.zip-id-items.ensures.first ∙ ap iter_rest c.zip.ensures.first ∙ c.iter.ensures.rest in
    let numbers : iter_rest c.into_iter-id-iterator.result.a.b ≡ a.numbers.now = ap (λ z. iter_rest z.a.b) whole ∙ ap (λ z. iter_rest z.b) c.zip-id-items.ensures.first ∙ c.zip.ensures.second.0 in
    let places : iter_rest c.into_iter-id-iterator.result.b ≡ a.places.now = ap (λ z. iter_rest z.b) whole ∙ c.zip-id-items.ensures.second.0 in
    rw (ids, numbers, places)
    (c.requires.numbers_long, c.requires.places_long, omega arith, omega arith, refl, [], put-none a.text.now 0 (omega arith), far_none (columns a.aggregates.now a.ranks.now a.percentiles.now a.bands.now) a.ids.now a.numbers.now a.places.now)

pub loop-id-preserved : goal.loop-id-preserved
loop-id-preserved c =
    let a = c.args in
    let l = c.loop-id in
    let s = c.in-Some in
    let put = c.append-end in
    let columns_are = columns a.aggregates.now a.ranks.now a.percentiles.now a.bands.now in
    -- the student is the first of those who are left
    let id = s.field-0-0-0.now in
    let number = s.field-0-0-1.now in
    let place = s.field-0-1.now in
    let ids : iter_rest l.id-iterator.a.a ≡ id ∷ iter_rest c.next.new.self.a.a = s.ensures.steps.0.0 in
    let numbers : iter_rest l.id-iterator.a.b ≡ number ∷ iter_rest c.next.new.self.a.b = s.ensures.steps.0.1 in
    let places : iter_rest l.id-iterator.b ≡ place ∷ iter_rest c.next.new.self.b = s.ensures.steps.1 in
    let added : (shown c.if-number-eq0.line ≡ line_noted columns_are l.j id number place) × (c.if-number-eq0.j ≡ after_noted l.j number) × (length (shown c.if-number-eq0.line) ≤ line_bytes) × (c.if-number-eq0.j ≤ l.j + 1) =
    elim c.if-number-eq0.branch [
      | then-number-eq0 w ↦
          let adds = eligible-adds columns_are l.j id number place w.if-number-eq0.true in
          let aggregate : w.unwrap_or-aggregate.result ≡ get_or a.aggregates.now l.j 0 = w.unwrap_or-aggregate.ensures ∙ ap (λ o. unwrap_or o 0) w.copied.ensures ∙ w.get.ensures.lookup.4 (omega arith) 0 in (
            ap shown w.line-is ∙ w.student_line-line.ensures.same ∙ ap (λ (n : ℕ). student_line id n (get_or a.ranks.now l.j 0) (get_or a.percentiles.now l.j 0) (get_or a.bands.now l.j 0)) aggregate ∙ sym adds.0,
            w.j-is ∙ sym adds.1,
            omega (arith, ap length (ap shown w.line-is), shown-short w.student_line-line.ensures),
            omega (arith, w.j-is),
          )
      | else-number-eq0 w ↦
          let adds = refused-adds columns_are l.j id number place w.if-number-eq0.false in (
            ap shown w.line-is ∙ w.refused_line-line.ensures.same ∙ ap (λ (n : ℕ). refused_line id number n) w.from.ensures ∙ sym adds.0,
            w.j-is ∙ sym adds.1,
            omega (arith, ap length (ap shown w.line-is), shown-short w.refused_line-line.ensures),
            omega (arith, w.j-is),
          )
    ] in (
      omega (arith, l.invariant.0, ap length ids, ap length numbers),
      omega (arith, l.invariant.1, ap length ids, ap length places),
      omega (arith, l.invariant.2, ap length ids, added.3),
      omega (arith, l.invariant.3, ap length ids, put.ensures.ends, added.2),
      put.auto.text ∙ l.invariant.4,
      l.invariant.5 ++ shown c.if-number-eq0.line,
      put-more a.text.now l.text put.new.text 0 l.end put.result l.invariant.5 (shown c.if-number-eq0.line) l.invariant.6 put.ensures (omega arith),
      far-more l.invariant.7 id number place c.if-number-eq0.j (shown c.if-number-eq0.line) _ _ _ ids numbers places added.0 added.1,
    )

pub returns : goal.returns
returns c =
    let l = c.loop-id in
    let ended : length (iter_rest l.id-iterator.a.b) ≡ 0 =
    ⊎_elim (λ both. ⊎_elim (λ e. omega (arith, e.1.0, l.invariant.0)) (λ e. e.1.0) both.1) (λ e. omega (arith, e.1.0, l.invariant.0, l.invariant.1)) c.in-None.ensures.steps in
    (subst (Put c.args.text.now l.text 0 l.end) (sym (far-all l.invariant.7 ended)) l.invariant.6, omega (arith, l.invariant.3))

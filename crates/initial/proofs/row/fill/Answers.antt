use Rattle.firsts.specs.Row.{score_in, row_for}
use Rattle.firsts.specs.InnerAmong.{score_among}
use Rattle.catalogue.specs.Kinds.{number, is_vet}
use Rattle.catalogue.specs.declared.kinds.Kind.{Kind}
use Rattle.catalogue.specs.declared.kinds.Kind.TheVariants.{General, Extension, ExternalExamination, Applied, ShortCourse, Vet}
use Rattle.scores.specs.Rows.{cleared, missing_row, stored}
use Rattle.initial.specs.Inner.{Writable}
use Rattle.scores.proofs.Slotted.{missing-row, row-cleared, row-stored}
use Rattle.paper.specs.Limits.{score_parts, missing}
use borrow.Author.Tests.{eq-eqb, ne_eqb}
use native.Mathlib.Omega.{arith}
use Prim.Native.Nat.{ℕ, ◌*◌}
use mathlib.Core.List.{List}
use mathlib.Core.Path.{◌≡◌, refl, sym, ap, ◌∙◌}
use mathlib.Core.Bool.{false}
use borrow.Author.Rules.{rules}
use Rattle.initial.proofs.row.fill.Goals as goal

-- the row is missing as soon as it is cleared
cleared_row : {kind : ℕ} {counts : List ℕ} {all : ℕ} {row row' : List ℕ} → Writable kind counts all row → row' ≡ cleared row 0 → row' ≡ missing_row
cleared_row {row = row} w e = e ∙ row-cleared row w.whole

-- a kind that is not VET
not_vet : (kind : Kind) → (kind ≡ Vet → ⊥) → is_vet (number kind) ≡ false
not_vet General n = refl
not_vet Extension n = refl
not_vet ExternalExamination n = refl
not_vet Applied n = refl
not_vet ShortCourse n = refl
not_vet Vet n = absurd (n refl)

pub returns-in-Vet : goal.returns-in-Vet
unfolding row_for
returns-in-Vet c =
    c.store.ensures
    ∙ ap (λ (row : List ℕ). stored row 0 1 (50 * score_parts)) (cleared_row c.requires c.clear.ensures ∙ missing-row)
    ∙ row-stored (λ slot. missing) 1 (50 * score_parts) (omega arith) (omega arith)
    ∙ ap (λ (kind : Kind). row_for (number kind) c.args.counts.now) (sym c.in-Vet.is)

pub write-requires : goal.write-requires
write-requires c =
    (record { long = c.requires.long; all_are = c.requires.all_are; most = c.requires.most; whole = search rules }, c.if-total-gt0.true, cleared_row c.requires c.clear.ensures)

pub returns-in_default : goal.returns-in_default
unfolding row_for score_in score_among
returns-in_default c =
    let v = not_vet c.args.kind c.in_default.not-Vet in
    c.write.ensures ∙ simp (v, ← c.requires.all_are, ne_eqb c.args.total 0 (λ e. omega (arith, c.if-total-gt0.true))) refl

pub returns-else-total-gt0 : goal.returns-else-total-gt0
unfolding row_for
returns-else-total-gt0 c =
    let v = not_vet c.args.kind c.in_default.not-Vet in
    cleared_row c.requires c.clear.ensures ∙ simp (v, ← c.requires.all_are, eq-eqb c.args.total 0 (omega arith)) refl

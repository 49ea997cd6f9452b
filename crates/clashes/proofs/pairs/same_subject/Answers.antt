use Rattle.clashes.proofs.Masking.{marked-yes, marked-no}
use Rattle.paper.proofs.Booleans.{first-false}
use native.Mathlib.Omega.{arith}
use mathlib.Core.Path.{sym}
use Rattle.clashes.proofs.pairs.same_subject.Goals as goal

pub returns-then-usable-j-ne0 : goal.returns-then-usable-j-ne0
returns-then-usable-j-ne0 c =
    simp (marked-yes c.args.usable c.args.j (omega (arith, c.requires.later.few, c.requires.later.one_of, c.requires.before)) c.if-usable-j-ne0.true, ← c.subject_at.ensures, ← c.subject_at-then-usable-j-ne0.ensures)

pub returns-else-usable-j-ne0 : goal.returns-else-usable-j-ne0
returns-else-usable-j-ne0 c =
    rw c.if-usable-j-ne0.false (sym (first-false _ _ (marked-no c.args.usable c.args.j (omega (arith, c.requires.later.few, c.requires.later.one_of, c.requires.before)) c.if-usable-j-ne0.false)))

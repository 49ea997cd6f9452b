use Rattle.curve.specs.Population.{E, Eof}
use Rattle.paper.specs.Limits.{ages}
use Rattle.paper.specs.Lists.{sum}
use Rattle.paper.proofs.Listing.{sum_step}
use Rattle.std.proofs.lemmas.List.{get_or-take, get_or-drop}
use native.Mathlib.Omega.{arith}
use Prim.Native.Nat.{ℕ, ◌+◌, ◌-◌, ◌<◌}
use lib.ListN.{length, get_or, take, drop}
use mathlib.Core.List.{List}
use mathlib.Core.Path.{◌≡◌, refl, ap, ◌∙◌}
use Rattle.curve.proofs.figures.eligible.Goals as goal

-- an entry of the last five figures
entry_after : (figures : List ℕ) (age : ℕ) → age < length figures - ages → get_or (take (length figures - ages) (drop ages figures)) age 0 ≡ Eof figures age
entry_after figures age h =
    let e : ages + age ≡ age + ages = omega arith in
    get_or-take _ (drop ages figures) age 0 h ∙ get_or-drop ages figures age 0 ∙ ap (λ (i : ℕ). get_or figures i 0) e

pub loop-e-init : goal.loop-e-init
unfolding sum
loop-e-init c = (refl, omega arith)

pub loop-e-preserved : goal.loop-e-preserved
loop-e-preserved c =
    let f = c.args.figures.now in
    let age = c.loop-e.e-index in
    let e = entry_after f age (omega arith) in
    (omega (arith, sum_step age (Eof f), e, c.from-s.ensures), omega (arith, e, c.from-s.ensures, c.requires.each (age + ages)))

pub returns : goal.returns
unfolding E
returns c =
    let e : c.loop-e.e-index ≡ ages = omega arith in
    (c.loop-e.invariant.0 ∙ ap (λ (n : ℕ). sum n (Eof c.args.figures.now)) e, omega arith)

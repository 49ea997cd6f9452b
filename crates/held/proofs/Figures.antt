-- Rules with all places at a field's offset, and the number of the figures.
use Prim.Native.Nat.{ℕ}
use native.Mathlib.Omega.{arith}
use mathlib.Core.Path.{◌≡◌, sym, ap, ◌∙◌}
use mathlib.Core.Bool.{true, false, not, true≢false}
use mathlib.Core.List.{List, [], ◌∷◌}
use lib.ListN.{length}
use lib.Dec.{eqb}
use borrow.Author.Tests.{eq-eqb}
use Rattle.paper.specs.Limits.{figure_count}
use Rattle.paper.specs.Rulings.{Fault, ◌at◌, number_of, refused, Rule, ◌⇒◌, judged}
use Rattle.paper.proofs.Ruled.{Unbroken}
use Rattle.paper.proofs.Listing.{length-listed}
use Rattle.held.specs.Taking.{figures_in}
use Rattle.held.specs.Judging.{all_at}

-- the same rules are unbroken
pub kept_at : (p : ℕ) (rules : List Rule) → Unbroken rules → Unbroken (all_at p rules)
kept_at p [] k = tt
kept_at p (test ⇒ n at q ∷ rules) k = (k.0, kept_at p rules k.1)

pub at-kept : (p : ℕ) (rules : List Rule) → Unbroken (all_at p rules) → Unbroken rules
at-kept p [] k = tt
at-kept p (test ⇒ n at q ∷ rules) k = (k.0, at-kept p rules k.1)

-- ten figures are not refused for their number
pub ten-figures : (v : List ℕ) → length (figures_in v) ≡ figure_count
ten-figures v = length-listed 0 figure_count _

pub ten-kept : (f : List ℕ) → length f ≡ figure_count → not (eqb (length f) figure_count) ≡ true → ⊥
ten-kept f l e = true≢false (sym e ∙ ap not (eq-eqb _ _ l))

-- of rules, beside what the code needs now: the same rules are broken
pub refused-at : {A B : Type 0} (p : ℕ) (rules : List Rule) (u : A) (w : B) (f : Fault) → judged rules u ≡ refused f → judged (all_at p rules) w ≡ refused (number_of f at p)
refused-at p [] u w f e = absurd (let z : ◌≡◌ {A = ℕ} 0 1 = cc in omega arith)
refused-at p (true ⇒ n at q ∷ rules) u w f e = let z : n at q ≡ f = cc in ap (λ (g : Fault). refused (number_of g at p)) z
refused-at p (false ⇒ n at q ∷ rules) u w f e = refused-at p rules u w f e

-- What C gets tells the outcome back: two outcomes of the paper's table with one struct are equal. And how C reads it.
use Prim.Native.Nat.{ℕ}
use native.Mathlib.Omega.{arith}
use mathlib.Core.Path.{◌≡◌, refl, ap}
use Rattle.paper.specs.Rulings.{Fault, ◌at◌, Outcome, accepted, refused, values_or, number_of, place_of}
use Rattle.paper.proofs.Ruled.{Refusing, some_number}
use Rattle.sets.specs.declared.BestSet.{BestSet}
use Rattle.curve.specs.declared.Participation.{Participation}
use Rattle.told.specs.Telling.{told, Reads}
use Rattle.told.specs.Best.{flat_best, no_values as noBest}
use Rattle.told.specs.Participation.{flat_curve, no_values as noCurve}
use Rattle.told.specs.Placing.{flat_placed}
use Rattle.told.specs.Text.{flat_text}
use Rattle.told.specs.declared.telling.Told.{Told}
use Rattle.told.specs.declared.best.Best.{Best}
use Rattle.told.specs.declared.participation.Curve.{Curve}

-- a fault is its number and its place
same-fault : (f g : Fault) → number_of f ≡ number_of g → place_of f ≡ place_of g → f ≡ g
same-fault (a at b) (c at d) p q = λ i. p i at q i

-- what is told, with the values, tells the outcome back
told_back : {A : Type 0} (none : A) (o p : Outcome A) → Refusing o → Refusing p → told o ≡ told p → values_or none o ≡ values_or none p → o ≡ p
told_back {A = A} none (accepted u) (accepted v) g h e d = ap accepted d
told_back {A = A} none (accepted u) (refused f) g h e d = absurd (omega (arith, some_number f h, ap (λ (t : Told). t.refusal) e))
told_back {A = A} none (refused f) (accepted v) g h e d = absurd (omega (arith, some_number f g, ap (λ (t : Told). t.refusal) e))
told_back {A = A} none (refused f) (refused k) g h e d = ap refused (same-fault f k (ap (λ (t : Told). t.refusal) e) (ap (λ (t : Told). t.place) e))

-- and C reads it so
reads : {A : Type 0} (none : A) (o : Outcome A) → Refusing o → Reads none o (told o) (values_or none o)
reads none (accepted v) g = record { tells = refl; given = refl }
reads none (refused f) g = record { tells = refl; some = some_number f g; nothing = refl }

-- for each struct: the outcome is told back, and C reads it
abbrev best_values : Best → BestSet
best_values s = record { aggregate = s.aggregate; set = s.set }

pub best-back : (o p : Outcome BestSet) → Refusing o → Refusing p → flat_best o ≡ flat_best p → o ≡ p
best-back o p g h e = told_back noBest o p g h (ap (λ s. s.told) e) (ap best_values e)

pub best-reads : (o : Outcome BestSet) → Refusing o → Reads noBest o (flat_best o).told (best_values (flat_best o))
best-reads = reads noBest

abbrev curve_values : Curve → Participation
curve_values s = record { population = s.population; rate = s.rate }

pub curve_back : (o p : Outcome Participation) → Refusing o → Refusing p → flat_curve o ≡ flat_curve p → o ≡ p
curve_back o p g h e = told_back noCurve o p g h (ap (λ s. s.told) e) (ap curve_values e)

pub curve_reads : (o : Outcome Participation) → Refusing o → Reads noCurve o (flat_curve o).told (curve_values (flat_curve o))
curve_reads = reads noCurve

-- ranks and first scores have no values
pub rank-back : (o p : Outcome (Unit {0})) → Refusing o → Refusing p → told o ≡ told p → o ≡ p
rank-back o p g h e = told_back tt o p g h e refl

pub rank-reads : (o : Outcome (Unit {0})) → Refusing o → Reads tt o (told o) tt
rank-reads = reads tt

pub placed-back : (o p : Outcome ℕ) → Refusing o → Refusing p → flat_placed o ≡ flat_placed p → o ≡ p
placed-back o p g h e = told_back 0 o p g h (ap (λ s. s.told) e) (ap (λ s. s.remainder) e)

pub placed-reads : (o : Outcome ℕ) → Refusing o → Reads 0 o (flat_placed o).told (flat_placed o).remainder
placed-reads = reads 0

pub text_back : (o p : Outcome ℕ) → Refusing o → Refusing p → flat_text o ≡ flat_text p → o ≡ p
text_back o p g h e = told_back 0 o p g h (ap (λ s. s.told) e) (ap (λ s. s.length) e)

pub text_reads : (o : Outcome ℕ) → Refusing o → Reads 0 o (flat_text o).told (flat_text o).length
text_reads = reads 0

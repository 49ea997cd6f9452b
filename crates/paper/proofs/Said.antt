-- What follows from what an answer says.
use mathlib.Core.Path.{◌≡◌, refl, sym, ap, ◌∙◌}
use mathlib.Core.List.{List, ◌++◌}
use Rattle.std.proofs.Common.{Result, Ok, Err}
use Rattle.paper.specs.Promises.{said, answered, Tells}
use Rattle.paper.specs.Refusals.{fault}
use Rattle.paper.specs.Rulings.{accepted, refused, Rule, judged}
use Rattle.paper.specs.declared.refusal.Refusal.{Refusal}
use Rattle.paper.proofs.Ruled.{refusal-fault, Unbroken, all_unbroken, unbroken_all, before-refused, after-unbroken, any_values}

-- it tells the answer, whatever the values
pub tells : {A : Type 0} → Tells {R = Result A Refusal} {A = A} said Ok Err
tells {A} = record { accepting = λ v. refl; refusing = λ x. refl; told = told }
  where
    told : (r : Result A Refusal) → answered Ok Err (said r) ≡ r
    told (Ok v) = refl
    told (Err x) = ap Err (refusal-fault x)

-- what a screening refuses by its rules they refuse, and what it clears they accept, whatever the values
module _ (rules : List Rule) {verdict : Result (Unit {0}) Refusal} (e : said verdict ≡ judged rules tt) where
  pub screened_refused : {A : Type 0} (values : A) {x : Refusal} → verdict ≡ Err x → refused (fault x) ≡ judged rules values
  screened_refused values {x} r = sym (any_values rules tt values (fault x) (sym e ∙ ap said r))

  pub screened_kept : verdict ≡ Ok tt → Unbroken rules
  screened_kept r = all_unbroken rules tt tt (sym e ∙ ap said r)

  pub screened_clear : {A : Type 0} (values : A) → verdict ≡ Ok tt → accepted values ≡ judged rules values
  screened_clear values r = sym (unbroken_all rules values (screened_kept r))

  -- before other rules it decides if it refuses; once it clears they do
  pub screened_first : (more : List Rule) {x : Refusal} → verdict ≡ Err x → said {A = Unit {0}} (Err x) ≡ judged (rules ++ more) tt
  screened_first more {x} r = sym (before-refused rules more tt tt (fault x) (sym e ∙ ap said r))

  pub screened_next : (more : List Rule) → verdict ≡ Ok tt → judged {A = Unit {0}} (rules ++ more) tt ≡ judged more tt
  screened_next more r = after-unbroken rules more tt (screened_kept r)

-- What the fields come to is what is owed.
use Prim.Native.Nat.{ℕ, ◌<◌, ◌≤◌}
use native.Mathlib.Omega.{arith}
use mathlib.Core.Path.{◌≡◌, refl, sym, ap, ◌∙◌}
use mathlib.Core.List.{List}
use Rattle.std.proofs.Common.{Result, Ok, Err}
use Rattle.std.specs.Result.{IsErrAnd}
use Rattle.std.proofs.lemmas.Result.{err_from_is_err_and}
use lib.ListN.{length}
use borrow.Author.Tests.{lt-ltb}
use Rattle.paper.specs.Limits.{most_bytes}
use Rattle.paper.specs.Rulings.{Fault, Outcome, accepted, refused, mapped, values_or}
use Rattle.paper.specs.Refusals.{fault}
use Rattle.paper.specs.Promises.{said}
use Rattle.paper.specs.declared.refusal.Refusal.{Refusal}
use Rattle.paper.specs.declared.refusal.Refusal.TheVariants.{TooMany}
use Rattle.catalogue.specs.Catalogue.{subjects}
use Rattle.held.specs.Held.{Held, nothing}
use Rattle.held.specs.Reading.{body, reading}
use Rattle.held.specs.Promise.{summary_of, Lent, written, ruling, Promise}
use Rattle.held.specs.declared.Summary.{Summary}
use Rattle.held.proofs.Promised.{small}
use Rattle.cohort.specs.Inner.{verdict_on, told, Whole}
use Rattle.cohort.specs.declared.steps.SoFar.{SoFar}

pub large_owed : (file : List ℕ) (before : Lent) → most_bytes < length file → Promise file before (Err (TooMany most_bytes)) before
unfolding reading
large_owed file before h = record { says = simp (lt-ltb _ _ h); leaves = refl }

said-refused : {A B : Type 0} (g : A → B) (o : Outcome A) (x : Fault) → mapped g o ≡ refused x → o ≡ refused x
said-refused g (accepted v) x e = absurd (let z : ◌≡◌ {A = ℕ} 0 1 = cc in omega arith)
said-refused g (refused y) x e = let z : y ≡ x = cc in ap refused z

-- what the judging refuses is refused: by the reading, and by the answer, one that a `?` returns too
pub stop_reads : (file : List ℕ) (x : Fault) → length file ≤ most_bytes → refused x ≡ verdict_on file → reading file ≡ refused x
stop_reads file x h e = small file h ∙ said-refused (λ held. tt {0}) (body file) x (sym e)

pub stop_says : (file : List ℕ) (x : Refusal) → length file ≤ most_bytes → refused (fault x) ≡ verdict_on file → said {A = Summary} (Err x) ≡ ruling file
stop_says file x h e = sym (ap (mapped summary_of) (stop_reads file (fault x) h e))

pub stop_owed : (file : List ℕ) (before : Lent) (x : Refusal) → length file ≤ most_bytes → refused (fault x) ≡ verdict_on file → Promise file before (Err x) before
stop_owed file before x h e = record { says = stop_says file x h e; leaves = refl }

pub exit_says : (file : List ℕ) (r : Result Summary Refusal) (x : Refusal) → IsErrAnd r (λ y. y ≡ x) → length file ≤ most_bytes → refused (fault x) ≡ verdict_on file → said r ≡ ruling file
exit_says file r x i h e = let p = err_from_is_err_and r i in rw (p.1, p.2) (stop_says file x h e)

pub go_owed : (file : List ℕ) (before b : Lent) (so : SoFar) → length file ≤ most_bytes → Whole file before so b → Promise file before (Ok (told so)) b
go_owed file before b so h w =
    let sh = w.shows in
    let e : reading file ≡ accepted w.held = small file h ∙ w.read in
    let n : so.far.subjects ≡ subjects w.held.catalogue = omega (arith, w.counts.fives) in
    let values : said {A = Summary} (Ok (told so)) ≡ accepted (summary_of w.held)
    = λ i. accepted (record { year = sh.year i; subjects = n i; students = w.counts.number i; population = sh.population i; rate = sh.rate_is i }) in
    let all : b ≡ written w.held before
    = λ i. record { catalogue = (sh.rest_is i).catalogue; table = w.table.is i; figures = (sh.rest_is i).figures; ids = w.ids.is i; counts = (sh.rest_is i).counts; results = (sh.rest_is i).results } in
    record { says = values ∙ sym (ap (mapped summary_of) e); leaves = all ∙ sym (ap (λ (o : Outcome Held). written (values_or nothing o) before) e) }

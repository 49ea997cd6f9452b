-- The computed answer is permitted, and no other is.
use Prim.Native.Nat.{ℕ, ◌<◌, ◌^◌}
use mathlib.Core.Path.{◌≡◌, refl}
use mathlib.Core.Bool.{not}
use mathlib.Core.List.{List, [], ◌∷◌, ◌++◌}
use lib.Pow.{pow_mono}
use Rattle.paper.specs.Limits.{most_results}
use Rattle.std.proofs.Common.{Result}
use Rattle.paper.specs.Promises.{Permits, said, answer}
use Rattle.paper.specs.declared.refusal.Refusal.{Refusal}
use Rattle.paper.specs.Rulings.{Outcome, accepted, refused, ◌⇒◌, ◌at◌}
use Rattle.paper.proofs.Promised as every
use Rattle.paper.proofs.Said.{tells}
use Rattle.paper.proofs.Ruled.{all_unbroken, unbroken_all, unbroken_parts, Tabled, Refusing, tabled, tabled_join, tabled_turns}
use Rattle.seek.proofs.Digits.{all_below}
use Rattle.results.specs.Results.{Student, held}
use Rattle.results.specs.Counting.{shows_english}
use Rattle.sets.specs.Admissible.{Admissible}
use Rattle.sets.specs.Rules.{result_rules, turn_rules, repeat_rule, student_rules}
use Rattle.sets.specs.Promise.{WellFormed, ruling, total_of, Answered, RuledBy, Ruled, Promise}
use Rattle.sets.specs.Computed.{Choice, none, one, chosen, admissible, told, decided, computed}
use Rattle.sets.specs.declared.BestSet.{BestSet}
use Rattle.sets.proofs.Formed.{kept-held, few-held}
use Rattle.sets.proofs.Choosing.{Led, chosen-led}
use Rattle.sets.proofs.Deciding.{test_admissible, admissible-test}
use Rattle.sets.proofs.Promised.{ruled-once}

-- an admissible set is one of the results held
set-held : (s : Student) (set : ℕ) → Admissible s set → set < 2 ^ held s
set-held s set h = all_below most_results (held s) set h.bits (λ i m. kept-held s i (h.each i m))

-- what is accepted up to 7 is well-formed
accepted-formed : (s : Student) (table : List ℕ) (u : Unit {0}) → ruling s table ≡ accepted u → WellFormed s table
accepted-formed s table u e =
    let seven = not (shows_english s) ⇒ 7 at 0 ∷ [] in
    unbroken_all (student_rules s table) tt (unbroken_parts (student_rules s table) seven (all_unbroken (student_rules s table ++ seven) tt u e)).0

-- the choice among all sets of the results is what is asked
module _ (s : Student) (table : List ℕ) where
  choice_answers : (c : Choice) → Led (admissible s) (total_of s table) (2 ^ held s) c → Answered s table (told s table c)
  choice_answers none h = (refl, λ set a. h set (set-held s set a) (admissible-test s set a))
  choice_answers (one set) h =
      record {
        admissible = test_admissible s set h.passes;
        aggregate = refl;
        most = λ t a. h.most t (set-held s t a) (admissible-test s t a);
        first = λ t a. h.first t (set-held s t a) (admissible-test s t a);
      }

  pub computed-ruled : Ruled s table (computed s table)
  computed-ruled = go (ruling s table) refl
    where
      go : (o : Outcome (Unit {0})) → ruling s table ≡ o → RuledBy s table o (decided s table o)
      go (refused f) e = refl
      go (accepted u) e =
          choice_answers (chosen (admissible s) (total_of s table) (2 ^ held s))
          (chosen-led (admissible s) (total_of s table) (2 ^ held s) (pow_mono (few-held s table (accepted-formed s table u e))))

  -- each rule gives a number and place of the paper's table
  rules_tabled : Tabled (student_rules s table ++ (not (shows_english s) ⇒ 7 at 0 ∷ []))
  rules_tabled =
      tabled_join (student_rules s table) (not (shows_english s) ⇒ 7 at 0 ∷ [])
      (λ e. refl, (λ e. refl, (λ e. refl, (λ e. refl, (λ e. refl, (λ e. refl, (λ e. refl, turns)))))))
      (λ e. refl, tt)
    where
      turns : Tabled (turn_rules s table ++ (repeat_rule s ∷ []))
      turns =
          tabled_join (turn_rules s table) (repeat_rule s ∷ [])
          (tabled_turns (held s) (result_rules s table) (λ i. (λ e. refl, (λ e. refl, (λ e. refl, tt)))))
          (λ e. refl, tt)

  pub computed-tabled : Refusing (computed s table)
  computed-tabled = go (ruling s table) (tabled (student_rules s table ++ (not (shows_english s) ⇒ 7 at 0 ∷ [])) tt rules_tabled)
    where
      choice : (c : Choice) → Refusing (told s table c)
      choice none = refl
      choice (one set) = tt

      go : (o : Outcome (Unit {0})) → Refusing o → Refusing (decided s table o)
      go (refused f) h = h
      go (accepted u) h = choice (chosen (admissible s) (total_of s table) (2 ^ held s))

  -- what is computed is permitted, and alone
  pub rules : Permits (Ruled s table) (computed s table)
  rules = record { permitted = computed-ruled; alone = λ o h. ruled-once s table o (computed s table) h computed-ruled }

  -- the computed answer is permitted
  pub meets : Promise s table (answer (computed s table))
  meets = every.meets tells rules every.owes_none computed-tabled

  -- and no other
  pub only : {r : Result BestSet Refusal} → Promise s table r → r ≡ answer (computed s table)
  only p = (every.only tells rules every.owes_none p).0

  -- two permitted answers are equal
  pub determined : {r q : Result BestSet Refusal} → Promise s table r → Promise s table q → r ≡ q
  determined p q = (every.determined tells rules every.owes_none p q).0

  -- what is said is what is computed
  pub said-only : {r : Result BestSet Refusal} → Promise s table r → said r ≡ computed s table
  said-only {r} p = rules.alone (said r) p.says

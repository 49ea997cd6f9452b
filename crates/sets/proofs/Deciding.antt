-- The test of a set decides whether it is admissible.
use Prim.Native.Nat.{ℕ, ◌+◌, ◌<◌, ◌≤◌, ◌^◌}
use mathlib.Core.Path.{◌≡◌, refl, sym, ◌∙◌}
use mathlib.Core.Bool.{Bool, true, false, not, ◌&&◌, true≢false}
use lib.ListN.{length}
use borrow.Author.Tests.{ltb-true, ltb-false, leb-true, eqb-true, lt-ltb, le-ltb, le-leb, eq-eqb, not-true}
use Rattle.paper.proofs.Booleans.{both_true, true_both, not_both, true_not}
use Rattle.paper.proofs.Firsts.{some-has, some_at}
use Rattle.seek.specs.Sets.{In, has, positions, count_over}
use Rattle.paper.specs.Limits.{most_results, members, least_general, most_span}
use Rattle.paper.specs.Words.{◌≤?◌, ◌<?◌, ◌=?◌}
use Rattle.catalogue.specs.Kinds.{english, mathematics}
use Rattle.results.specs.Results.{Student, result}
use Rattle.results.specs.Counting.{general_at, applied_at, strand_at, kept}
use Rattle.sets.specs.Admissible.{NotBoth, identified, OneEach, FiveYears, Admissible}
use Rattle.sets.specs.Computed.{some_in, both, shares, twice, beyond, scattered, admissible}
use Rattle.seek.proofs.Digits.{in_lt}

-- some member has f, or none has
module _ (set : ℕ) (f : ℕ → Bool) where
  member_has : set < 2 ^ most_results → (i : ℕ) → In i set → f i ≡ true → some_in set f ≡ true
  member_has w i m e = some-has most_results (λ j. has set j && f j) i (in_lt most_results set i w m) (true_both (has set i) (f i) (eq-eqb _ _ m) e)

  member_at : some_in set f ≡ true → (i : ℕ) × In i set × (f i ≡ true)
  member_at e =
      let a = some_at most_results (λ j. has set j && f j) e in
      let b = both_true (has set a.0) (f a.0) a.2 in
      (a.0, eqb-true _ _ b.0, b.1)

  no_member : some_in set f ≡ false → set < 2 ^ most_results → (i : ℕ) → In i set → f i ≡ true → ⊥
  no_member e w i m h = true≢false (sym (member_has w i m h) ∙ e)

  none_in : ((i : ℕ) → In i set → f i ≡ true → ⊥) → some_in set f ≡ false
  none_in h = go (some_in set f) refl
    where
      go : (b : Bool) → some_in set f ≡ b → b ≡ false
      go true e = let a = member_at e in absurd (h a.0 a.1 a.2)
      go false e = refl

module _ (s : Student) (set : ℕ) (w : set < 2 ^ most_results) where
  -- not both of a strand
  both_false : (n : ℕ) → both n s set ≡ false → NotBoth n s set
  both_false n e i j mi mj gi si aj sj =
      true≢false
      (sym (true_both _ _
      (member_has set (λ k. general_at s k && strand_at n s k) w i mi (true_both _ _ gi si))
      (member_has set (λ k. applied_at s k && strand_at n s k) w j mj (true_both _ _ aj sj)))
      ∙ e)

  false_both : (n : ℕ) → NotBoth n s set → both n s set ≡ false
  false_both n h =
      not_both (some_in set (λ k. general_at s k && strand_at n s k)) (some_in set (λ k. applied_at s k && strand_at n s k))
      (λ e. let a = member_at set (λ k. general_at s k && strand_at n s k) e in
      let g = both_true (general_at s a.0) (strand_at n s a.0) a.2 in
      none_in set (λ k. applied_at s k && strand_at n s k)
      (λ j m t. let p = both_true (applied_at s j) (strand_at n s j) t in h a.0 j a.1 m g.0 g.1 p.0 p.1))

  -- no two with one identity
  twice-false : twice s set ≡ false → OneEach s set
  twice-false e i j l mi mj pi pj same =
      no_member set (λ k. identified s k && some_in set (shares s k)) e w i mi
      (true_both _ _ pi (member_has set (shares s i) w j mj (true_both _ _ (lt-ltb _ _ l) (true_both _ _ pj (eq-eqb _ _ same)))))

  false_twice : OneEach s set → twice s set ≡ false
  false_twice h =
      none_in set (λ k. identified s k && some_in set (shares s k))
      (λ i mi t. let p = both_true (identified s i) (some_in set (shares s i)) t in found i mi p.0 (member_at set (shares s i) p.1))
    where
      found : (i : ℕ) → In i set → identified s i ≡ true → (j : ℕ) × In j set × (shares s i j ≡ true) → ⊥
      found i mi pi (j, mj, t) =
          let q = both_true (i <? j) (identified s j && (result s i).entry.identity =? (result s j).entry.identity) t in
          let r = both_true (identified s j) ((result s i).entry.identity =? (result s j).entry.identity) q.1 in
          h i j (ltb-true _ _ q.0) mi mj pi r.0 (eqb-true _ _ r.1)

  -- all within five years
  scattered-false : scattered s set ≡ false → FiveYears s set
  scattered-false e i j mi mj = go (beyond s i j) refl
    where
      go : (b : Bool) → beyond s i j ≡ b → (result s j).year ≤ (result s i).year + most_span
      go true z = absurd (no_member set (λ k. some_in set (beyond s k)) e w i mi (member_has set (beyond s i) w j mj z))
      go false z = ltb-false _ _ z

  false_scattered : FiveYears s set → scattered s set ≡ false
  false_scattered h =
      none_in set (λ k. some_in set (beyond s k))
      (λ i mi t. let a = member_at set (beyond s i) t in true≢false (sym a.2 ∙ le-ltb _ _ (h i a.0 mi a.1)))

  -- every member is kept
  each-kept : some_in set (λ i. not (kept s i)) ≡ false → (i : ℕ) → In i set → kept s i ≡ true
  each-kept e i m = go (kept s i) refl
    where
      go : (b : Bool) → kept s i ≡ b → b ≡ true
      go true z = refl
      go false z = absurd (no_member set (λ k. not (kept s k)) e w i m (true_not (kept s i) z))

  kept-each : ((i : ℕ) → In i set → kept s i ≡ true) → some_in set (λ i. not (kept s i)) ≡ false
  kept-each h = none_in set (λ k. not (kept s k)) (λ i m t. true≢false (sym (h i m) ∙ not-true (kept s i) t))

pub test_admissible : (s : Student) (set : ℕ) → admissible s set ≡ true → Admissible s set
unfolding admissible
test_admissible s set e =
    let a = both_true (set <? 2 ^ most_results && length (positions set) =? members) _ e in
    let b = both_true (set <? 2 ^ most_results) (length (positions set) =? members) a.0 in
    let c = both_true (not (some_in set (λ i. not (kept s i))) && least_general ≤? (count_over (general_at s) (positions set))) _ a.1 in
    let d = both_true (not (some_in set (λ i. not (kept s i)))) (least_general ≤? (count_over (general_at s) (positions set))) c.0 in
    let f = both_true (not (both english s set)) _ c.1 in
    let g = both_true (not (both mathematics s set)) _ f.1 in
    let h = both_true (not (twice s set)) (not (scattered s set)) g.1 in
    let w : set < 2 ^ most_results = ltb-true _ _ b.0 in
    record {
      bits = w;
      five = eqb-true _ _ b.1;
      each = each-kept s set w (not-true _ d.0);
      four = leb-true _ _ d.1;
      englishes = both_false s set w english (not-true _ f.0);
      maths = both_false s set w mathematics (not-true _ g.0);
      identities = twice-false s set w (not-true _ h.0);
      years = scattered-false s set w (not-true _ h.1);
    }

pub admissible-test : (s : Student) (set : ℕ) → Admissible s set → admissible s set ≡ true
unfolding admissible
admissible-test s set h =
    let w = h.bits in
    true_both _ _ (true_both _ _ (lt-ltb _ _ w) (eq-eqb _ _ h.five))
    (true_both _ _ (true_both _ _ (true_not _ (kept-each s set w h.each)) (le-leb _ _ h.four))
    (true_both _ _ (true_not _ (false_both s set w english h.englishes))
    (true_both _ _ (true_not _ (false_both s set w mathematics h.maths))
    (true_both _ _ (true_not _ (false_twice s set w h.identities)) (true_not _ (false_scattered s set w h.years))))))

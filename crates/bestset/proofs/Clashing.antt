-- The sets that the search allows, five kept results with at least four General, no two of which clash, are the paper's admissible sets.
use Prim.Native.Nat.{ℕ, zero, suc, ◌+◌, ◌/◌, ◌%◌, ◌≤◌, ◌<◌}
use native.Mathlib.Decide.{dec_lt}
use native.Mathlib.Omega.{arith}
use mathlib.Core.Path.{◌≡◌, refl, sym, ap, ap₂, subst, ◌∙◌}
use mathlib.Core.Bool.{Bool, true, false, ◌&&◌, ◌||◌, true≢false}
use mathlib.Core.Logic.{⊎_elim}
use mathlib.Core.List.{List}
use borrow.Author.Tests.{ltb-false, leb-true, eqb-true, eqb-false, not-true, eq-eqb, ne_eqb, le-ltb}
use Rattle.paper.specs.Limits.{most_results, most_span}
use Rattle.paper.specs.Lists.{pick}
use Rattle.paper.specs.Words.{◌≤?◌, ◌=?◌, ◌≠?◌}
use Rattle.paper.proofs.Booleans.{both_true, true_both, not_both, true_not}
use Rattle.catalogue.specs.Kinds.{english, mathematics, general, external_examination, applied}
use Rattle.seek.specs.Sets.{In, has, ones_from, positions, sum_over, count_over, comes_to}
use Rattle.seek.specs.InnerTest.{value_at, Apart, Allowed}
use Rattle.seek.specs.declared.search.Test.{Test}
use Rattle.seek.proofs.Digits.{digit, bit-zero, bit-suc, ones_from-0, ones_from-1}
use Rattle.results.specs.Results.{Student, held, result}
use Rattle.results.specs.Scoring.{own_identity, identity_at}
use Rattle.results.specs.Counting.{general_at, applied_at, strand_at, kept}
use Rattle.sets.specs.Admissible.{NotBoth, identified, OneEach, FiveYears, Admissible}
use Rattle.sets.specs.Promise.{WellFormed}
use Rattle.sets.proofs.Formed.{kept-held, identity_known}
use Rattle.clashes.specs.InnerMasks.{MaskOf}
use Rattle.clashes.proofs.Masking.{has-test}
use Rattle.bestset.specs.InnerMarks.{AllRead}
use Rattle.clashes.specs.InnerPairs.{far_in, across, clash_in, HoldsBelow, AllCompared}
use Rattle.clashes.specs.declared.masks.Masks.{Masks}
use Rattle.bestset.proofs.Usable.{kept-is}

-- ---- which results clash

-- the one has the one test and the other the other
abbrev between : (ℕ → Bool) → (ℕ → Bool) → ℕ → ℕ → Bool
between f g i j = f i && g j

-- result i is a General of a strand; an Applied of it
abbrev general_of : ℕ → Student → ℕ → Bool
general_of strand s i = general_at s i && strand_at strand s i

abbrev applied_of : ℕ → Student → ℕ → Bool
applied_of strand s i = applied_at s i && strand_at strand s i

-- two have one identity; 0 is none
abbrev shared_at : Student → ℕ → ℕ → Bool
shared_at s i j = identity_at s i ≠? 0 && identity_at s j =? identity_at s i

-- results i and j may not stand in one set: a General and an Applied of English, or of Mathematics; too far in years; of one identity
unfoldable pub clash_at : Student → ℕ → ℕ → Bool
clash_at s i j =
    (between (general_of english s) (applied_of english s) i j
    || (between (applied_of english s) (general_of english s) i j
    || (between (general_of mathematics s) (applied_of mathematics s) i j
    || between (applied_of mathematics s) (general_of mathematics s) i j)))
    || (far_in s.results i j || shared_at s i j)

-- what the search reads is of this student
pub record TestOf (s : Student) (test : Test) (clash : ℕ → ℕ) : Type 0 where
  pub kept_are : MaskOf (kept s) (held s) test.kept
  pub general_are : MaskOf (general_at s) (held s) test.general
  pub clash_are : (i : ℕ) → i < held s → HoldsBelow (clash_at s i) i (clash i)

-- ---- a test that holds of no two members, the later and the earlier

abbrev NoTwo : (ℕ → ℕ → Bool) → ℕ → Type 0
NoTwo test set = (i j : ℕ) → j < i → In i set → In j set → test i j ≡ false

never : (b : Bool) → (b ≡ true → ⊥) → b ≡ false
never true h = absurd (h refl)
never false h = refl

either_same : {a b c d : Bool} → a ≡ b → c ≡ d → (a || c) ≡ (b || d)
either_same p q = ap₂ (λ (x y : Bool). x || y) p q

neither : (a b : Bool) → (a || b) ≡ false → (a ≡ false) × (b ≡ false)
neither true b e = absurd (true≢false e)
neither false b e = (refl, e)

-- of two tests, where it is so of each
module _ (f g : ℕ → ℕ → Bool) (set : ℕ) where
  no_two_parts : NoTwo (λ i j. f i j || g i j) set → NoTwo f set × NoTwo g set
  no_two_parts h = (λ i j l p q. (neither (f i j) (g i j) (h i j l p q)).0, λ i j l p q. (neither (f i j) (g i j) (h i j l p q)).1)

  parts_no_two : NoTwo f set → NoTwo g set → NoTwo (λ i j. f i j || g i j) set
  parts_no_two h k i j l p q = either_same (h i j l p q) (k i j l p q)

-- of a test of each of the two
module _ (f g : ℕ → Bool) (set : ℕ) where
  no_two_between : NoTwo (between f g) set → (i j : ℕ) → j < i → In i set → In j set → f i ≡ true → g j ≡ true → ⊥
  no_two_between h i j l p q x y = true≢false (sym (true_both (f i) (g j) x y) ∙ h i j l p q)

  between-no_two : ((i j : ℕ) → j < i → In i set → In j set → f i ≡ true → g j ≡ true → ⊥) → NoTwo (between f g) set
  between-no_two h i j l p q = not_both (f i) (g j) (λ x. never (g j) (λ y. h i j l p q x y))

-- any two members: each with itself, or the later and the earlier, either way round
any_two : (R : ℕ → ℕ → Type 0) (set : ℕ) → ((i : ℕ) → In i set → R i i) → ((i j : ℕ) → j < i → In i set → In j set → R i j × R j i)
    → (i j : ℕ) → In i set → In j set → R i j
any_two R set self two i j p q = go (dec_lt i j) (dec_lt j i)
  where
    go : Dec (i < j) → Dec (j < i) → R i j
    go (yes a) b = (two j i a q p).1
    go (no a) (yes b) = (two i j b p q).0
    go (no a) (no b) = let e : i ≡ j = omega arith in subst (R i) e (self i p)

-- ---- sums over the members

-- of what is the same for each of them
same_sum : (f g : ℕ → ℕ) (k i n : ℕ) → ((j m : ℕ) → m ≡ i + j → In j n → f m ≡ g m) → sum_over f (ones_from k i n) ≡ sum_over g (ones_from k i n)
unfolding ones_from sum_over
same_sum f g zero i n h = refl
same_sum f g (suc k) i n h =
    let rest = same_sum f g k (suc i) (n / 2) (λ j m e p. h (suc j) m (omega arith) (bit-suc j n ∙ p)) in
    ⊎_elim
    (λ (e : n % 2 ≡ 0). rw (ones_from-0 k i n e) rest)
    (λ (e : n % 2 ≡ 1). rw (ones_from-1 k i n e) (ap₂ (λ (x y : ℕ). x + y) (h 0 i (omega arith) (bit-zero n ∙ e)) rest))
    (digit n)

pub same_total : (f g : ℕ → ℕ) (set : ℕ) → ((i : ℕ) → In i set → f i ≡ g i) → comes_to f set ≡ comes_to g set
same_total f g set h = same_sum f g most_results 0 set (λ j m e p. let d : m ≡ j = omega arith in rw d (h j p))

-- ---- at least four General

-- a mask holds the results of a test: as many members of a set are in the mask as have the test
count-test : (f : ℕ → Bool) (n mask : ℕ) → MaskOf f n mask → (set : ℕ) → ((i : ℕ) → In i set → i < n) → count_over (has mask) (positions set) ≡ count_over f (positions set)
unfolding count_over
count-test f n mask h set within =
    same_total (λ i. pick (has mask i) 1 0) (λ i. pick (f i) 1 0) set (λ i p. ap (λ (b : Bool). pick b 1 0) (has-test f n mask h i (within i p)))

-- ---- not both a General and an Applied of a strand

-- a kind is not both
general-not_applied : (s : Student) (i : ℕ) → general_at s i ≡ true → applied_at s i ≡ true → ⊥
general-not_applied s i g a =
    let kind : ℕ = (result s i).entry.kind in
    let l = leb-true kind external_examination (both_true (general ≤? kind) (kind ≤? external_examination) g).1 in
    let e = eqb-true kind applied a in
    omega arith

module _ (k : ℕ) (s : Student) (set : ℕ) where
  no_two_not_both : NoTwo (between (general_of k s) (applied_of k s)) set → NoTwo (between (applied_of k s) (general_of k s)) set → NotBoth k s set
  no_two_not_both h h' =
      any_two (λ i j. general_at s i ≡ true → strand_at k s i ≡ true → applied_at s j ≡ true → strand_at k s j ≡ true → ⊥) set
      (λ i p x y u v. general-not_applied s i x u)
      (λ i j l p q. (
        λ x y u v. no_two_between (general_of k s) (applied_of k s) set h i j l p q (true_both _ _ x y) (true_both _ _ u v),
        λ x y u v. no_two_between (applied_of k s) (general_of k s) set h' i j l p q (true_both _ _ u v) (true_both _ _ x y),
      ))

  not_both_no_two : NotBoth k s set → NoTwo (between (general_of k s) (applied_of k s)) set × NoTwo (between (applied_of k s) (general_of k s)) set
  not_both_no_two d =
      (between-no_two (general_of k s) (applied_of k s) set (λ i j l p q x y. apart i j p q x y), between-no_two (applied_of k s) (general_of k s) set (λ i j l p q x y. apart j i q p y x))
    where
      apart : (i j : ℕ) → In i set → In j set → general_of k s i ≡ true → applied_of k s j ≡ true → ⊥
      apart i j p q x y =
          let u = both_true (general_at s i) (strand_at k s i) x in
          let v = both_true (applied_at s j) (strand_at k s j) y in
          d i j p q u.0 u.1 v.0 v.1

-- ---- no two of kinds 1 or 3 with one identity

module _ (s : Student) (table : List ℕ) (w : WellFormed s table) where
  no_two_each : (set : ℕ) → ((i : ℕ) → In i set → kept s i ≡ true) → NoTwo (shared_at s) set → OneEach s set
  unfolding own_identity
  no_two_each set k h i j l p q x y e =
      let own : identity_at s j ≡ (result s j).entry.identity = rw y in
      let same : identity_at s i ≡ identity_at s j = rw (x, y) e in
      let some = identity_known s table w j (k j q) y in
      true≢false (sym (true_both (identity_at s j ≠? 0) (identity_at s i =? identity_at s j) (true_not _ (ne_eqb (identity_at s j) 0 (λ z. omega arith))) (eq-eqb _ _ same)) ∙ h j i l q p)

each-no_two : (s : Student) (set : ℕ) → OneEach s set → NoTwo (shared_at s) set
unfolding own_identity
each-no_two s set d i j l p q =
    go (identified s i) (identified s j) (result s i).entry.identity (result s j).entry.identity (λ x y e. d j i l q p y x e)
  where
    go : (a b : Bool) (x y : ℕ) → (a ≡ true → b ≡ true → y ≡ x → ⊥) → (pick a x 0 ≠? 0 && pick b y 0 =? pick a x 0) ≡ false
    go false b x y n = refl
    go true false x y n = not_both (x ≠? 0) (0 =? x) (λ t. ne_eqb 0 x (λ e. eqb-false x 0 (not-true _ t) (sym e)))
    go true true x y n = not_both (x ≠? 0) (y =? x) (λ t. ne_eqb y x (n refl refl))

-- ---- all within five years

module _ (s : Student) (set : ℕ) where
  no_two_years : NoTwo (far_in s.results) set → FiveYears s set
  no_two_years h =
      any_two (λ i j. (result s j).year ≤ (result s i).year + most_span) set
      (λ i p. omega arith)
      (λ i j l p q. let n = neither _ _ (h i j l p q) in (ltb-false _ _ n.0, ltb-false _ _ n.1))

  years-no_two : FiveYears s set → NoTwo (far_in s.results) set
  years-no_two d i j l p q = either_same (le-ltb _ _ (d i j p q)) (le-ltb _ _ (d j i q p))

-- ---- the admissible sets

-- no two members clash by the masks exactly where none do by the results
module _ (s : Student) (test : Test) (clash : ℕ → ℕ) (m : TestOf s test clash) (set : ℕ) (within : (i : ℕ) → In i set → i < held s) where
  apart-no_two : Apart clash set → NoTwo (clash_at s) set
  apart-no_two d i j l p q = never (clash_at s i j) (λ t. d i j l p q ((m.clash_are i (within i p)).whole j l t))

  no_two_apart : NoTwo (clash_at s) set → Apart clash set
  no_two_apart d i j l p q x = true≢false (sym ((m.clash_are i (within i p)).sound j l x) ∙ d i j l p q)

module _ (s : Student) (test : Test) (clash : ℕ → ℕ) (m : TestOf s test clash) where
  pub allowed_admissible : (table : List ℕ) → WellFormed s table → (set : ℕ) → Allowed test clash set → Admissible s set
  unfolding clash_at
  allowed_admissible table w set a =
      let each : (i : ℕ) → In i set → kept s i ≡ true = λ i p. m.kept_are.sound i (a.kept i p) in
      let within : (i : ℕ) → In i set → i < held s = λ i p. kept-held s i (each i p) in
      let all = no_two_parts _ _ set (apart-no_two s test clash m set within a.apart) in
      let english-1 = no_two_parts _ _ set all.0 in
      let english-2 = no_two_parts _ _ set english-1.1 in
      let maths = no_two_parts _ _ set english-2.1 in
      let pairs = no_two_parts _ _ set all.1 in
      record {
        bits = a.small;
        five = a.counted.five;
        each = each;
        four = omega (arith, count-test (general_at s) _ test.general m.general_are set within, a.counted.four);
        englishes = no_two_not_both english s set english-1.0 english-2.0;
        maths = no_two_not_both mathematics s set maths.0 maths.1;
        identities = no_two_each s table w set each pairs.1;
        years = no_two_years s set pairs.0;
      }

  pub admissible-allowed : (set : ℕ) → Admissible s set → Allowed test clash set
  unfolding clash_at
  admissible-allowed set a =
      let within : (i : ℕ) → In i set → i < held s = λ i p. kept-held s i (a.each i p) in
      let englishes = not_both_no_two english s set a.englishes in
      let maths = not_both_no_two mathematics s set a.maths in
      record {
        small = a.bits;
        kept = λ i p. m.kept_are.whole i (within i p) (a.each i p);
        counted = record { five = a.five; four = omega (arith, count-test (general_at s) _ test.general m.general_are set within, a.four) };
        apart = no_two_apart s test clash m set within
            (parts_no_two _ _ set
            (parts_no_two _ _ set englishes.0
            (parts_no_two _ _ set englishes.1
            (parts_no_two _ _ set maths.0 maths.1)))
            (parts_no_two _ _ set (years-no_two s set a.years) (each-no_two s set a.identities)));
      }

-- ---- what is read of the results, and compared, is of this student

-- what is in the one mask and in the other has the one test and the other
same-across : (f g : ℕ → Bool) (n one other : ℕ) → MaskOf f n one → MaskOf g n other → (i j : ℕ) → i < n → j < n → across one other i j ≡ between f g i j
same-across f g n one other h k i j l l' = ap₂ (λ (a b : Bool). a && b) (has-test f n one h i l) (has-test g n other k j l')

module _ (s : Student) (table : List ℕ) (masks : Masks) (scores identities : List ℕ) (a : AllRead s table masks scores identities) where
  same-clash : (i j : ℕ) → i < held s → j < held s → clash_in masks identities s.results i j ≡ clash_at s i j
  unfolding clash_in clash_at
  same-clash i j l l' =
      let m = a.masks_are in
      either_same
      (either_same (same-across _ _ _ _ _ m.general_english_is m.applied_english_is i j l l')
      (either_same (same-across _ _ _ _ _ m.applied_english_is m.general_english_is i j l l')
      (either_same (same-across _ _ _ _ _ m.general_maths_is m.applied_maths_is i j l l')
      (same-across _ _ _ _ _ m.applied_maths_is m.general_maths_is i j l l'))))
      (ap₂ (λ (x y : ℕ). far_in s.results i j || (x ≠? 0 && y =? x)) (a.identities_are.each i l) (a.identities_are.each j l'))

-- what the search reads of the masks
abbrev pub test_of : ℕ → Masks → Test
test_of mask masks = record { kept = mask; general = masks.general }

pub test_of_lem : (s : Student) (table : List ℕ) (masks : Masks) (scores identities : List ℕ) (mask : ℕ) (clashes : List ℕ) → AllRead s table masks scores identities
    → AllCompared s.results masks identities mask clashes → TestOf s (test_of mask masks) (value_at clashes)
test_of_lem s table masks scores identities mask clashes a c =
    let same = same-clash s table masks scores identities a in
    record {
      kept_are = subst (λ (f : ℕ → Bool). MaskOf f (held s) mask) (kept-is s masks.usable a.masks_are.usable_are) c.kept_are;
      general_are = a.masks_are.general_are;
      clash_are = λ i l.
          record {
            sound = λ j b p. sym (same i j l (omega arith)) ∙ (c.clashes_are i l).sound j b p;
            whole = λ j b t. (c.clashes_are i l).whole j b (same i j l (omega arith) ∙ t);
          };
    }

-- What the test of an entry means.
use Prim.Native.Nat.{ℕ, ◌≤◌}
use native.Mathlib.Omega.{arith}
use native.Mathlib.Decide.{dec_le}
use mathlib.Core.Path.{◌≡◌, refl, sym, ap}
use mathlib.Core.Bool.{Bool, true, false, not, ◌&&◌, ◌||◌, or-true, false≢true}
use mathlib.Core.Logic.{inl, inr, ⊎_elim}
use lib.Dec.{leb, eqb}
use borrow.Author.Tests.{leb-true, eqb-true, not-false, le-leb, eq-eqb}
use Rattle.paper.specs.Lists.{pick}
use Rattle.paper.specs.Ranges.{within}
use Rattle.paper.proofs.Booleans.{both_true, true_both}
use Rattle.paper.proofs.Ranging.{within-true, true_within}
use Rattle.catalogue.specs.Kinds.{number, general, external_examination, short_course, vet, mathematics, certificate_i, advanced_diploma, is_identified}
use Rattle.catalogue.specs.Catalogue.{kind_fits, strand_fits, level_fits, identity_fits, outside}
use Rattle.catalogue.specs.Meaning.{NoStrand, Identified, Ranged}
use Rattle.catalogue.specs.declared.entries.Entry.{Entry}
use Rattle.catalogue.specs.declared.kinds.Kind.{Kind}
use Rattle.catalogue.specs.declared.kinds.Kind.TheVariants.{General, Extension, ExternalExamination, Applied, ShortCourse, Vet}

-- one of two tests, chosen by a third that says P
chosen : (t a b : Bool) (P : Type 0) → (t ≡ true → P) → (P → t ≡ true) → pick t a b ≡ true → (P → a ≡ true) × ((P → ⊥) → b ≡ true)
chosen true a b P says said e = (λ p. e, λ n. absurd (n (says refl)))
chosen false a b P says said e = (λ p. absurd (false≢true (said p)), λ n. e)

choice : (t a b : Bool) (P : Type 0) → (t ≡ true → P) → (P → t ≡ true) → (P → a ≡ true) → ((P → ⊥) → b ≡ true) → pick t a b ≡ true
choice true a b P says said x y = x (says refl)
choice false a b P says said x y = y (λ p. false≢true (said p))

-- the kinds with an identity
identified : (k : ℕ) → is_identified k ≡ true → Identified k
identified k = go (eqb k general) (eqb-true k general)
  where
    go : (a : Bool) → (a ≡ true → k ≡ general) → (a || eqb k external_examination) ≡ true → Identified k
    go true f e = inl (f refl)
    go false f e = inr (eqb-true k external_examination e)

is-identified : (k : ℕ) → Identified k → is_identified k ≡ true
is-identified k u = ⊎_elim (λ p. rw (eq-eqb k general p)) (λ p. rw (eq-eqb k external_examination p) (or-true (eqb k general))) u

-- a number that a kind has is from General to VET
pub kind_known : (n : ℕ) (kind : Kind) → number kind ≡ n → within general vet n ≡ true
kind_known n General e = ap (within general vet) (sym e)
kind_known n Extension e = ap (within general vet) (sym e)
kind_known n ExternalExamination e = ap (within general vet) (sym e)
kind_known n Applied e = ap (within general vet) (sym e)
kind_known n ShortCourse e = ap (within general vet) (sym e)
kind_known n Vet e = ap (within general vet) (sym e)

module _ (entry : Entry) where
  -- an entry that is not outside its ranges is within them
  pub ranged : outside entry ≡ false → Ranged entry
  unfolding outside
  ranged e =
      let k : ℕ = entry.kind in
      let s : ℕ = entry.strand in
      let l : ℕ = entry.level in
      let d : ℕ = entry.identity in
      let p = both_true (kind_fits entry) (strand_fits entry && (level_fits entry && identity_fits entry)) (not-false _ e) in
      let q = both_true (strand_fits entry) (level_fits entry && identity_fits entry) p.1 in
      let r = both_true (level_fits entry) (identity_fits entry) q.1 in
      let kinds = within-true general vet k p.0 in
      let strands = chosen (leb short_course k) (eqb s 0) (leb s mathematics) (short_course ≤ k) (leb-true short_course k) (le-leb short_course k) q.0 in
      let levels = chosen (eqb k vet) (within certificate_i advanced_diploma l) (eqb l 0) (k ≡ vet) (eqb-true k vet) (eq-eqb k vet) r.0 in
      let identities = chosen (is_identified k) (leb 1 d) (eqb d 0) (Identified k) (identified k) (is-identified k) r.1 in
      let none : short_course ≤ k → s ≡ 0 = λ h. eqb-true s 0 (strands.0 h) in
      record {
        least_kind = kinds.0;
        most_kind = kinds.1;
        most_strand = at-most none (λ n. leb-true s mathematics (strands.1 n)) (dec_le short_course k);
        no_strand = λ u. none (⊎_elim (λ h. omega arith) (λ h. omega arith) u);
        vet_level = λ h. within-true certificate_i advanced_diploma l (levels.0 h);
        no_level = λ n. eqb-true l 0 (levels.1 n);
        has_identity = λ u. leb-true 1 d (identities.0 u);
        no_identity = λ n. eqb-true d 0 (identities.1 n);
      }
    where
      at-most : (short_course ≤ entry.kind → entry.strand ≡ 0) → ((short_course ≤ entry.kind → ⊥) → entry.strand ≤ mathematics) → Dec (short_course ≤ entry.kind) → entry.strand ≤ mathematics
      at-most f g (yes h) = omega (arith, f h)
      at-most f g (no n) = g n

  -- and one that is within them is not outside
  pub not_outside : Ranged entry → outside entry ≡ false
  unfolding outside
  not_outside w =
      let k : ℕ = entry.kind in
      let s : ℕ = entry.strand in
      let l : ℕ = entry.level in
      let d : ℕ = entry.identity in
      let strands =
      choice (leb short_course k) (eqb s 0) (leb s mathematics) (short_course ≤ k) (leb-true short_course k) (le-leb short_course k) (λ h. eq-eqb s 0 (w.no_strand (strandless h w.most_kind (dec_le k short_course))))
      (λ n. le-leb s mathematics w.most_strand) in
      let levels =
      choice (eqb k vet) (within certificate_i advanced_diploma l) (eqb l 0) (k ≡ vet) (eqb-true k vet) (eq-eqb k vet) (λ h. true_within certificate_i advanced_diploma l (w.vet_level h).0 (w.vet_level h).1)
      (λ n. eq-eqb l 0 (w.no_level n)) in
      let identities =
      choice (is_identified k) (leb 1 d) (eqb d 0) (Identified k) (identified k) (is-identified k) (λ u. le-leb 1 d (w.has_identity u)) (λ n. eq-eqb d 0 (w.no_identity n)) in
      ap not
      (true_both (kind_fits entry) (strand_fits entry && (level_fits entry && identity_fits entry)) (true_within general vet k w.least_kind w.most_kind)
      (true_both (strand_fits entry) (level_fits entry && identity_fits entry) strands (true_both (level_fits entry) (identity_fits entry) levels identities)))
    where
      strandless : short_course ≤ entry.kind → entry.kind ≤ vet → Dec (entry.kind ≤ short_course) → NoStrand entry.kind
      strandless h g (yes a) = inl (omega arith)
      strandless h g (no a) = inr (omega arith)

-- of four parts the first that does not fit decides
module _ (a b c d : Bool) where
  pub first-fails : a ≡ false → true ≡ not (a && (b && (c && d)))
  first-fails e = rw e refl

  pub second_fails : a ≡ true → b ≡ false → true ≡ not (a && (b && (c && d)))
  second_fails e f = rw (e, f) refl

  pub third_fails : a ≡ true → b ≡ true → c ≡ false → true ≡ not (a && (b && (c && d)))
  third_fails e f g = rw (e, f, g) refl

  pub fourth_decides : a ≡ true → b ≡ true → c ≡ true → not d ≡ not (a && (b && (c && d)))
  fourth_decides e f g = rw (e, f, g) refl

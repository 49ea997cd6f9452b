-- The sum of Q times E, age by age.
use Prim.Native.Nat.{ℕ, ◌+◌, ◌*◌, ◌<◌, ◌≤◌}
use native.Mathlib.Omega.{arith}
use native.Mathlib.Nat.{mul-le-mul}
use mathlib.Core.Path.{◌≡◌, refl, sym, ap, ◌∙◌}
use mathlib.Core.List.{List, ◌∷◌}
use lib.ListN.{length, get_or, take, drop, length-drop}
use lib.Seq.{length-take-le}
use Rattle.std.proofs.lemmas.List.{drop_more, get_or-take, get_or-drop}
use Rattle.paper.specs.Limits.{ages, most_figure}
use Rattle.paper.specs.Lists.{sum}
use Rattle.paper.proofs.Listing.{sum-none, sum_step}
use Rattle.curve.specs.Population.{S, Qof, Eof}
use Rattle.curve.specs.Inner.{TenFigures}

-- the sum has Q times E of the ages passed, each at most the square of the greatest figure; the figures of the other ages are left
pub record Weighed (figures qs es : List ℕ) (s age : ℕ) : Type 0 where
  pub within : age ≤ ages
  pub qs_left : qs ≡ drop age (take ages figures)
  pub es_left : es ≡ drop age (drop ages figures)
  pub summed : s ≡ sum age (λ i. Qof figures i * Eof figures i)
  pub most : s ≤ most_figure * most_figure * age

-- the first of what is left
popped : (xs ys : List ℕ) (x i : ℕ) → i < length xs → x ∷ ys ≡ drop i xs → (x ≡ get_or xs i 0) × (ys ≡ drop (i + 1) xs)
popped xs ys x i l e =
    let same : x ∷ ys ≡ get_or xs i 0 ∷ drop (i + 1) xs = e ∙ drop_more xs i 0 l in
    (ap (λ (zs : List ℕ). get_or zs 0 0) same, ap (λ (zs : List ℕ). drop 1 zs) same)

pub weighed_none : (figures : List ℕ) → Weighed figures (take ages figures) (drop ages figures) 0 0
weighed_none figures =
    record { within = omega arith; qs_left = refl; es_left = refl; summed = sym (sum-none (λ i. Qof figures i * Eof figures i)); most = omega arith }

module _ {figures qs es : List ℕ} {s age : ℕ} (t : TenFigures figures) (w : Weighed figures qs es s age) where
  firsts_long : length (take ages figures) ≡ ages
  firsts_long = length-take-le ages figures (omega (arith, t.ten))

  left : length qs + age ≡ ages
  left = omega (arith, ap length w.qs_left, length-drop age (take ages figures), firsts_long, w.within)

  pub long_same : length es ≡ length qs
  long_same = omega (arith, ap length w.es_left, length-drop age (drop ages figures), length-drop ages figures, t.ten, left)

  -- at the end of the ages
  pub weighed-all : length qs ≡ 0 → s ≡ S figures
  unfolding S
  weighed-all e =
      let whole : age ≡ ages = omega (arith, left) in
      w.summed ∙ ap (λ (n : ℕ). sum n (λ i. Qof figures i * Eof figures i)) whole

  module _ {q e : ℕ} {qs' es' : List ℕ} (a : qs ≡ q ∷ qs') (b : es ≡ e ∷ es') where
    inside : age < ages
    inside = omega (arith, left, ap length a)

    firsts : (q ≡ Qof figures age) × (qs' ≡ drop (age + 1) (take ages figures))
    firsts =
        let p = popped (take ages figures) qs' q age (omega (arith, inside, firsts_long)) (sym a ∙ w.qs_left) in
        (p.0 ∙ get_or-take ages figures age 0 inside, p.1)

    seconds : (e ≡ Eof figures age) × (es' ≡ drop (age + 1) (drop ages figures))
    seconds =
        let p = popped (drop ages figures) es' e age (omega (arith, inside, length-drop ages figures, t.ten)) (sym b ∙ w.es_left) in
        let i : ages + age ≡ age + ages = omega arith in
        (p.0 ∙ get_or-drop ages figures age 0 ∙ ap (λ (i : ℕ). get_or figures i 0) i, p.1)

    -- another age
    pub weighed_more : Weighed figures qs' es' (s + q * e) (age + 1)
    weighed_more =
        let product : q * e ≡ Qof figures age * Eof figures age = rw (firsts.0, seconds.0) refl in
        record {
          within = omega (arith, inside);
          qs_left = firsts.1;
          es_left = seconds.1;
          summed = omega (arith, w.summed, product, sum_step age (λ i. Qof figures i * Eof figures i));
          most = omega (arith, w.most, product, mul-le-mul (t.each age) (t.each (age + ages)));
        }

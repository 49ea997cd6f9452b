-- Tests and choices, as sentences have them.
use Rattle.std.specs.Prelude.{ℕ, Bool, true, false, not, leb, ltb, eqb}

-- a test binds less than a product and more than a sum, `&&` and `⇒`
infix 69 ◌≤?◌ ◌<?◌ ◌=?◌ ◌≠?◌
infixr 10 when◌then◌else◌
abbrev pub ◌≤?◌ : ℕ → ℕ → Bool
m ≤? n = leb m n

abbrev pub ◌<?◌ : ℕ → ℕ → Bool
m <? n = ltb m n

abbrev pub ◌=?◌ : ℕ → ℕ → Bool
m =? n = eqb m n

abbrev pub ◌≠?◌ : ℕ → ℕ → Bool
m ≠? n = not (eqb m n)

-- the one or the other, by a test
abbrev pub pick {ℓ} : {A : Type ℓ} → Bool → A → A → A
pick true a b = a
pick false a b = b

abbrev pub when◌then◌else◌ {ℓ} : {A : Type ℓ} → Bool → A → A → A
when test then a else b = pick test a b

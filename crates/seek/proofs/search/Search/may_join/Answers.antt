use Prim.Native.Nat.{ℕ, ◌^◌, ◌<◌}
use mathlib.Core.Path.{◌≡◌, refl}
use mathlib.Core.Bool.{Bool, true, false}
use lib.Bits.{bit_and}
use lib.Dec.{eqb}
use borrow.Author.Tests.{eqb-true, eqb-false}
use Rattle.seek.specs.declared.search.Test.{Test}
use Rattle.seek.specs.Sets.{In}
use Rattle.seek.specs.InnerTest.{value_at, MayJoin}
use Rattle.seek.proofs.Digits.{test_in, test_not, meets, no_meet, in_lt}
use Rattle.seek.proofs.search.Search.may_join.Goals as goal

-- a kept result that clashes with no member joins; where it clashes with one, no allowed set has both
by_members : (test : Test) (clash : ℕ → ℕ) (set i : ℕ) → set < 2 ^ i → In i test.kept → MayJoin test clash set i (eqb (bit_and set (clash i)) 0)
by_members test clash set i small k = go (eqb (bit_and set (clash i)) 0) refl
  where
    go : (b : Bool) → eqb (bit_and set (clash i)) 0 ≡ b → MayJoin test clash set i b
    go true z = record { kept = k; apart = λ j p q. no_meet set (clash i) j (eqb-true _ _ z) p q }
    go false z =
        λ t a m p.
        let x = meets i set (clash i) small (eqb-false _ _ z) in
        a.apart i x.0 (in_lt i set x.0 small x.1.0) p (m x.0 x.1.0) x.1.1

pub returns-then-self-i-eq0 : goal.returns-then-self-i-eq0
returns-then-self-i-eq0 c =
    λ t a m p. test_not _ _ c.requires.few c.if-self-i-eq0.true (a.kept _ p)

pub returns : goal.returns
returns c =
    by_members c.args.self.now.test (value_at c.args.self.now.clashes.now) c.args.set c.args.i c.requires.small (test_in c.args.self.now.test.kept c.args.i c.requires.few c.if-self-i-eq0.false)

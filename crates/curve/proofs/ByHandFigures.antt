-- The population by its figures: each age, each limit met and passed, each rounding, and each two rules in their order.
use Prim.Native.Nat.{ℕ, ◌+◌}
use mathlib.Core.Path.{◌≡◌, refl}
use mathlib.Core.List.{List, [], ◌∷◌}
use lib.ListN.{replicate, set}
use Rattle.paper.specs.Limits.{ages, figure_count, band_count}
use Rattle.paper.specs.Lists.{sum, first}
use Rattle.paper.specs.Rounding.{nearest}
use Rattle.paper.specs.Rulings.{refused, ◌at◌}
use Rattle.curve.specs.Population.{S, E}
use Rattle.curve.specs.Promise.{population_ruling, ruling}
use Rattle.curve.specs.Examples.{aged17, aged17and18}
use Rattle.curve.proofs.ByHand.{gives}

-- one figure, by its index in Q16..Q20,E16..E20, and the others 0
abbrev figure : ℕ → ℕ → List ℕ
figure i x = set (replicate figure_count 0) i x

-- Q and E of one age, counted from 16, and the others 0
abbrev aged : ℕ → ℕ → ℕ → List ℕ
aged age q e = set (figure age q) (age + ages) e

-- five ages, all different
abbrev five : List ℕ
five = 100 ∷ 200 ∷ 300 ∷ 400 ∷ 500 ∷ 11 ∷ 23 ∷ 31 ∷ 47 ∷ 53 ∷ []

-- Q and E for ages 16 to 20: S is the sum of Q times E
pub S-of-ages : (S (aged 0 2 13) ≡ 26) × (S (aged 1 3 17) ≡ 51) × (S (aged 2 5 19) ≡ 95) × (S (aged 3 7 23) ≡ 161) × (S (aged 4 11 29) ≡ 319) × (S five ≡ 60300)
unfolding sum S
S-of-ages = (refl, refl, refl, refl, refl, refl)

-- E without age is the sum
pub E-of-ages : (E (aged 0 2 13) ≡ 13) × (E (aged 1 3 17) ≡ 17) × (E (aged 2 5 19) ≡ 19) × (E (aged 3 7 23) ≡ 23) × (E (aged 4 11 29) ≡ 29) × (E five ≡ 165)
unfolding sum E
E-of-ages = (refl, refl, refl, refl, refl, refl)

-- 60300/165 is 365.45, and 1650000/365 is 4520.55; one age alone is its Q
pub of-ages : (population_ruling five ≡ gives 365 4521) × (population_ruling (aged 0 40 20) ≡ gives 40 5000) × (population_ruling (aged 2 40 20) ≡ gives 40 5000)
    × (population_ruling (aged 3 40 20) ≡ gives 40 5000) × (population_ruling (aged 4 40 20) ≡ gives 40 5000)
unfolding sum first S E nearest
of-ages = (refl, refl, refl, refl, refl)

-- E of an age may be over its Q: 1200/30 is 40, and 300000/40 is 7500
pub over-Q : population_ruling (aged17and18 10 20 100 10) ≡ gives 40 7500
unfolding sum first S E nearest
over-Q = refl

-- Y to the nearest whole, halves up: 200.49, 200.50 and 200.51; and 0.49, which is zero
pub Y-halves : (population_ruling (aged17and18 200 51 201 49) ≡ gives 200 5000) × (population_ruling (aged17and18 200 50 201 50) ≡ gives 201 4975)
    × (population_ruling (aged17and18 200 49 201 51) ≡ gives 201 4975) × (population_ruling (aged17and18 1 49 0 51) ≡ refused (9 at 10))
unfolding sum first S E nearest
Y-halves = (refl, refl, refl, refl)

-- r nearest, halves up: 3000.4, 3000.5 and 3000.6; 2812.5
pub r_halves : (population_ruling (aged17 100000 30004) ≡ gives 100000 3000) × (population_ruling (aged17 100000 30005) ≡ gives 100000 3001)
    × (population_ruling (aged17 100000 30006) ≡ gives 100000 3001) × (population_ruling (aged17 32 9) ≡ gives 32 2813)
unfolding sum first S E nearest
r_halves = (refl, refl, refl, refl)

-- r must be 2500 to 7500
pub r_limits : (population_ruling (aged17 10000 2499) ≡ refused (10 at 0)) × (population_ruling (aged17 10000 2500) ≡ gives 10000 2500)
    × (population_ruling (aged17 10000 7500) ≡ gives 10000 7500) × (population_ruling (aged17 10000 7501) ≡ refused (10 at 0))
unfolding sum first S E nearest
r_limits = (refl, refl, refl, refl)

-- Q over 1000000, at its index
pub Q-over : (population_ruling (figure 0 1000001) ≡ refused (9 at 0)) × (population_ruling (figure 1 1000001) ≡ refused (9 at 1)) × (population_ruling (figure 2 1000001) ≡ refused (9 at 2))
    × (population_ruling (figure 3 1000001) ≡ refused (9 at 3)) × (population_ruling (figure 4 1000001) ≡ refused (9 at 4))
unfolding sum first S E nearest
Q-over = (refl, refl, refl, refl, refl)

-- E over 1000000, at its index
pub E-over : (population_ruling (figure 5 1000001) ≡ refused (9 at 5)) × (population_ruling (figure 6 1000001) ≡ refused (9 at 6)) × (population_ruling (figure 7 1000001) ≡ refused (9 at 7))
    × (population_ruling (figure 8 1000001) ≡ refused (9 at 8)) × (population_ruling (figure 9 1000001) ≡ refused (9 at 9))
unfolding sum first S E nearest
E-over = (refl, refl, refl, refl, refl)

-- Q of 1000000 is taken, and so is a Y of 1000000
pub Q-most : (population_ruling (aged 0 1000000 300000) ≡ gives 1000000 3000) × (population_ruling (aged 1 1000000 300000) ≡ gives 1000000 3000) × (population_ruling (aged 2 1000000 300000) ≡ gives 1000000 3000)
    × (population_ruling (aged 3 1000000 300000) ≡ gives 1000000 3000) × (population_ruling (aged 4 1000000 300000) ≡ gives 1000000 3000)
unfolding sum first S E nearest
Q-most = (refl, refl, refl, refl, refl)

-- E of 1000000 passes on to 10: r is 10000
pub E-most : (population_ruling (aged 0 1000000 1000000) ≡ refused (10 at 0)) × (population_ruling (aged 1 1000000 1000000) ≡ refused (10 at 0)) × (population_ruling (aged 2 1000000 1000000) ≡ refused (10 at 0))
    × (population_ruling (aged 3 1000000 1000000) ≡ refused (10 at 0)) × (population_ruling (aged 4 1000000 1000000) ≡ refused (10 at 0))
unfolding sum first S E nearest
E-most = (refl, refl, refl, refl, refl)

-- the lowest place wins: Q16 and E20; Q20 and E16
pub lowest_place : (population_ruling (set (figure 9 1000001) 0 1000001) ≡ refused (9 at 0)) × (population_ruling (set (figure 5 1000001) 4 1000001) ≡ refused (9 at 4))
unfolding sum first S E nearest
lowest_place = (refl, refl)

-- E zero, Y zero: no figures at all, Q alone, E alone
pub zeros : (population_ruling (replicate figure_count 0) ≡ refused (9 at 10)) × (population_ruling (figure 4 1000000) ≡ refused (9 at 10)) × (population_ruling (figure 9 1000000) ≡ refused (9 at 10))
unfolding sum first S E nearest
zeros = (refl, refl, refl)

-- 11 before 9: nine and eleven figures, of which the first is over, and none
pub figures-lent : (population_ruling (1000001 ∷ replicate 8 0) ≡ refused (11 at 0)) × (population_ruling (1000001 ∷ replicate 10 0) ≡ refused (11 at 0)) × (population_ruling [] ≡ refused (11 at 0))
figures-lent = (refl, refl, refl)

-- the lent table: 2000 entries are taken, one less or one more is 11
pub table-lent : (ruling (aged17 40 20) (replicate band_count 0) ≡ gives 40 5000) × (ruling (aged17 40 20) (replicate 1999 0) ≡ refused (11 at 0)) × (ruling (aged17 40 20) (replicate 2001 0) ≡ refused (11 at 0))
unfolding sum first S E nearest
table-lent = (refl, refl, refl)

-- 11, 9, 10: a short table, a figure over and r too small; the last two; the last; and with no E a short table
pub in_order : (ruling (aged17 1000001 1) (replicate 1999 0) ≡ refused (11 at 0)) × (ruling (aged17 1000001 1) (replicate 2000 0) ≡ refused (9 at 1))
    × (ruling (aged17 1000000 1) (replicate 2000 0) ≡ refused (10 at 0)) × (ruling (aged17 40 0) (replicate 1999 0) ≡ refused (11 at 0)) × (ruling (aged17 40 0) (replicate 2000 0) ≡ refused (9 at 10))
unfolding sum first S E nearest
in_order = (refl, refl, refl, refl, refl)

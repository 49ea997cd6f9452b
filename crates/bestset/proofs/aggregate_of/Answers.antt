use Rattle.std.proofs.Common.{◌≡◌, ℕ, ◌*◌, ap₂, ◌∙◌, arith}
use Rattle.paper.specs.Limits.{score_parts}
use Rattle.paper.specs.Rounding.{nearest}
use Rattle.paper.specs.Units.{hundredths}
use Rattle.sets.proofs.Rounding.{rounded-most}
use Rattle.sets.specs.Promise.{aggregate_of}
use Rattle.bestset.proofs.aggregate_of.Goals as goal

-- the quotient is of the sum itself
is : (sum : ℕ) {wide parts quotient : ℕ} → wide ≡ sum → parts ≡ score_parts → quotient ≡ nearest (hundredths * wide) parts → quotient ≡ aggregate_of sum
unfolding aggregate_of
is sum w p q = q ∙ ap₂ (λ (n m : ℕ). nearest (hundredths * n) m) w p

pub overflow_cast-result : goal.overflow_cast-result
overflow_cast-result c = omega (arith, is c.args.sum c.from.ensures c.from-2.ensures c.nearest.ensures, rounded-most c.args.sum c.args.sum (omega arith), c.ranges)

pub returns : goal.returns
returns c = is c.args.sum c.from.ensures c.from-2.ensures c.nearest.ensures

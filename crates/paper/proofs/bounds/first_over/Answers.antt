use Rattle.std.proofs.Common.{arith, ◌<◌, sym, length}
use borrow.Author.Tests.{lt-ltb}
use Rattle.paper.specs.Lists.{over}
use Rattle.paper.proofs.Firsts.{first-here, first-none}
use Rattle.paper.proofs.bounds.first_over.Goals as goal

pub returns-then-limit-n : goal.returns-then-limit-n
returns-then-limit-n c =
    let l : c.loop-i.i < length c.args.numbers.now = omega arith in
    sym (first-here _ (over c.args.limit c.args.numbers.now) _ l c.loop-i.invariant (lt-ltb _ _ c.if-limit-n.true))

pub returns : goal.returns
returns c = sym (first-none _ (over c.args.limit c.args.numbers.now) (λ j l. c.loop-i.invariant j (omega arith)))

use Rattle.std.proofs.Common.{◌-◌}
use Rattle.seek.specs.InnerTest.{value_at}
use Rattle.seek.specs.InnerSearch.{room, Stands}
use Rattle.seek.proofs.search.Search.with_fourth.Given as goal

-- the best is that of the sets tried, up to those that go on by two results, the second of them from next on
abbrev pub invariant-loop-next : goal.invariant-loop-next
invariant-loop-next l = Stands l.self.test (value_at l.self.clashes.now) (value_at l.self.scores.now) l.self.held (room (l.next - 1) l.set) l.best (l.next - 1) l.set l.sum

use Rattle.seek.specs.InnerTest.{value_at}
use Rattle.seek.specs.InnerSearch.{room, Stands}
use Rattle.seek.proofs.search.Search.with_fifth.Given as goal

-- the best is that of the sets tried, up to those that go on by a result from i on
abbrev pub invariant-loop-i : goal.invariant-loop-i
invariant-loop-i l = Stands l.self.test (value_at l.self.clashes.now) (value_at l.self.scores.now) l.self.held (room l.i l.set) l.best l.i l.set l.sum

use Rattle.std.proofs.Common.{◌≡◌, ◌≤◌}
use Rattle.std.specs.Int.Count.{ones}
use Rattle.paper.specs.Limits.{most_results}
use Rattle.seek.specs.InnerTest.{value_at}
use Rattle.seek.specs.InnerSearch.{key, room, Stands}
use Rattle.seek.proofs.Steps.{left}
use Rattle.seek.proofs.search.Search.search.Given as goal

-- the results after the last member are open again down to `at`, and the best is that of the sets tried: all that go on from the set, and those before them
abbrev pub invariant-back : goal.invariant-back
invariant-back l = record {
  same : l.set ≡ l.initial.set;
  count : ones l.set ≤ 3;
  stands : Stands l.self.test (value_at l.self.clashes.now) (value_at l.self.scores.now) l.self.held (key most_results l.set) l.best l.at l.set l.sum;
}

abbrev pub decreases-back : goal.decreases-back
decreases-back l = l.at

-- the best is that of the sets tried: all but those that go on from the set at which the search stands by results from `at` on, and those after them
abbrev pub invariant-sets : goal.invariant-sets
invariant-sets l = record {
  count : ones l.set ≤ 3;
  stands : Stands l.self.test (value_at l.self.clashes.now) (value_at l.self.scores.now) l.self.held (room l.at l.set) l.best l.at l.set l.sum;
}

abbrev pub decreases-sets : goal.decreases-sets
decreases-sets l = left l.at l.set

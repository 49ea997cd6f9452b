use Rattle.std.specs.Slice.Iter.{iter_rest}
use Rattle.lines.proofs.Lining.{Far}
use Rattle.lines.specs.Inner.{Put, lines_noted}
use Rattle.printed.specs.InnerCohorts.{columns}
use Rattle.listing.specs.Lines.{line_bytes}
use lib.ListN.{length}
use mathlib.Core.List.{List}
use mathlib.Core.Path.{◌≡◌}
use Prim.Native.Nat.{ℕ, ◌+◌, ◌*◌, ◌≤◌}
use Rattle.lines.proofs.lines.Given as goal

-- the students before those who are left are listed, j of them eligible, and their lines end at an end
abbrev pub invariant-loop-id : goal.invariant-loop-id
invariant-loop-id l =
    let c = columns l.aggregates l.ranks l.percentiles l.bands in
    let ids = iter_rest l.id-iterator.a.a in
    let numbers = iter_rest l.id-iterator.a.b in
    let places = iter_rest l.id-iterator.b in
    (length numbers ≡ length ids) × (length places ≡ length ids) × (l.j + length ids ≤ length l.ids) × (l.end + line_bytes * length ids ≤ line_bytes * length l.ids) × (length l.text ≡ length l.initial.text)
    × (sofar : List ℕ) × Put l.initial.text l.text 0 l.end sofar × Far c (lines_noted c 0 l.ids l.numbers l.places) sofar l.j ids numbers places

use Rattle.std.proofs.Common.{leb, leb-true, leb-false, arith, rules}
use Rattle.std.proofs.lemmas.List.Sorted.{IsNonDecreasingBy-from_default, IsPartitionedBy-leb, IsPartitionPoint-from_clause}
use Rattle.ranks.proofs.Counting.{at-found}
use Rattle.ranks.proofs.search.at_most.Goals as goal

pub returns : goal.returns
returns c =
    let sorted = c.args.sorted.now in
    let x = c.args.x in
    let parted = IsPartitionedBy-leb (λ v. v) sorted x (IsNonDecreasingBy-from_default (λ v. v) sorted 0 c.requires) in
    let point = IsPartitionPoint-from_clause (λ v. leb v x) _ _ c.partition_point.ensures.partitioned parted (λ a r q k. search rules) in
    at-found sorted x c.partition_point.result c.partition_point.ensures.bound
    (λ i l. leb-true _ _ (point.0 i 0 (omega arith) l))
    (λ i l h. leb-false _ _ (point.1 i 0 l h))

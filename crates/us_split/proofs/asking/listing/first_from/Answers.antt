use Rattle.std.proofs.Common.{ltb, ltb-true, ltb-false, arith, rules}
use Rattle.std.proofs.lemmas.List.Sorted.{IsPartitionPoint-from_clause, IsPartitionedBy-ltb}
use Rattle.us_split.proofs.asking.listing.first_from.Goals as goal

pub returns : goal.returns
returns c =
    let list = c.args.list.now in
    let place = c.args.place in
    let point = IsPartitionPoint-from_clause (λ at. ltb at place) list _ c.partition_point.ensures.partitioned
    (IsPartitionedBy-ltb (λ at. at) list place c.requires) (λ a r q k. search rules) in
    record {
      inside = c.partition_point.ensures.bound;
      below = λ i low. ltb-true _ _ (point.0 i 0 (omega arith) low);
      above = λ i high inside. ltb-false _ _ (point.1 i 0 high inside);
    }

use Rattle.std.proofs.Common.{ltb, rules}
use Rattle.std.proofs.lemmas.Bool.{ltb-true, ltb-false}
use Rattle.std.proofs.lemmas.List.Sorted.{IsPartitionPoint-from_clause, IsPartitionedBy-ltb}
use Rattle.extents.proofs.slots.slots_below.Goals as goal

pub returns-clause-partitioned : goal.returns-clause-partitioned
returns-clause-partitioned g c = λ rise.
    let number = g.S.Slots.number_of in
    let xs = c.args.slots.now in
    let k = c.args.k in
    let parts = IsPartitionPoint-from_clause (λ x. ltb (number x) k) xs c.partition_near.result c.partition_near.ensures.partitioned (IsPartitionedBy-ltb number xs k rise) (λ a r f called. search rules) in
    (λ i d l h. ltb-true _ _ (parts.0 i d l h), λ i d l h. ltb-false _ _ (parts.1 i d l h))

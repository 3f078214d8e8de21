use Rattle.std.proofs.Common.{rules, nat_le}
use Rattle.std.proofs.lemmas.List.Sorted.{IsPartitionedBy-leb, IsPartitionPoint-from_clause}
use Rattle.pools.proofs.pools.count_up_to.Goals as goal

pub returns-clause-point : goal.returns-clause-point
returns-clause-point c =
    IsPartitionPoint-from_clause (λ end. nat_le end c.args.cell) _ _ c.partition_point.ensures.partitioned (IsPartitionedBy-leb (λ x. x) _ c.args.cell c.requires) (λ x b f' k. search rules)

use Rattle.std.proofs.Common.{rules, ltb}
use Rattle.std.proofs.lemmas.List.Sorted.{IsPartitionPoint-from_clause, IsPartitionedBy-ltb}
use Rattle.derivation_branch.proofs.number_set.smaller.Goals as goal

pub returns : goal.returns
returns c = IsPartitionPoint-from_clause (λ x. ltb x c.args.number) c.args.items.now c.partition_point.result c.partition_point.ensures.partitioned (IsPartitionedBy-ltb (λ x. x) c.args.items.now c.args.number c.requires) (λ a r f k. search rules)

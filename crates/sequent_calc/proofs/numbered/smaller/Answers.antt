use Rattle.std.proofs.Common.{rules, ltb}
use Rattle.std.proofs.lemmas.List.Sorted.{IsPartitionPoint-from_clause, IsPartitionedBy-ltb}
use Rattle.sequent_calc.proofs.numbered.smaller.Goals as goal

pub returns : goal.returns
returns g c = IsPartitionPoint-from_clause (λ x. ltb x.0 c.args.number) c.args.items.now c.partition_point.result c.partition_point.ensures.partitioned (IsPartitionedBy-ltb (λ x. x.0) c.args.items.now c.args.number c.requires) (λ a r f k. search rules)

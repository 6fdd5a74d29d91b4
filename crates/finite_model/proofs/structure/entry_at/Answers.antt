use Rattle.std.proofs.Common.{◌-◌, ◌^◌, arith}
use Rattle.finite_model.proofs.ValueLaws.{entry-there, entry-past}
use Rattle.finite_model.proofs.structure.entry_at.Goals as goal

pub returns-then-place-table : goal.returns-then-place-table
returns-then-place-table c = λ k e. entry-there c.args.table.now c.args.place k (2 ^ 64 - 1) e (omega arith) (omega arith)

pub returns-else-place-table : goal.returns-else-place-table
returns-else-place-table c = λ k e. entry-past c.args.table.now c.args.place k (2 ^ 64 - 1) e (omega arith)

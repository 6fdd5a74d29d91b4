use Rattle.std.proofs.Common.{arith}
use Rattle.finite_model.proofs.ShortLaws.{short-bound, short-unbound}
use Rattle.finite_model.proofs.shortening.short_variable.Goals as goal

pub returns-then-between-depth : goal.returns-then-between-depth
returns-then-between-depth c = λ S. short-bound S c.args.depth c.args.between (omega arith)

pub returns-else-between-depth : goal.returns-else-between-depth
returns-else-between-depth c = λ S. short-unbound S c.args.depth c.args.between (omega arith)

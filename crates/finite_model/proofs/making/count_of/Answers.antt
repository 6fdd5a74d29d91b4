use Rattle.std.proofs.Common.{sym, ◌∙◌, true, false, arith}
use Rattle.plain_laws.proofs.Places.{get-there}
use Rattle.finite_model.proofs.MakingLaws.{count-at}
use Rattle.finite_model.proofs.making.count_of.Goals as goal

pub returns-then-is_function-clause-count : goal.returns-then-is_function-clause-count
returns-then-is_function-clause-count c = let x = get-there c.args.symbols.now c.args.id.0 c.requires in let k = count-at c.args.symbols.now c.args.id.0 x.0 true x.1 (sym c.if-is_function.true ∙ c.is_function.ensures x.0 x.1) in omega (arith, k)

pub returns-clause-count : goal.returns-clause-count
returns-clause-count c = let x = get-there c.args.symbols.now c.args.id.0 c.requires in let k = count-at c.args.symbols.now c.args.id.0 x.0 false x.1 (sym c.if-is_function.false ∙ c.is_function.ensures x.0 x.1) in omega (arith, k)

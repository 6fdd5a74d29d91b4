use Rattle.std.proofs.Common.{◌∙◌, refl}
use Rattle.formula_core.specs.SymbolView.{the_symbol}
use Rattle.problem_build.proofs.ListLaws.{number-absent, number-found}
use Rattle.problem_build.proofs.expansion.number_of.Goals as goal

pub returns-in-Some : goal.returns-in-Some
returns-in-Some c = number-found c.args.symbols.now (the_symbol c.args.symbol.now) c.in-Some.id.0 c.len-count.ensures.distinct c.in-Some.ensures.place

pub returns-in-None : goal.returns-in-None
returns-in-None c = c.len-count.ensures.len ∙ number-absent c.args.symbols.now (the_symbol c.args.symbol.now) (c.in-None.ensures.absent.0 refl)

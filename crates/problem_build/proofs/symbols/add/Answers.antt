use Rattle.std.proofs.Common.{arith, ap, Err}
use Rattle.formula_core.specs.SymbolView.{the_symbol}
use Rattle.problem_build.proofs.ListLaws.{added-is, new-length}
use Rattle.problem_build.proofs.symbols.add.Goals as goal

pub returns-in-Ok : goal.returns-in-Ok
returns-in-Ok c = added-is c.args.symbols.now c.add.new.self (the_symbol c.args.symbol) c.in-Ok.ensures.known c.in-Ok.ensures.new

pub returns-in-Err-Full : goal.returns-in-Err-Full
returns-in-Err-Full c =
    let f = c.in-Err-Full.ensures.full.0 (ap Err c.in-Err-Full.field-0-is) in
    let n = new-length c.args.symbols.now (the_symbol c.args.symbol) f.0 in
    omega (arith, f.1, n)

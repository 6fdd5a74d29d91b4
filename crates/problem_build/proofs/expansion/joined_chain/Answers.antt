use Rattle.std.proofs.Common.{refl, map, [], arith}
use Rattle.formula_core.specs.FormulaView.{the_formula}
use Rattle.problem_build.proofs.ListLaws.{chain-joined}
use Rattle.problem_build.proofs.expansion.joined_chain.Goals as goal

pub returns : goal.returns
returns c = chain-joined c.args.kind c.args.symbols.now (map the_formula c.args.formulas.items) (the_formula c.in_ok-joined.joined) (c.in_ok-joined.ensures.balanced [] c.args.formulas.items refl (omega (arith, c.len-count.ensures, c.args.formulas.ok.0))).0

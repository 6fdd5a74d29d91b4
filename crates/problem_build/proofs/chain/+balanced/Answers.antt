use Rattle.std.proofs.Common.{◌/◌, refl, sym, subst, map, arith}
use Rattle.formula_core.specs.FormulaView.{the_formula}
use Rattle.problem_build.specs.Balance.{IsBalanced}
use Rattle.problem_build.specs.Expansion.{chain_formula}
use Rattle.problem_build.proofs.BalanceLaws.{joined-one, joined-halves}
use Rattle.problem_build.proofs.chain.+balanced.Goals as goal

pub returns-then-count-eq1-clause-balanced : goal.returns-then-count-eq1-clause-balanced
returns-then-count-eq1-clause-balanced t c = λ front back e n.
    joined-one the_formula (chain_formula c.args.kind) c.args.formulas.now.items c.pop.new.self.items c.in-Some.formula front back c.in-Some.ensures.items e (omega arith)

pub returns-clause-balanced : goal.returns-clause-balanced
returns-clause-balanced t c = λ front back e n.
    let h = joined-halves the_formula (chain_formula c.args.kind) c.args.formulas.now.items c.balanced.new.formulas.items c.balanced-2.new.formulas.items c.args.count (c.args.count / 2) (the_formula c.in_ok-left.left) (the_formula c.in_ok-right.right) front back c.in_ok-right.ensures.balanced c.in_ok-left.ensures.balanced refl e n in
    (subst (λ v. IsBalanced (chain_formula c.args.kind) (map the_formula back) v) (sym c.in_ok-joined.ensures) h.0, h.1)

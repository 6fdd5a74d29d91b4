use Rattle.calculus.specs.Text.{formula_text}
use Rattle.formula_core.specs.FormulaView.{the_formula}
use Rattle.formula_text.proofs.Equations.{joined-by_steps}
use Rattle.formula_text.proofs.formula.+append_formula.Goals as goal

pub append_joined-returns-clause-ok : goal.append_joined-returns-clause-ok
append_joined-returns-clause-ok t c = λ d e.
    joined-by_steps _ _ _ _ _ _ (formula_text c.args.symbols.now d (the_formula c.args.left.now)) c.args.connective.now (formula_text c.args.symbols.now d (the_formula c.args.right.now))
    c.in_ok-append_byte.ensures.ok (c.in_ok-append_formula.ensures.ok d e) c.in_ok-append_bytes.ensures.ok (c.in_ok-append_formula-2.ensures.ok d e) c.in_ok-append_byte-2.ensures.ok

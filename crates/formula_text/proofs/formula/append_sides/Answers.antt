use Rattle.calculus.specs.Text.{term_text}
use Rattle.std.proofs.Common.{codes}
use Rattle.formula_core.specs.TermView.{the_term}
use Rattle.formula_text.proofs.Equations.{joined-by_steps}
use Rattle.formula_text.proofs.Extending.{Extends-five}
use Rattle.formula_text.proofs.formula.append_sides.Goals as goal

pub returns-clause-ok : goal.returns-clause-ok
returns-clause-ok c =
    joined-by_steps _ _ _ _ _ _ (term_text c.args.symbols.now c.args.depth (the_term c.args.left.now)) (codes " = ") (term_text c.args.symbols.now c.args.depth (the_term c.args.right.now))
    c.in_ok-append_byte.ensures.ok c.in_ok-append_term.ensures.ok c.in_ok-append_bytes.ensures.ok c.in_ok-append_term-2.ensures.ok c.in_ok-append_byte-2.ensures.ok

pub returns-clause-extends : goal.returns-clause-extends
returns-clause-extends c =
    Extends-five _ _ _ _ _ _ c.append_byte.ensures.extends c.append_term.ensures.extends c.append_bytes.ensures.extends c.append_term-2.ensures.extends c.append_byte-2.ensures.extends

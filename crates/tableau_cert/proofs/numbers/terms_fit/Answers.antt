use Rattle.std.proofs.Common.{arith, refl}
use Rattle.calculus.specs.Lists.{g_terms_tree}
use Rattle.calculus.specs.TableauText.{grounds_have_numbers}
use Rattle.formula_core.specs.GroundLists.{the_g_term}
use Rattle.tableau_cert.proofs.NumberLaws.{none-left, rest-terms}
use Rattle.tableau_cert.proofs.numbers.terms_fit.Goals as goal

pub loop-term-init : goal.loop-term-init
loop-term-init c = λ ls n known low r. r

pub loop-term-preserved : goal.loop-term-preserved
loop-term-preserved c = λ ls n known low r.
    c.loop-term.invariant ls n known low (rest-terms ls n c.args.terms.now c.loop-term.term-index _ _ (omega arith) refl (c.term_fits.ensures ls n known) low r)

pub returns : goal.returns
returns c = λ ls n known low. c.loop-term.invariant ls n known low (none-left (the_g_term ls) (λ xs. grounds_have_numbers (g_terms_tree xs)) c.args.terms.now c.loop-term.term-index refl (omega arith))

use Rattle.std.proofs.Common.{sym, refl, arith, ap, ◌∙◌}
use Rattle.calculus.specs.Lists.{g_terms_tree}
use Rattle.conversion_theory.specs.Turns.{names_of_terms}
use Rattle.name_order.proofs.ByNumber.HoldingLaws.{behind-bare, none-behind}
use Rattle.name_order.proofs.holding.next_holds.Goals as goal

pub loop-term-init : goal.loop-term-init
loop-term-init c = ap (λ us. names_of_terms (g_terms_tree us)) c.terms-terms.ensures.list

pub loop-term-preserved : goal.loop-term-preserved
loop-term-preserved c = sym (behind-bare c.args.table.now c.terms-terms.result.now c.loop-term.term-index _ _ (omega arith) refl (c.term_holds.ensures c.if-term_holds.false)) ∙ c.loop-term.invariant

pub returns : goal.returns
returns c = λ h. sym c.loop-term.invariant ∙ none-behind c.args.table.now c.terms-terms.result.now c.loop-term.term-index (omega arith)

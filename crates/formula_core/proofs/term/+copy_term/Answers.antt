use Rattle.std.proofs.Common.{◌∙◌, ap, arith, map}
use Rattle.cop_base.proofs.Items.{map-end}
use Rattle.formula_core.specs.TermView.{the_term}
use Rattle.formula_core.proofs.Pushed.{pushed-copy}
use Rattle.formula_core.proofs.term.+copy_term.Goals as goal

pub Terms::copy-loop-item-preserved : goal.Terms::copy-loop-item-preserved
Terms::copy-loop-item-preserved t c =
    pushed-copy the_term c.deref-item-items.result.now c.loop-item.item-index c.in_ok-copy.field-0 c.item-item.result c.loop-item.copied c.push.new.self
    c.in_ok-push.ensures.ok c.loop-item.invariant c.in_ok-copy.ensures (omega arith) c.item-item.is

pub Terms::copy-returns : goal.Terms::copy-returns
Terms::copy-returns t c =
    c.loop-item.invariant ∙ map-end the_term c.deref-item-items.result.now c.args.self.now c.loop-item.item-index (ap (map the_term) c.deref-item-items.ensures.value ∙ c.self.view_is) (omega arith)

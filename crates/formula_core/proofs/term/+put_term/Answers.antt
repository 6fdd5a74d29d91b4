use Rattle.std.proofs.Common.{ap, map, sym, arith, ◌∙◌}
use Rattle.cop_base.proofs.Items.{map-end}
use Rattle.calculus.specs.Substitution.{term_with}
use Rattle.formula_core.specs.Instance.{terms_with-terms_tree}
use Rattle.formula_core.specs.TermView.{the_term}
use Rattle.formula_core.proofs.Pushed.{pushed-view}
use Rattle.formula_core.proofs.term.+put_term.Goals as goal

pub Terms::put-returns : goal.Terms::put-returns
Terms::put-returns t c = λ n e.
    let m = map-end the_term c.deref-item-items.result.now c.args.self.now c.loop-item.item-index (ap (map the_term) c.deref-item-items.ensures.value ∙ c.self.view_is) (omega arith) in
    rw (c.loop-item.invariant n e, m) (sym (terms_with-terms_tree _ _ _))

pub Terms::put-loop-item-preserved : goal.Terms::put-loop-item-preserved
Terms::put-loop-item-preserved t c = λ n e.
    pushed-view the_term (term_with (the_term c.args.t.now) n) c.deref-item-items.result.now c.loop-item.item-index c.in_ok-put.field-0 c.item-item.result c.loop-item.put c.push.new.self
    c.in_ok-push.ensures.ok (c.loop-item.invariant n e) (c.in_ok-put.ensures n e) (omega arith) c.item-item.is

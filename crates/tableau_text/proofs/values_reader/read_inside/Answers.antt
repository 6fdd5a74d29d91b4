use Rattle.std.proofs.Common.{[], subst, sym}
use Rattle.formula_core.proofs.GrownLaws.{grown-both}
use Rattle.formula_text.proofs.Passing.{error-passed}
use Rattle.tableau_text.specs.Items.{of_root}
use Rattle.tableau_text.specs.OpenView.{AreNormalLists, IsNormalNext, the_point}
use Rattle.tableau_text.specs.Points.{Leads, inside}
use Rattle.tableau_text.proofs.PointLaws.{leads-both, none-behind}
use Rattle.tableau_text.proofs.values_reader.read_inside.Goals as goal

pub enter_list-requires-clause-lists : goal.enter_list-requires-clause-lists
enter_list-requires-clause-lists c = subst (AreNormalLists c.args.table.now) (sym c.new-stack.ensures.items) tt

pub loop-next-init : goal.loop-next-init
loop-next-init c = record { leads = rw c.new-stack.ensures.items at c.in_ok-next.ensures.ok; normal = c.in_ok-next.ensures.normal; grown = c.in_ok-next.ensures.grown }

pub read_on-requires-clause-lists : goal.read_on-requires-clause-lists
read_on-requires-clause-lists c = subst (IsNormalNext c.loop-next.table c.loop-next.stack.items) c.in-Further.is c.loop-next.invariant.normal

pub loop-next-preserved : goal.loop-next-preserved
loop-next-preserved c = record {
  leads = leads-both c.args.symbols.now _ _ _ (subst (λ n. Leads c.args.symbols.now (inside [] of_root c.args.text.now) (the_point c.loop-next.table c.loop-next.stack.items n c.loop-next.rest.now)) c.in-Further.is c.loop-next.invariant.leads) c.in_ok-found-in-Further.ensures.ok;
  normal = c.in_ok-found-in-Further.ensures.normal;
  grown = grown-both _ _ _ c.loop-next.invariant.grown c.in_ok-found-in-Further.ensures.grown;
}

pub returns-in-Whole-clause-ok : goal.returns-in-Whole-clause-ok
returns-in-Whole-clause-ok c = subst (λ n. Leads c.args.symbols.now (inside [] of_root c.args.text.now) (the_point c.loop-next.table c.loop-next.stack.items n c.loop-next.rest.now)) c.in-Whole.is c.loop-next.invariant.leads

pub returns-in-Whole-clause-normal : goal.returns-in-Whole-clause-normal
returns-in-Whole-clause-normal c = subst (IsNormalNext c.loop-next.table c.loop-next.stack.items) c.in-Whole.is c.loop-next.invariant.normal

pub returns-in_err-next-clause-none : goal.returns-in_err-next-clause-none
returns-in_err-next-clause-none c = λ e. rw c.new-stack.ensures.items at (c.in_err-next.ensures.none (error-passed c.from_residual.result c.in_err-next.field-0.0 _ c.from_residual.ensures.1 e))

pub returns-in_err-found-in-Further-clause-none : goal.returns-in_err-found-in-Further-clause-none
returns-in_err-found-in-Further-clause-none c = λ e.
    none-behind c.args.symbols.now _ _ (subst (λ n. Leads c.args.symbols.now (inside [] of_root c.args.text.now) (the_point c.loop-next.table c.loop-next.stack.items n c.loop-next.rest.now)) c.in-Further.is c.loop-next.invariant.leads)
    (c.in_err-found-in-Further.ensures.none (error-passed c.from_residual-in_err-found-in-Further.result c.in_err-found-in-Further.field-0.0 _ c.from_residual-in_err-found-in-Further.ensures.1 e))

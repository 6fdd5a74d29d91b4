use Rattle.std.proofs.Common.{refl}
use Rattle.formula_core.proofs.GrownLaws.{grown-both}
use Rattle.formula_text.proofs.Passing.{error-passed}
use Rattle.tableau_text.proofs.OpenLaws.{lists-normal}
use Rattle.tableau_text.proofs.PointLaws.{leads-both, none-behind}
use Rattle.tableau_text.proofs.StepLaws.{open-empty, open-no_empty, open-normal, open-push}
use Rattle.tableau_text.proofs.values_reader.enter_list.Goals as goal

pub put_item-requires-clause-lists : goal.put_item-requires-clause-lists
put_item-requires-clause-lists c = lists-normal c.args.table.now c.close.new.table c.in_ok-item.ensures.grown c.args.stack.now.items c.requires.lists

pub returns-clause-ok : goal.returns-clause-ok
returns-clause-ok c =
    leads-both c.args.symbols.now _ _ _
    (open-empty c.args.symbols.now c.requires.distinct c.requires.fits c.args.table.now c.close.new.table c.args.stack.now.items c.args.list c.in_ok-item.item c.args.text.now c.in-Some.after.now c.requires.fresh c.requires.lists c.in_ok-item.ensures.grown c.in-Some.ensures.some.0 c.in-Some.ensures.some.1 c.in_ok-item.ensures.made)
    c.in_ok-found.ensures.ok

pub returns-clause-grown : goal.returns-clause-grown
returns-clause-grown c = grown-both _ _ _ c.in_ok-item.ensures.grown c.in_ok-found.ensures.grown

pub returns-in_err-item-clause-none : goal.returns-in_err-item-clause-none
returns-in_err-item-clause-none c = λ e.
    open-no_empty c.args.symbols.now c.requires.fits c.args.table.now c.args.stack.now.items c.args.list c.args.text.now c.in-Some.after.now c.requires.fresh c.in-Some.ensures.some.1 (c.in_err-item.ensures.none (error-passed c.from_residual-in_err-item.result c.in_err-item.field-0.0 _ c.from_residual-in_err-item.ensures.1 e))

pub returns-in_err-found-clause-none : goal.returns-in_err-found-clause-none
returns-in_err-found-clause-none c = λ e.
    none-behind c.args.symbols.now _ _
    (open-empty c.args.symbols.now c.requires.distinct c.requires.fits c.args.table.now c.close.new.table c.args.stack.now.items c.args.list c.in_ok-item.item c.args.text.now c.in-Some.after.now c.requires.fresh c.requires.lists c.in_ok-item.ensures.grown c.in-Some.ensures.some.0 c.in-Some.ensures.some.1 c.in_ok-item.ensures.made)
    (c.in_err-found.ensures.none (error-passed c.from_residual-in_err-found.result c.in_err-found.field-0.0 _ c.from_residual-in_err-found.ensures.1 e))

pub returns-in_default-clause-ok : goal.returns-in_default-clause-ok
returns-in_default-clause-ok c =
    open-push c.args.symbols.now c.args.table.now c.args.stack.now.items c.push.new.self.items c.args.list c.args.text.now c.requires.fresh c.in_ok-push.ensures.items (c.in_default.ensures.none refl)

pub returns-in_default-clause-normal : goal.returns-in_default-clause-normal
returns-in_default-clause-normal c = open-normal c.args.table.now c.args.stack.now.items c.push.new.self.items c.args.list c.requires.fresh c.in_ok-push.ensures.items c.requires.lists

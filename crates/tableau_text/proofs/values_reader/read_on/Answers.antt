use Rattle.std.proofs.Common.{subst}
use Rattle.formula_text.proofs.Passing.{error-passed}
use Rattle.tableau_text.proofs.PointLaws.{leads-both, leaf, none-ahead, none-behind, open-list}
use Rattle.tableau_text.specs.ItemView.{the_item}
use Rattle.tableau_text.specs.OpenView.{IsFresh, frames, the_beginning, the_head}
use Rattle.tableau_text.specs.Tokens.{IsBeginning}
use Rattle.tableau_text.proofs.values_reader.read_on.Goals as goal

pub returns-in_err-begun-clause-none : goal.returns-in_err-begun-clause-none
returns-in_err-begun-clause-none c = λ e.
    none-ahead c.args.symbols.now (frames c.args.table.now c.args.stack.now.items) c.args.text.now (c.in_err-begun.ensures.none (error-passed c.from_residual.result c.in_err-begun.field-0.0 _ c.from_residual.ensures.1 e))

pub put_item-requires-clause-normal : goal.put_item-requires-clause-normal
put_item-requires-clause-normal c = subst (IsFresh c.args.table.now) c.in-Leaf.is c.in_ok-begun.ensures.fresh

pub enter_list-requires-clause-fresh : goal.enter_list-requires-clause-fresh
enter_list-requires-clause-fresh c = subst (IsFresh c.args.table.now) c.in-Open.is c.in_ok-begun.ensures.fresh

pub returns-in_ok-found-in-Leaf-clause-ok : goal.returns-in_ok-found-in-Leaf-clause-ok
returns-in_ok-found-in-Leaf-clause-ok c =
    leads-both c.args.symbols.now _ _ _ (leaf c.args.symbols.now (frames c.args.table.now c.args.stack.now.items) (the_item c.args.table.now c.in-Leaf.item) c.args.text.now c.in_ok-begun.rest.now (subst (λ b. IsBeginning c.args.symbols.now c.args.text.now (the_beginning c.args.table.now b) c.in_ok-begun.rest.now) c.in-Leaf.is c.in_ok-begun.ensures.ok)) c.in_ok-found-in-Leaf.ensures.ok

pub returns-in_ok-found-in-Open-clause-ok : goal.returns-in_ok-found-in-Open-clause-ok
returns-in_ok-found-in-Open-clause-ok c =
    leads-both c.args.symbols.now _ _ _ (open-list c.args.symbols.now (frames c.args.table.now c.args.stack.now.items) (the_head c.in-Open.list) c.args.text.now c.in_ok-begun.rest.now (subst (λ b. IsBeginning c.args.symbols.now c.args.text.now (the_beginning c.args.table.now b) c.in_ok-begun.rest.now) c.in-Open.is c.in_ok-begun.ensures.ok)) c.in_ok-found-in-Open.ensures.ok

pub returns-in_err-found-in-Leaf-clause-none : goal.returns-in_err-found-in-Leaf-clause-none
returns-in_err-found-in-Leaf-clause-none c = λ e.
    none-behind c.args.symbols.now _ _ (leaf c.args.symbols.now (frames c.args.table.now c.args.stack.now.items) (the_item c.args.table.now c.in-Leaf.item) c.args.text.now c.in_ok-begun.rest.now (subst (λ b. IsBeginning c.args.symbols.now c.args.text.now (the_beginning c.args.table.now b) c.in_ok-begun.rest.now) c.in-Leaf.is c.in_ok-begun.ensures.ok)) (c.in_err-found-in-Leaf.ensures.none (error-passed c.from_residual-in_err-found-in-Leaf.result c.in_err-found-in-Leaf.field-0.0 _ c.from_residual-in_err-found-in-Leaf.ensures.1 e))

pub returns-in_err-found-in-Open-clause-none : goal.returns-in_err-found-in-Open-clause-none
returns-in_err-found-in-Open-clause-none c = λ e.
    none-behind c.args.symbols.now _ _ (open-list c.args.symbols.now (frames c.args.table.now c.args.stack.now.items) (the_head c.in-Open.list) c.args.text.now c.in_ok-begun.rest.now (subst (λ b. IsBeginning c.args.symbols.now c.args.text.now (the_beginning c.args.table.now b) c.in_ok-begun.rest.now) c.in-Open.is c.in_ok-begun.ensures.ok)) (c.in_err-found-in-Open.ensures.none (error-passed c.from_residual-in_err-found-in-Open.result c.in_err-found-in-Open.field-0.0 _ c.from_residual-in_err-found-in-Open.ensures.1 e))

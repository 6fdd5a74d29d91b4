use Rattle.std.proofs.Common.{◌∙◌, ◌++◌, [], ap}
use Rattle.calculus.specs.Clauses.{selections}
use Rattle.formula_core.specs.FormulaView.{the_formula}
use Rattle.matrix_build.specs.Behind.{behind}
use Rattle.matrix_build.proofs.Behind.{beta-added, alpha-added}
use Rattle.matrix_build.proofs.selections.+add_selections.Goals as goal

pub add_alpha-returns : goal.add_alpha-returns
add_alpha-returns t c =
    let xs = selections (the_formula c.args.a.formula.now) c.args.a.sign in
    let ys = selections (the_formula c.args.b.formula.now) c.args.b.sign in
    alpha-added c.args.before.now xs ys c.args.all.now.items c.add_selections.new.all.items c.add_selections-2.new.all.items
    (c.in_ok-add_selections.ensures ∙ ap (λ ds. c.args.all.now.items ++ behind ds xs) (c.deref.ensures.value ∙ c.in_ok-left.ensures))
    (c.in_ok-add_selections-2.ensures ∙ ap (λ ds. c.add_selections.new.all.items ++ behind ds ys) (c.deref-2.ensures.value ∙ c.in_ok-right.ensures))

pub add_beta-returns : goal.add_beta-returns
add_beta-returns t c =
    let xs = selections (the_formula c.args.a.formula.now) c.args.a.sign in
    let ys = selections (the_formula c.args.b.formula.now) c.args.b.sign in
    beta-added c.args.before.now xs ys c.deref-sides-items.result.now c.add_selections-2.new.all.items c.loop-sides.sides-index c.args.all.now.items c.loop-sides.all.items c.loop-sides-test.false
    (c.deref-sides-items.ensures.value ∙ c.in_ok-add_selections.ensures ∙ ap (λ cs. cs ++ behind c.args.before.now xs) c.new-first.ensures.items)
    (c.in_ok-add_selections-2.ensures ∙ ap (λ cs. cs ++ behind [] ys) c.new-second.ensures.items)
    c.loop-sides.invariant

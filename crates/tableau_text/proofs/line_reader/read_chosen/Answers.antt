use Rattle.formula_core.specs.GroundLists.{the_values}
use Rattle.calculus.specs.Ground.{values_tree}
use Rattle.formula_text.proofs.Passing.{error-passed}
use Rattle.tableau_text.proofs.SideLaws.{chosen-read, no-chosen_sides, no-chosen_values}
use Rattle.tableau_text.proofs.line_reader.read_chosen.Goals as goal

pub returns-clause-ok : goal.returns-clause-ok
returns-clause-ok c = chosen-read c.args.symbols.now c.args.text.now c.in_ok-selection.rest.now c.in_ok-selection.selection (the_values c.read_values.new.table c.in_ok-values.values) c.in_ok-selection.ensures.ok c.in_ok-values.ensures.ok

pub returns-in_err-selection-clause-none : goal.returns-in_err-selection-clause-none
returns-in_err-selection-clause-none c = λ e. no-chosen_sides c.args.symbols.now c.args.text.now (c.in_err-selection.ensures.none (error-passed c.from_residual.result c.in_err-selection.field-0.0 _ c.from_residual.ensures.1 e))

pub returns-in_err-values-clause-none : goal.returns-in_err-values-clause-none
returns-in_err-values-clause-none c = λ e.
    no-chosen_values c.args.symbols.now c.args.text.now c.in_ok-selection.rest.now c.in_ok-selection.selection c.in_ok-selection.ensures.ok (λ vs. c.in_err-values.ensures.none (error-passed c.from_residual-in_err-values.result c.in_err-values.field-0.0 _ c.from_residual-in_err-values.ensures.1 e) (values_tree vs))

use Rattle.formula_text.proofs.Passing.{error-passed}
use Rattle.tableau_text.specs.MovesView.{the_chosen}
use Rattle.tableau_text.proofs.SideLaws.{extension-read, no-extension_chosen, no-extension_place}
use Rattle.tableau_text.proofs.line_reader.read_extension.Goals as goal

pub returns-clause-ok : goal.returns-clause-ok
returns-clause-ok c = extension-read c.args.symbols.now c.args.text.now c.in_ok-place.rest.now c.in_ok-place.place (the_chosen c.read_chosen.new.table c.in_ok-chosen.chosen) c.in_ok-place.ensures.ok c.in_ok-chosen.ensures.ok

pub returns-in_err-place-clause-none : goal.returns-in_err-place-clause-none
returns-in_err-place-clause-none c = λ e. no-extension_place c.args.symbols.now c.args.text.now (c.in_err-place.ensures.none (error-passed c.from_residual.result c.in_err-place.field-0.0 _ c.from_residual.ensures.1 e))

pub returns-in_err-chosen-clause-none : goal.returns-in_err-chosen-clause-none
returns-in_err-chosen-clause-none c = λ e.
    no-extension_chosen c.args.symbols.now c.args.text.now c.in_ok-place.rest.now c.in_ok-place.place c.in_ok-place.ensures.ok (c.in_err-chosen.ensures.none (error-passed c.from_residual-in_err-chosen.result c.in_err-chosen.field-0.0 _ c.from_residual-in_err-chosen.ensures.1 e))

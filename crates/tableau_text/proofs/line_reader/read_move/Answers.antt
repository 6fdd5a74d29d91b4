use Rattle.formula_text.proofs.Passing.{error-passed}
use Rattle.tableau_text.specs.MovesView.{the_chosen}
use Rattle.tableau_text.proofs.StepLaws.{grown-same}
use Rattle.tableau_text.proofs.SideLaws.{extension-line, no-extension, reduction-read}
use Rattle.tableau_text.proofs.line_reader.read_move.Goals as goal

pub returns-in-Some-clause-ok : goal.returns-in-Some-clause-ok
returns-in-Some-clause-ok c = reduction-read c.args.symbols.now c.args.line.now c.in-Some.rest.now c.in_ok-up.up c.in-Some.ensures.some c.in_ok-up.ensures.ok

pub returns-clause-ok : goal.returns-clause-ok
returns-clause-ok c = extension-line c.args.symbols.now c.args.line.now c.in-Some-rest_after.rest.now c.in_ok-place.place (the_chosen c.read_extension.new.table c.in_ok-place.chosen) c.in-Some-rest_after.ensures.some c.in_ok-place.ensures.ok

pub returns-in_err-place-clause-none : goal.returns-in_err-place-clause-none
returns-in_err-place-clause-none c = λ e.
    no-extension c.args.symbols.now c.args.line.now c.in-Some-rest_after.rest.now c.in-Some-rest_after.ensures.some (c.in_err-place.ensures.none (error-passed c.from_residual-in_err-place.result c.in_err-place.field-0.0 _ c.from_residual-in_err-place.ensures.1 e))

pub returns-in-Some-clause-grown : goal.returns-in-Some-clause-grown
returns-in-Some-clause-grown c = grown-same c.args.table.now c.len-called_for_its_bound.result c.len-called_for_its_bound.ensures.len c.len-called_for_its_bound.ensures.most

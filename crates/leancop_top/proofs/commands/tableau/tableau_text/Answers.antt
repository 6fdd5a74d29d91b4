use Rattle.leancop_top.proofs.Tableaux.{stated}
use Rattle.tableau_core.specs.Numbered.TableauView.{the_tableau}
use Rattle.leancop_top.proofs.commands.tableau.tableau_text.Goals as goal

pub returns : goal.returns
returns c =
    stated c.args.problem.now c.symbols-symbols.ensures.well (the_tableau c.args.found) c.args.limit c.in_ok-text.text.items c.in_ok-text.ensures

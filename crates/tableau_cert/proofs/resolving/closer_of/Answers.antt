use Rattle.std.proofs.Common.{ap, refl}
use Rattle.tableau_text.specs.MovesView.{the_chosen, the_move}
use Rattle.tableau_cert.proofs.FoundLaws.{closer-found, closer-reduced}
use Rattle.tableau_cert.proofs.resolving.closer_of.Goals as goal

pub returns-in-Reduction : goal.returns-in-Reduction
returns-in-Reduction c = closer-reduced c.args.problem.now c.args.table.now (the_move c.args.given.now c.args.given_move.now) c.in-Reduction.up _ _ c.requires.grown.most (ap (the_move c.args.given.now) c.in-Reduction.is) refl refl

pub returns-in_ok-found-in-Extension : goal.returns-in_ok-found-in-Extension
returns-in_ok-found-in-Extension c = closer-found c.args.problem.now c.args.given.now c.args.table.now c.find.new.table (the_move c.args.given.now c.args.given_move.now) c.in-Extension.place (the_chosen c.args.given.now c.in-Extension.chosen) c.in_ok-found-in-Extension.found _ _ (ap (the_move c.args.given.now) c.in-Extension.is) c.extension.ensures.closer c.extension.ensures.steps c.in_ok-found-in-Extension.ensures

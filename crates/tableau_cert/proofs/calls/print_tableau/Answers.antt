use Rattle.tableau_core.specs.Numbered.TableauView.{the_tableau}
use Rattle.tableau_text.specs.MovesView.{the_moves}
use Rattle.tableau_cert.proofs.NumberLaws.{closed-moves, closed-text}
use Rattle.tableau_cert.proofs.calls.print_tableau.Goals as goal

pub write-requires : goal.write-requires
write-requires c = closed-moves c.args.problem.now (the_tableau c.args.t.now) c.args.limit (the_moves c.in_ok-moves.moves) c.in_ok-moves.ensures c.requires.limit c.requires.closed c.moves_fit.ensures

pub returns : goal.returns
returns c = closed-text c.args.problem.now (the_tableau c.args.t.now) c.args.limit (the_moves c.in_ok-moves.moves) c.in_ok-text.text.items c.in_ok-moves.ensures c.requires.closed c.in_ok-text.ensures

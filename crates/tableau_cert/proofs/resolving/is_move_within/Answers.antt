use Rattle.std.proofs.Common.{ap, sym, ◌∙◌}
use Rattle.tableau_text.specs.MovesView.{the_move}
use Rattle.tableau_cert.specs.Resolving.{is_move_within}
use Rattle.tableau_cert.proofs.resolving.is_move_within.Goals as goal

pub returns-in-Reduction : goal.returns-in-Reduction
returns-in-Reduction c n e = sym (ap (λ m. is_move_within n (the_move c.args.table.now m)) c.in-Reduction.is)

pub returns-in-Extension : goal.returns-in-Extension
returns-in-Extension c n e = c.are_within.ensures n e ∙ sym (ap (λ m. is_move_within n (the_move c.args.table.now m)) c.in-Extension.is)

use Rattle.std.proofs.Common.{◌&&◌, ap, map, sym, ◌∙◌}
use Rattle.calculus.specs.Skolem.{is_allowed}
use Rattle.formula_core.specs.GroundLists.{the_g_term}
use Rattle.tableau_core.specs.Numbered.Ahead.{are_ahead_allowed}
use Rattle.tableau_core.specs.Numbered.SpotView.{the_mark_at}
use Rattle.tableau_core.proofs.allowance.is_item_allowed.Goals as goal

pub returns-in_ok-allowed-in-Own-clause-allowed : goal.returns-in_ok-allowed-in-Own-clause-allowed
returns-in_ok-allowed-in-Own-clause-allowed c = let P = c.args.problem.now in let ls = c.args.table.now in let w = map (the_mark_at ls) c.args.at.now in
    ap (λ b. b && are_ahead_allowed P w ls c.args.ahead.now.keys) (c.in_ok-allowed-in-Own.ensures c.in-Own.field-0 ∙ sym (ap (λ x. is_allowed P w (the_g_term ls x)) c.in-Own.is))

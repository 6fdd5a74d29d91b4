use Rattle.std.proofs.Common.{◌∙◌, IsTrue, ap, subst, sym}
use Rattle.calculus.specs.Space.{has_labels}
use Rattle.calculus.specs.Syntax.{Setting}
use Rattle.term_store.specs.SystemView.{the_system}
use Rattle.tableau_reading.proofs.SolvingLaws.{counted-by, solved-by, found-of}
use Rattle.tableau_reading.proofs.solving.solve_by.Goals as goal

pub solve-requires-clause-labels : goal.solve-requires-clause-labels
solve-requires-clause-labels g c = subst (λ l. IsTrue (has_labels l)) (sym (c.logic-logic.ensures ∙ ap (λ (z : Setting). z.logic) c.setting.ensures.setting)) c.requires.labels

pub returns-in_err-solved-clause-counted : goal.returns-in_err-solved-clause-counted
returns-in_err-solved-clause-counted g c = counted-by c.args.problem.now c.args.store.now.store (the_system c.args.system.now) c.logic-logic.result (g.M.Demand.holds_for c.args.demand.now) c.args.ledger.now.used c.solve.new.ledger.used (c.logic-logic.ensures ∙ ap (λ (z : Setting). z.logic) c.setting.ensures.setting) c.requires.demand c.solve.ensures.counted

pub returns-clause-solved : goal.returns-clause-solved
returns-clause-solved g c = solved-by c.args.problem.now c.args.store.now.store c.solve.new.store.store (the_system c.args.system.now) c.logic-logic.result (g.M.Demand.holds_for c.args.demand.now) c.args.ledger.now.used c.solve.new.ledger.used c.solve.new.ledger.budget c.in_ok-solved.solved (c.logic-logic.ensures ∙ ap (λ (z : Setting). z.logic) c.setting.ensures.setting) c.requires.demand c.in_ok-solved.ensures.none c.in_ok-solved.ensures.steps c.in_ok-solved.ensures.more_early c.in_ok-solved.ensures.unchanged

pub returns-clause-counted : goal.returns-clause-counted
returns-clause-counted g c = counted-by c.args.problem.now c.args.store.now.store (the_system c.args.system.now) c.logic-logic.result (g.M.Demand.holds_for c.args.demand.now) c.args.ledger.now.used c.solve.new.ledger.used (c.logic-logic.ensures ∙ ap (λ (z : Setting). z.logic) c.setting.ensures.setting) c.requires.demand c.solve.ensures.counted

pub returns-clause-found : goal.returns-clause-found
returns-clause-found g c = λ e. found-of c.args.problem.now (g.M.Demand.problem c.args.demand.now) c.args.store.now.store c.solve.new.store.store (the_system c.args.system.now) c.logic-logic.result (g.M.Demand.holds_for c.args.demand.now) (g.M.Demand.common c.args.demand.now) c.requires.problem (c.logic-logic.ensures ∙ ap (λ (z : Setting). z.logic) c.setting.ensures.setting) c.requires.demand c.requires.common c.mark-after.ensures.well (c.in_ok-solved.ensures.back e) (c.in_ok-solved.ensures.found e)

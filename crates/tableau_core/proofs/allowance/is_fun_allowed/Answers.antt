use Rattle.std.proofs.Common.{ap, length, map, sym, ◌∙◌}
use Rattle.std.proofs.lemmas.List.{length-map}
use Rattle.formula_core.specs.GroundLists.{the_g_term, the_terms}
use Rattle.tableau_core.specs.Numbered.SpotView.{the_mark_at}
use Rattle.tableau_core.proofs.Numbered.AheadLaws.{fun-bound, fun-filled}
use Rattle.tableau_core.proofs.allowance.is_fun_allowed.Goals as goal

pub returns-clause-allowed : goal.returns-clause-allowed
returns-clause-allowed c f = let ls = c.args.table.now in
    fun-filled c.args.problem.now (map (the_mark_at ls) c.args.at.now) ls f (length c.terms.result.now) c.args.args c.is_empty.result c.args.ahead.now.keys c.insert.new.self.keys (sym (length-map c.terms.result.now (the_g_term ls)) ∙ ap length c.terms.ensures.list) c.is_empty.ensures c.if-is_empty.false c.in_ok-insert.ensures.keys

pub returns-clause-bound : goal.returns-clause-bound
returns-clause-bound c n h = let ls = c.args.table.now in
    fun-bound (the_terms ls c.args.args) (length c.terms.result.now) c.args.args.0 n c.is_empty.result c.args.ahead.now.keys c.insert.new.self.keys h (sym (length-map c.terms.result.now (the_g_term ls)) ∙ ap length c.terms.ensures.list) c.is_empty.ensures c.if-is_empty.false c.in_ok-insert.ensures.keys

use Rattle.std.proofs.Common.{◌∙◌, ap, map}
use Rattle.formula_core.specs.GroundLists.{the_g_term}
use Rattle.term_store.specs.RefView.{the_place}
use Rattle.tableau_reading.proofs.GroundLaws.{function-made}
use Rattle.tableau_reading.proofs.grounds.Grounds.function.Goals as goal

pub returns-clause-value : goal.returns-clause-value
returns-clause-value c = λ σ sv am. function-made c.add_terms.new.self σ c.args.f (map the_place c.args.refs.now) c.in_ok-args.args _ c.in_ok-args.ensures.normal c.in_ok-args.ensures.list (ap (map (the_g_term c.args.self.now.table)) c.deref.ensures.value ∙ c.in_ok-items.ensures σ sv am)

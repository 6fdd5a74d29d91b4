use Rattle.std.proofs.Common.{◌∙◌, ap, map}
use Rattle.formula_core.specs.GroundLists.{the_value}
use Rattle.term_store.specs.RefView.{the_place}
use Rattle.tableau_reading.proofs.GroundLaws.{eigen-made}
use Rattle.tableau_reading.proofs.grounds.Grounds.eigen.Goals as goal

pub returns-clause-value : goal.returns-clause-value
returns-clause-value c = λ σ sv am. eigen-made c.add_values.new.self σ c.args.p (map the_place c.args.refs.now) c.in_ok-values.values _ c.in_ok-values.ensures.normal c.in_ok-values.ensures.list (ap (map (the_value c.args.self.now.table)) c.deref.ensures.value ∙ c.in_ok-items.ensures σ sv am)

use Rattle.std.proofs.Common.{◌∙◌, ap, map}
use Rattle.formula_core.specs.GroundLists.{the_mark}
use Rattle.term_store.specs.RefView.{the_place}
use Rattle.tableau_reading.proofs.GroundLaws.{string-made}
use Rattle.tableau_reading.proofs.grounds.Grounds.string.Goals as goal

pub returns-clause-value : goal.returns-clause-value
returns-clause-value c = λ σ sv am. string-made c.add_marks.new.self σ (map the_place c.args.refs.now) c.in_ok-label.label _ c.in_ok-label.ensures.normal c.in_ok-label.ensures.list (ap (map (the_mark c.args.self.now.table)) c.deref.ensures.value ∙ c.in_ok-items.ensures σ sv am)

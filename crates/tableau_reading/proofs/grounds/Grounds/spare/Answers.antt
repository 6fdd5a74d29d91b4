use Rattle.std.proofs.Common.{◌∙◌, ap, map, sym}
use Rattle.formula_core.specs.GroundLists.{the_mark}
use Rattle.search_theory.specs.States.{label_by}
use Rattle.term_store.specs.RefView.{the_place}
use Rattle.tableau_reading.proofs.GroundLaws.{common-made, grown-self, own-made}
use Rattle.tableau_reading.proofs.PartLaws.{home-common, home-own}
use Rattle.tableau_reading.proofs.grounds.Grounds.spare.Goals as goal

pub returns-then-is_common-clause-value : goal.returns-then-is_common-clause-value
returns-then-is_common-clause-value c = λ σ sv am. common-made c.args.self.now.table c.args.v.0 _ (label_by σ (map the_place c.args.refs.now)) (home-common c.args.homes.now c.args.v.0 (sym c.is_common.ensures ∙ c.if-is_common.true))

pub returns-then-is_common-clause-grown : goal.returns-then-is_common-clause-grown
returns-then-is_common-clause-grown c = grown-self c.args.self.now.table c.requires.most

pub returns-clause-value : goal.returns-clause-value
returns-clause-value c = λ σ sv am. own-made c.add_marks.new.self σ c.args.v.0 _ _ (map the_place c.args.refs.now) c.in_ok-label.label _ (home-own c.args.homes.now c.args.v.0 (sym c.is_common.ensures ∙ c.if-is_common.false)) c.in_ok-label.ensures.normal c.in_ok-label.ensures.list (ap (map (the_mark c.args.self.now.table)) c.deref.ensures.value ∙ c.in_ok-items.ensures σ sv am)

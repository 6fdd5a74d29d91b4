use Rattle.std.proofs.Common.{◌∙◌, subst, sym}
use Rattle.store_theory.specs.Bindings.{KeepsMarks}
use Rattle.store_theory.proofs.BindingLaws.{KeepsMarks-same}
use Rattle.term_store.specs.StoreView.{the_mark}
use Rattle.term_store.proofs.store.Store.copy_clause.Goals as goal

pub undo-requires : goal.undo-requires
undo-requires c = (c.add_whole.ensures.marks (the_mark c.mark-start.result) c.mark-start.ensures.good).0

pub returns-in-Err-clause-err : goal.returns-in-Err-clause-err
returns-in-Err-clause-err c = c.undo.ensures.store ∙ (c.add_whole.ensures.marks (the_mark c.mark-start.result) c.mark-start.ensures.good).1 ∙ c.mark-start.ensures.whole

pub returns-in-Err-clause-marks : goal.returns-in-Err-clause-marks
returns-in-Err-clause-marks c = subst (KeepsMarks c.args.self.now.store) (sym (returns-in-Err-clause-err c)) (KeepsMarks-same c.args.self.now.store)

use Rattle.std.proofs.Common.{◌∙◌, subst, sym}
use Rattle.store_theory.specs.Bindings.{AddsOver, KeepsMarks}
use Rattle.store_theory.proofs.BindingLaws.{KeepsMarks-same}
use Rattle.store_theory.proofs.PatternLaws.{KeepsMarks-built}
use Rattle.term_store.specs.RefView.{the_places}
use Rattle.term_store.specs.StoreView.{the_mark}
use Rattle.term_store.proofs.OwnLaws.{names-same}
use Rattle.term_store.proofs.store.Store.copy_rest.Goals as goal

pub undo-requires : goal.undo-requires
undo-requires c = (KeepsMarks-built c.args.self.now.store c.add_rest.new.self.store c.add_rest.ensures.adds.built (the_mark c.mark-start.result) c.mark-start.ensures.good).0

pub returns-in-Err-clause-err : goal.returns-in-Err-clause-err
returns-in-Err-clause-err c = c.undo.ensures.store ∙ (KeepsMarks-built c.args.self.now.store c.add_rest.new.self.store c.add_rest.ensures.adds.built (the_mark c.mark-start.result) c.mark-start.ensures.good).1 ∙ c.mark-start.ensures.whole

pub returns-in-Err-clause-marks : goal.returns-in-Err-clause-marks
returns-in-Err-clause-marks c = subst (KeepsMarks c.args.self.now.store) (sym (returns-in-Err-clause-err c)) (KeepsMarks-same c.args.self.now.store)

pub returns-in-Ok-clause-marks : goal.returns-in-Ok-clause-marks
returns-in-Ok-clause-marks c = KeepsMarks-built c.args.self.now.store c.add_rest.new.self.store c.in-Ok.ensures.adds.built

pub returns-in-Err-clause-adds : goal.returns-in-Err-clause-adds
returns-in-Err-clause-adds c = subst (AddsOver (the_places c.args.variables) c.args.self.now.store) (sym (returns-in-Err-clause-err c)) (names-same (the_places c.args.variables) c.args.self.now.store)

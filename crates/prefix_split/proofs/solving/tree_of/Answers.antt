use Rattle.std.proofs.Common.{◌≡◌, ◌∙◌, true, subst, sym}
use Rattle.std.specs.List.{AllByRecursion}
use Rattle.std.proofs.lemmas.Result.{IfOk-weaker}
use Rattle.store_theory.specs.Bindings.{KeepsMarks}
use Rattle.store_theory.specs.Stores.{Solution, Solves}
use Rattle.store_theory.specs.Systems.{AreEqual, Differ, HasBoundedSolution, IsStep, MeetsDemand}
use Rattle.store_theory.proofs.BindingLaws.{KeepsMarks-same}
use Rattle.store_theory.proofs.PatternLaws.{KeepsMarks-built}
use Rattle.term_store.specs.Asking.{Asks}
use Rattle.term_store.specs.StoreView.{the_mark}
use Rattle.term_store.specs.SystemView.{the_system}
use Rattle.prefix_split.proofs.SearchLaws.{refuted-before}
use Rattle.prefix_split.proofs.solving.tree_of.Goals as goal

pub undo-requires : goal.undo-requires
undo-requires g c = (KeepsMarks-built c.args.store.now.store c.demanded_tree-made.new.store.store c.demanded_tree-made.ensures.adds (the_mark c.mark-start.result) c.mark-start.ensures.good).0

pub returns-clause-refuted : goal.returns-clause-refuted
returns-clause-refuted g c = IfOk-weaker c.demanded_tree-made.result (λ tree. tree.order.is_refuted ≡ true → (σ : Solution) → Solves c.demanded_tree-made.new.store.store σ → AllByRecursion (IsStep c.args.logic σ) (the_system c.args.system.now).strings → MeetsDemand (Asks (g.M.Demand.holds_for c.args.more.now)) (the_system c.args.system.now) σ → AllByRecursion (Differ σ) (the_system c.args.system.now).pairs → ¬ AllByRecursion (AreEqual σ) (the_system c.args.system.now).equations) (λ tree. tree.order.is_refuted ≡ true → ¬ HasBoundedSolution c.args.logic (Asks (g.M.Demand.holds_for c.args.more.now)) c.args.store.now.store (the_system c.args.system.now)) (λ tree h. refuted-before c.args.logic (Asks (g.M.Demand.holds_for c.args.more.now)) c.args.store.now.store c.demanded_tree-made.new.store.store (the_system c.args.system.now) tree.order.is_refuted c.requires.fits c.demanded_tree-made.ensures.adds h) c.demanded_tree-made.ensures.refuted

pub returns-clause-unchanged : goal.returns-clause-unchanged
returns-clause-unchanged g c = c.undo.ensures.store ∙ (KeepsMarks-built c.args.store.now.store c.demanded_tree-made.new.store.store c.demanded_tree-made.ensures.adds (the_mark c.mark-start.result) c.mark-start.ensures.good).1 ∙ c.mark-start.ensures.whole

pub returns-clause-marks : goal.returns-clause-marks
returns-clause-marks g c = subst (KeepsMarks c.args.store.now.store) (sym (c.undo.ensures.store ∙ (KeepsMarks-built c.args.store.now.store c.demanded_tree-made.new.store.store c.demanded_tree-made.ensures.adds (the_mark c.mark-start.result) c.mark-start.ensures.good).1 ∙ c.mark-start.ensures.whole)) (KeepsMarks-same c.args.store.now.store)

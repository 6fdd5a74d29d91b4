use Rattle.std.proofs.Common.{List, OnOk, ◌∷◌, ◌≡◌, subst, sym}
use Rattle.calculus.specs.Choices.{GroundChoice}
use Rattle.store_theory.specs.Stores.{Solution}
use Rattle.search_theory.specs.Joined.{closings_by}
use Rattle.search_theory.specs.States.{choice_at, name_of}
use Rattle.tableau_reading.specs.Grounds.{AreSparesAt}
use Rattle.tableau_reading.specs.Reading.{AreClosingsOf, IsInner, stacked, stacked_names}
use Rattle.tableau_reading.specs.Readable.{IsReadableStep}
use Rattle.search_tree.specs.Trees.{the_step}
use Rattle.tableau_reading.proofs.BuiltLaws.{on-weaker}
use Rattle.tableau_reading.proofs.GroundLaws.{grown-self}
use Rattle.tableau_reading.proofs.ReadOffLaws.{on-ok}
use Rattle.tableau_reading.proofs.closings.add_closing.Goals as goal

pub returns-in-Reduce-clause-names : goal.returns-in-Reduce-clause-names
returns-in-Reduce-clause-names c = subst (λ x. OnOk c.add_reduction.result (stacked_names c.add_reduction.new.stack.items ≡ name_of (the_step c.args.from.now.matrix.now x) ∷ stacked_names c.args.stack.now.items)) (sym c.in-Reduce.is) c.add_reduction.ensures.names

pub returns-in-Reduce-clause-reading : goal.returns-in-Reduce-clause-reading
returns-in-Reduce-clause-reading c = on-ok c.add_reduction.result _ c.requires.reading

pub returns-in-Reduce-clause-grown : goal.returns-in-Reduce-clause-grown
returns-in-Reduce-clause-grown c = on-ok c.add_reduction.result _ (grown-self c.args.grounds.now.table c.requires.reading.most)

pub add_extension-requires-clause-step : goal.add_extension-requires-clause-step
add_extension-requires-clause-step c = subst (IsReadableStep c.args.from.now.store.now.store c.args.from.now.matrix.now) c.in-Extend.is c.requires.step

pub returns-in-Extend-clause-names : goal.returns-in-Extend-clause-names
returns-in-Extend-clause-names c = subst (λ x. OnOk c.add_extension.result (stacked_names c.add_extension.new.stack.items ≡ name_of (the_step c.args.from.now.matrix.now x) ∷ stacked_names c.args.stack.now.items)) (sym c.in-Extend.is) c.add_extension.ensures.names

pub returns-in-Reduce-clause-built : goal.returns-in-Reduce-clause-built
returns-in-Reduce-clause-built c = subst (λ x. OnOk c.add_reduction.result ((σ : Solution) → AreSparesAt c.args.from.now.store.now.store c.args.from.now.homes.now σ → (gs : List GroundChoice) → AreClosingsOf c.args.grounds.now.table (stacked c.args.stack.now.items) (closings_by gs) → AreClosingsOf c.args.grounds.now.table (stacked c.add_reduction.new.stack.items) (closings_by (choice_at σ (the_step c.args.from.now.matrix.now x) ∷ gs)))) (sym c.in-Reduce.is)
    (on-weaker c.add_reduction.result _ _ (λ h σ sp gs k. h c.args.grounds.now.table gs k) c.add_reduction.ensures.built)

pub returns-in-Extend-clause-built : goal.returns-in-Extend-clause-built
returns-in-Extend-clause-built c = subst (λ x. OnOk c.add_extension.result ((σ : Solution) → AreSparesAt c.args.from.now.store.now.store c.args.from.now.homes.now σ → (gs : List GroundChoice) → AreClosingsOf c.args.grounds.now.table (stacked c.args.stack.now.items) (closings_by gs) → AreClosingsOf c.add_extension.new.grounds.table (stacked c.add_extension.new.stack.items) (closings_by (choice_at σ (the_step c.args.from.now.matrix.now x) ∷ gs)))) (sym c.in-Extend.is) c.add_extension.ensures.built

use Rattle.std.proofs.Common.{◌≡◌, ◌∙◌, map, subst, sym, false}
use Rattle.store_theory.specs.Bindings.{BindsOnly, KeepsMarks}
use Rattle.store_theory.proofs.BindingLaws.{KeepsMarks-same}
use Rattle.term_store.specs.StoreView.{the_mark}
use Rattle.term_unify.specs.PairView.{the_pair}
use Rattle.term_unify.specs.Steps.{BindsInPairs}
use Rattle.term_unify.proofs.PairLaws.{BindsInPairs-same, BindsOnly-same, IfOk-always, OnErr-always}
use Rattle.term_unify.proofs.solve.unify_pairs.Goals as goal

pub undo-requires : goal.undo-requires
undo-requires c = (c.solve_pairs-answer.ensures.marks (the_mark c.mark-start.result) c.mark-start.ensures.good).0

pub returns-clause-unchanged : goal.returns-clause-unchanged
returns-clause-unchanged c =
    let back : c.undo.new.self.store ≡ c.args.store.now.store = c.undo.ensures.store ∙ (c.solve_pairs-answer.ensures.marks (the_mark c.mark-start.result) c.mark-start.ensures.good).1 ∙ c.mark-start.ensures.whole in
    IfOk-always c.match-answer.answer (λ e. e ≡ false → c.undo.new.self.store ≡ c.args.store.now.store) (λ e f. back)

pub returns-clause-no_memory : goal.returns-clause-no_memory
returns-clause-no_memory c =
    let back : c.undo.new.self.store ≡ c.args.store.now.store = c.undo.ensures.store ∙ (c.solve_pairs-answer.ensures.marks (the_mark c.mark-start.result) c.mark-start.ensures.good).1 ∙ c.mark-start.ensures.whole in
    OnErr-always c.match-answer.answer (c.undo.new.self.store ≡ c.args.store.now.store) back

pub returns-clause-marks : goal.returns-clause-marks
returns-clause-marks c =
    let back = c.undo.ensures.store ∙ (c.solve_pairs-answer.ensures.marks (the_mark c.mark-start.result) c.mark-start.ensures.good).1 ∙ c.mark-start.ensures.whole in
    subst (KeepsMarks c.args.store.now.store) (sym back) (KeepsMarks-same c.args.store.now.store)

pub returns-clause-binds : goal.returns-clause-binds
returns-clause-binds c =
    let back = c.undo.ensures.store ∙ (c.solve_pairs-answer.ensures.marks (the_mark c.mark-start.result) c.mark-start.ensures.good).1 ∙ c.mark-start.ensures.whole in
    subst (BindsOnly c.args.store.now.store) (sym back) (BindsOnly-same c.args.store.now.store)

pub returns-clause-within : goal.returns-clause-within
returns-clause-within c =
    let back = c.undo.ensures.store ∙ (c.solve_pairs-answer.ensures.marks (the_mark c.mark-start.result) c.mark-start.ensures.good).1 ∙ c.mark-start.ensures.whole in
    subst (BindsInPairs (map the_pair c.args.pairs.now.items) c.args.store.now.store) (sym back) (BindsInPairs-same (map the_pair c.args.pairs.now.items) c.args.store.now.store)

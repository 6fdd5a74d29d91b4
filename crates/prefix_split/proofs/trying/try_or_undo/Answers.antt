use Rattle.std.proofs.Common.{◌≡◌, ◌∙◌, false, refl, subst, sym}
use Rattle.store_theory.specs.Bindings.{KeepsMarks}
use Rattle.store_theory.proofs.BindingLaws.{KeepsMarks-same}
use Rattle.term_store.specs.StoreView.{the_mark}
use Rattle.term_unify.proofs.PairLaws.{IfOk-always, OnErr-always}
use Rattle.prefix_split.proofs.trying.try_or_undo.Goals as goal

pub returns-in-Ok-true-clause-marks : goal.returns-in-Ok-true-clause-marks
returns-in-Ok-true-clause-marks g c = c.try_lengths-found.ensures.later.marks

pub undo-requires : goal.undo-requires
undo-requires g c = (c.try_lengths-found.ensures.later.marks (the_mark c.mark-start.result) c.mark-start.ensures.good).0

pub returns-clause-unchanged : goal.returns-clause-unchanged
returns-clause-unchanged g c =
    let back : c.undo.new.self.store ≡ c.args.store.now.store = c.undo.ensures.store ∙ (c.try_lengths-found.ensures.later.marks (the_mark c.mark-start.result) c.mark-start.ensures.good).1 ∙ c.mark-start.ensures.whole in
    IfOk-always c.match-found.found (λ e. e ≡ false → c.undo.new.self.store ≡ c.args.store.now.store) (λ e f. back)

pub returns-clause-err : goal.returns-clause-err
returns-clause-err g c =
    let back : c.undo.new.self.store ≡ c.args.store.now.store = c.undo.ensures.store ∙ (c.try_lengths-found.ensures.later.marks (the_mark c.mark-start.result) c.mark-start.ensures.good).1 ∙ c.mark-start.ensures.whole in
    OnErr-always c.match-found.found (c.undo.new.self.store ≡ c.args.store.now.store) back

pub returns-clause-marks : goal.returns-clause-marks
returns-clause-marks g c =
    let back = c.undo.ensures.store ∙ (c.try_lengths-found.ensures.later.marks (the_mark c.mark-start.result) c.mark-start.ensures.good).1 ∙ c.mark-start.ensures.whole in
    subst (KeepsMarks c.args.store.now.store) (sym back) (KeepsMarks-same c.args.store.now.store)

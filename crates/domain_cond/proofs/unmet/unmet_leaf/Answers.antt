use Rattle.std.proofs.Common.{◌∙◌, map}
use Rattle.store_theory.specs.Bindings.{nothing_more}
use Rattle.term_store.specs.RefView.{the_place}
use Rattle.term_store.specs.StoreView.{the_mark}
use Rattle.domain_cond.proofs.ConditionLaws.{added-undone, allow-other, met-before, same-added}
use Rattle.domain_cond.proofs.unmet.unmet_leaf.Goals as goal

pub returns-then-not-is_eigen-clause-met : goal.returns-then-not-is_eigen-clause-met
returns-then-not-is_eigen-clause-met c = λ e σ t. allow-other c.args.problem.now c.args.store.now.store c.args.leaf.0 (map the_place c.args.label.now) (c.is_eigen.ensures.no c.if-not-is_eigen.true) σ t

pub returns-then-not-is_eigen-clause-adds : goal.returns-then-not-is_eigen-clause-adds
returns-then-not-is_eigen-clause-adds c = nothing_more

pub compare_home-requires-clause-eigen : goal.compare_home-requires-clause-eigen
compare_home-requires-clause-eigen c = c.is_eigen.ensures.yes c.if-not-is_eigen.false

pub undo-requires : goal.undo-requires
undo-requires c = (added-undone c.args.store.now.store c.compare_home.new.store.store (the_mark c.mark-start.result) c.compare_home.ensures.adds c.mark-start.ensures.good c.mark-start.ensures.whole).0

pub undo-requires-in-Err : goal.undo-requires-in-Err
undo-requires-in-Err c = (added-undone c.args.store.now.store c.compare_home.new.store.store (the_mark c.mark-start.result) c.compare_home.ensures.adds c.mark-start.ensures.good c.mark-start.ensures.whole).0

pub returns-in-Ok-None-clause-met : goal.returns-in-Ok-None-clause-met
returns-in-Ok-None-clause-met c = λ e σ t. met-before c.args.problem.now c.args.store.now.store c.compare_home.new.store.store c.args.leaf.0 (map the_place c.args.label.now) c.mark-start.ensures.well.fits c.requires.label c.compare_home.ensures.adds (c.in-Ok-None.ensures.met c.in-Ok-None.field-0-is) σ t

pub returns-in-Ok-None-clause-unchanged : goal.returns-in-Ok-None-clause-unchanged
returns-in-Ok-None-clause-unchanged c = λ e. c.undo.ensures.store ∙ (added-undone c.args.store.now.store c.compare_home.new.store.store (the_mark c.mark-start.result) c.compare_home.ensures.adds c.mark-start.ensures.good c.mark-start.ensures.whole).1

pub returns-in-Ok-None-clause-adds : goal.returns-in-Ok-None-clause-adds
returns-in-Ok-None-clause-adds c = same-added c.args.store.now.store c.undo.new.self.store (c.undo.ensures.store ∙ (added-undone c.args.store.now.store c.compare_home.new.store.store (the_mark c.mark-start.result) c.compare_home.ensures.adds c.mark-start.ensures.good c.mark-start.ensures.whole).1)

pub returns-in-Err-clause-err : goal.returns-in-Err-clause-err
returns-in-Err-clause-err c = c.undo-in-Err.ensures.store ∙ (added-undone c.args.store.now.store c.compare_home.new.store.store (the_mark c.mark-start.result) c.compare_home.ensures.adds c.mark-start.ensures.good c.mark-start.ensures.whole).1

pub returns-in-Err-clause-adds : goal.returns-in-Err-clause-adds
returns-in-Err-clause-adds c = same-added c.args.store.now.store c.undo-in-Err.new.self.store (c.undo-in-Err.ensures.store ∙ (added-undone c.args.store.now.store c.compare_home.new.store.store (the_mark c.mark-start.result) c.compare_home.ensures.adds c.mark-start.ensures.good c.mark-start.ensures.whole).1)

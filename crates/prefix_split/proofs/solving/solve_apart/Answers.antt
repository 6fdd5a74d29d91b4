use Rattle.std.proofs.Common.{◌∙◌, IsTrue, ap, length, refl, subst, sym}
use Rattle.store_theory.specs.Systems.{AreTried, NamesItsStrings, is_system}
use Rattle.term_store.specs.SystemView.{the_system}
use Rattle.prefix_split.proofs.LengthListLaws.{tried-within}
use Rattle.prefix_split.proofs.SearchLaws.{back-moved}
use Rattle.prefix_split.proofs.solving.solve_apart.Goals as goal

pub returns-in_err-tree-clause-marks : goal.returns-in_err-tree-clause-marks
returns-in_err-tree-clause-marks g c = c.tree_of.ensures.marks

pub returns-then-tree-clause-none : goal.returns-then-tree-clause-none
returns-then-tree-clause-none g c = λ e. c.in_ok-tree.ensures.refuted c.if-tree.true

pub returns-then-tree-clause-marks : goal.returns-then-tree-clause-marks
returns-then-tree-clause-marks g c = c.tree_of.ensures.marks

pub propose-requires : goal.propose-requires
propose-requires g c = subst (λ s. IsTrue (is_system s (the_system c.args.system.now))) (sym c.tree_of.ensures.unchanged) c.requires.fits

pub returns-in_err-lengths-clause-marks : goal.returns-in_err-lengths-clause-marks
returns-in_err-lengths-clause-marks g c = c.tree_of.ensures.marks

pub returns-in_default-clause-marks : goal.returns-in_default-clause-marks
returns-in_default-clause-marks g c = c.tree_of.ensures.marks

pub try_or_undo-requires-clause-fits : goal.try_or_undo-requires-clause-fits
try_or_undo-requires-clause-fits g c = subst (λ s. IsTrue (is_system s (the_system c.args.system.now))) (sym c.tree_of.ensures.unchanged) c.requires.fits

pub try_or_undo-requires-clause-named : goal.try_or_undo-requires-clause-named
try_or_undo-requires-clause-named g c = subst (λ s. NamesItsStrings s (the_system c.args.system.now)) (sym c.tree_of.ensures.unchanged) c.requires.named

pub try_or_undo-requires-clause-count : goal.try_or_undo-requires-clause-count
try_or_undo-requires-clause-count g c =
    let tried = rw c.in-Some.is at c.in_ok-lengths.ensures in
    ap length c.deref-2.ensures.value ∙ (tried-within c.args.logic (the_system c.args.system.now) c.in-Some.lengths.items tried).1

pub returns-then-found-clause-found : goal.returns-then-found-clause-found
returns-then-found-clause-found g c = λ e.
    let tried = rw c.in-Some.is at c.in_ok-lengths.ensures in
    c.in_ok-found.ensures.found c.if-found.true (subst (AreTried c.args.logic (the_system c.args.system.now)) (sym c.deref-2.ensures.value) tried)

pub returns-then-found-clause-back : goal.returns-then-found-clause-back
returns-then-found-clause-back g c = λ e.
    let tried = rw c.in-Some.is at c.in_ok-lengths.ensures in
    back-moved c.args.logic (g.M.Demand.problem c.args.more.now) (g.M.Demand.problem c.args.more.now) (the_system c.args.system.now) c.args.store.now.store c.tree_of.new.store.store c.try_or_undo.new.store.store refl c.tree_of.ensures.unchanged (c.in_ok-found.ensures.back c.if-found.true (subst (AreTried c.args.logic (the_system c.args.system.now)) (sym c.deref-2.ensures.value) tried))

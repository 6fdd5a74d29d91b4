use Rattle.std.proofs.Common.{◌≡◌, ◌∙◌, ◌∷◌, ◌++◌, IsTrue, ap, ap₂, map, subst, sym}
use Rattle.calculus.specs.Syntax.{Setting}
use Rattle.store_theory.specs.Systems.{is_label}
use Rattle.search_theory.specs.Demanding.{equation}
use Rattle.search_theory.specs.KeepingCells.{AddsRight}
use Rattle.term_store.specs.RefView.{the_place}
use Rattle.term_unify.specs.Flat.{HasNoString}
use Rattle.term_unify.specs.Same.{AreSameLabels}
use Rattle.domain_cond.specs.Conditions.{HomeAllows, IsCompared, IsForced}
use Rattle.domain_cond.proofs.AskingLaws.{right-compared}
use Rattle.domain_cond.proofs.ConditionLaws.{free-more, free-parts, home-met, home-unmet, label-more}
use Rattle.domain_cond.proofs.unmet.compare_home.Goals as goal

pub part_for-requires-clause-home : goal.part_for-requires-clause-home
part_for-requires-clause-home c =
    let (p, rs, at) = c.requires.eigen in
    subst (λ xs. IsTrue (is_label c.eigen_home.new.store.store (map the_place xs))) (sym c.deref.ensures.value) (c.in_ok-home.ensures.found p rs at).sorted

pub part_for-requires-clause-label : goal.part_for-requires-clause-label
part_for-requires-clause-label c = label-more c.args.store.now.store c.eigen_home.new.store.store (map the_place c.args.label.now) c.eigen_home.ensures.adds c.requires.label

pub part_for-requires-clause-free_home : goal.part_for-requires-clause-free_home
part_for-requires-clause-free_home c =
    let (p, rs, at) = c.requires.eigen in
    subst (λ xs. HasNoString c.eigen_home.new.store.store (map the_place xs)) (sym c.deref.ensures.value) ((c.in_ok-home.ensures.found p rs at).free (free-parts c.args.store.now.store c.args.eigen.0 p rs at c.requires.free_eigen))

pub part_for-requires-clause-free_label : goal.part_for-requires-clause-free_label
part_for-requires-clause-free_label c = free-more c.args.store.now.store c.eigen_home.new.store.store (map the_place c.args.label.now) c.mark-before.ensures.well.fits c.eigen_home.ensures.adds c.requires.label c.requires.free_label

pub part_for-requires-clause-not_constant : goal.part_for-requires-clause-not_constant
part_for-requires-clause-not_constant c = λ e. c.requires.not_constant (sym (c.domains.ensures ∙ ap (λ (x : Setting). x.domains) c.setting.ensures.setting) ∙ e)

pub are_same_labels-requires-clause-left : goal.are_same_labels-requires-clause-left
are_same_labels-requires-clause-left c =
    let (p, rs, at) = c.requires.eigen in
    subst (λ xs. IsTrue (is_label c.eigen_home.new.store.store (map the_place xs))) (sym c.deref-2.ensures.value) (c.in_ok-home.ensures.found p rs at).sorted

pub are_same_labels-requires-clause-right : goal.are_same_labels-requires-clause-right
are_same_labels-requires-clause-right c =
    let d = c.domains.ensures ∙ ap (λ (x : Setting). x.domains) c.setting.ensures.setting in
    subst (λ xs. IsTrue (is_label c.eigen_home.new.store.store (map the_place xs))) (sym c.deref-3.ensures.value) (c.in_ok-part.ensures.compared c.args.problem.now (sym d)).sorted

pub are_same_labels-requires-clause-free_left : goal.are_same_labels-requires-clause-free_left
are_same_labels-requires-clause-free_left c =
    let (p, rs, at) = c.requires.eigen in
    subst (λ xs. HasNoString c.eigen_home.new.store.store (map the_place xs)) (sym c.deref-2.ensures.value) ((c.in_ok-home.ensures.found p rs at).free (free-parts c.args.store.now.store c.args.eigen.0 p rs at c.requires.free_eigen))

pub are_same_labels-requires-clause-free_right : goal.are_same_labels-requires-clause-free_right
are_same_labels-requires-clause-free_right c =
    let d = c.domains.ensures ∙ ap (λ (x : Setting). x.domains) c.setting.ensures.setting in
    subst (λ xs. HasNoString c.eigen_home.new.store.store (map the_place xs)) (sym c.deref-3.ensures.value) (c.in_ok-part.ensures.compared c.args.problem.now (sym d)).free

pub returns-then-branch-clause-met : goal.returns-then-branch-clause-met
returns-then-branch-clause-met c = λ e σ t p rs at.
    let P = c.args.problem.now in
    let s = c.eigen_home.new.store.store in
    let label = map the_place c.args.label.now in
    let ks = map the_place c.in_ok-home.home.items in
    let part = map the_place c.in_ok-part.part.items in
    let d = c.domains.ensures ∙ ap (λ (x : Setting). x.domains) c.setting.ensures.setting in
    let compared : IsCompared P s ks label part = subst (λ xs. IsCompared P s (map the_place xs) label part) c.deref.ensures.value (c.in_ok-part.ensures.compared P (sym d)) in
    let same : AreSameLabels s ks part = subst (λ xs. AreSameLabels s ks (map the_place xs)) c.deref-3.ensures.value (subst (λ xs. AreSameLabels s (map the_place xs) (map the_place c.deref-3.result.now)) c.deref-2.ensures.value (c.in_ok-are_same_labels.ensures.same c.if-branch.true)) in
    home-met P s p rs label ks part c.args.store.now.store (c.in_ok-home.ensures.found p rs at) compared same σ t

pub returns-clause-unmet : goal.returns-clause-unmet
returns-clause-unmet c =
    let P = c.args.problem.now in
    let s = c.eigen_home.new.store.store in
    let label = map the_place c.args.label.now in
    let ks = map the_place c.in_ok-home.home.items in
    let part = map the_place c.in_ok-part.part.items in
    let d = c.domains.ensures ∙ ap (λ (x : Setting). x.domains) c.setting.ensures.setting in
    let compared : IsCompared P s ks label part = subst (λ xs. IsCompared P s (map the_place xs) label part) c.deref.ensures.value (c.in_ok-part.ensures.compared P (sym d)) in
    let differ : ¬ AreSameLabels s ks part = subst (λ xs. ¬ AreSameLabels s ks (map the_place xs)) c.deref-3.ensures.value (subst (λ xs. ¬ AreSameLabels s (map the_place xs) (map the_place c.deref-3.result.now)) c.deref-2.ensures.value (c.in_ok-are_same_labels.ensures.different c.if-branch.false)) in
    let left : c.in_ok-left.left ≡ ks = c.in_ok-left.ensures ∙ ap (map the_place) c.deref-4.ensures.value in
    let right : c.in_ok-right.right ≡ part = c.in_ok-right.ensures ∙ ap (map the_place) c.deref-5.ensures.value in
    let (p, rs, at) = c.requires.eigen in
    subst (IsForced s (HomeAllows P c.args.store.now.store c.args.eigen.0 label)) (sym (ap₂ equation left right)) (home-unmet P c.args.store.now.store s c.args.eigen.0 p rs label ks part at c.requires.free_eigen (c.in_ok-home.ensures.found p rs at) compared differ)

pub returns-clause-right : goal.returns-clause-right
returns-clause-right c =
    let P = c.args.problem.now in
    let old = c.args.store.now.store in
    let new = c.eigen_home.new.store.store in
    let label = map the_place c.args.label.now in
    let ks = map the_place c.in_ok-home.home.items in
    let part = map the_place c.in_ok-part.part.items in
    let left : c.in_ok-left.left ≡ ks = c.in_ok-left.ensures ∙ ap (map the_place) c.deref-4.ensures.value in
    let right : c.in_ok-right.right ≡ part = c.in_ok-right.ensures ∙ ap (map the_place) c.deref-5.ensures.value in
    subst (AddsRight P (c.args.eigen.0 ∷ label) old new) (sym (ap₂ (λ xs ys. xs ++ ys) left right)) (right-compared P old new c.args.eigen.0 label ks part c.in_ok-home.ensures.right c.in_ok-part.ensures.from)

use Rattle.std.proofs.Common.{IsTrue, length, map, subst, sym}
use Rattle.store_theory.specs.Stores.{names_below}
use Rattle.term_unify.specs.Same.{AreSameCells, DifferAt}
use Rattle.calculus.specs.declared.sort.Sort.TheVariants.{MarkSort}
use Rattle.term_store.specs.RefView.{the_place}
use Rattle.search_theory.proofs.SolvingLaws.{all-below}
use Rattle.term_unify.proofs.SameLaws.{labels-differ, labels-same}
use Rattle.term_unify.proofs.same.are_same_labels.Goals as goal

pub are_same_cells-requires-clause-left : goal.are_same_cells-requires-clause-left
are_same_cells-requires-clause-left c = subst (λ xs. IsTrue (names_below (length c.args.store.now.store.cells) (map the_place xs))) (sym c.deref.ensures.value) (all-below c.args.store.now.store MarkSort (map the_place c.in_ok-xs.xs.items) c.in_ok-xs.ensures.flat.sorted)

pub are_same_cells-requires-clause-right : goal.are_same_cells-requires-clause-right
are_same_cells-requires-clause-right c = subst (λ xs. IsTrue (names_below (length c.args.store.now.store.cells) (map the_place xs))) (sym c.deref-2.ensures.value) (all-below c.args.store.now.store MarkSort (map the_place c.in_ok-ys.ys.items) c.in_ok-ys.ensures.flat.sorted)

pub returns-clause-same : goal.returns-clause-same
returns-clause-same c = λ e. labels-same c.args.store.now.store (map the_place c.args.left.now) (map the_place c.args.right.now) (map the_place c.in_ok-xs.xs.items) (map the_place c.in_ok-ys.ys.items) c.requires.left c.requires.right c.in_ok-xs.ensures.flat c.in_ok-ys.ensures.flat (subst (λ ys. AreSameCells c.args.store.now.store (map the_place c.in_ok-xs.xs.items) (map the_place ys)) c.deref-2.ensures.value (subst (λ xs. AreSameCells c.args.store.now.store (map the_place xs) (map the_place c.deref-2.result.now)) c.deref.ensures.value (c.in_ok-same.ensures.same e)))

pub returns-clause-different : goal.returns-clause-different
returns-clause-different c = λ e. labels-differ c.args.store.now.store (map the_place c.args.left.now) (map the_place c.args.right.now) (map the_place c.in_ok-xs.xs.items) (map the_place c.in_ok-ys.ys.items) c.mark-now.ensures.well c.requires.left c.requires.right c.in_ok-xs.ensures.flat c.in_ok-ys.ensures.flat (subst (λ ys. DifferAt c.args.store.now.store (map the_place c.in_ok-xs.xs.items) (map the_place ys)) c.deref-2.ensures.value (subst (λ xs. DifferAt c.args.store.now.store (map the_place xs) (map the_place c.deref-2.result.now)) c.deref.ensures.value (c.in_ok-same.ensures.different e)))

use Rattle.std.proofs.Common.{IsTrue, length, map, subst, sym, ◌∙◌}
use Rattle.store_theory.specs.Stores.{names_below}
use Rattle.term_unify.specs.Same.{AreSameCells, DifferAt}
use Rattle.term_store.specs.ClauseView.{the_atom}
use Rattle.term_store.specs.RefView.{the_place}
use Rattle.search_tree.proofs.SamenessLaws.{args-below, args-differ, atoms-same, label-below, labels-differ, signs-differ, symbols-differ}
use Rattle.search_tree.proofs.atoms.are_same.Goals as goal

pub returns-then-not-are_same_sign-clause-different : goal.returns-then-not-are_same_sign-clause-different
returns-then-not-are_same_sign-clause-different c = λ e P base owns a b. signs-differ c.args.store.now.store (the_atom c.args.a.now) (the_atom c.args.b.now) c.mark-now.ensures.well (sym c.are_same_sign.ensures ∙ c.if-not-are_same_sign.true)

pub returns-then-a-b-clause-different : goal.returns-then-a-b-clause-different
returns-then-a-b-clause-different c = λ e P base owns a b. symbols-differ c.args.store.now.store (the_atom c.args.a.now) (the_atom c.args.b.now) c.mark-now.ensures.well c.if-a-b.true

pub are_same_cells-requires-clause-left : goal.are_same_cells-requires-clause-left
are_same_cells-requires-clause-left c = subst (λ xs. IsTrue (names_below (length c.args.store.now.store.cells) xs)) (sym c.items.ensures) (args-below (length c.args.store.now.store.cells) (the_atom c.args.a.now) c.requires.left)

pub are_same_cells-requires-clause-right : goal.are_same_cells-requires-clause-right
are_same_cells-requires-clause-right c = subst (λ xs. IsTrue (names_below (length c.args.store.now.store.cells) xs)) (sym c.items-2.ensures) (args-below (length c.args.store.now.store.cells) (the_atom c.args.b.now) c.requires.right)

pub returns-then-not-branch-clause-different : goal.returns-then-not-branch-clause-different
returns-then-not-branch-clause-different c = λ e P base owns a b. args-differ c.args.store.now.store (the_atom c.args.a.now) (the_atom c.args.b.now) c.mark-now.ensures.well a.sorted b.sorted
    (subst (λ ys. DifferAt c.args.store.now.store c.args.a.now.args ys) c.items-2.ensures (subst (λ xs. DifferAt c.args.store.now.store xs (map the_place c.items-2.result.now)) c.items.ensures (c.in_ok-are_same_cells.ensures.different c.if-not-branch.true)))

pub are_same_cells-requires-2-clause-left : goal.are_same_cells-requires-2-clause-left
are_same_cells-requires-2-clause-left c = subst (λ xs. IsTrue (names_below (length c.args.store.now.store.cells) xs)) (sym c.items-3.ensures) (label-below (length c.args.store.now.store.cells) (the_atom c.args.a.now) c.requires.left)

pub are_same_cells-requires-2-clause-right : goal.are_same_cells-requires-2-clause-right
are_same_cells-requires-2-clause-right c = subst (λ xs. IsTrue (names_below (length c.args.store.now.store.cells) xs)) (sym c.items-4.ensures) (label-below (length c.args.store.now.store.cells) (the_atom c.args.b.now) c.requires.right)

pub returns-clause-same : goal.returns-clause-same
returns-clause-same c = λ t. atoms-same c.args.store.now.store (the_atom c.args.a.now) (the_atom c.args.b.now) (sym c.are_same_sign.ensures ∙ c.if-not-are_same_sign.false) c.if-a-b.false
    (subst (λ ys. AreSameCells c.args.store.now.store c.args.a.now.args ys) c.items-2.ensures (subst (λ xs. AreSameCells c.args.store.now.store xs (map the_place c.items-2.result.now)) c.items.ensures (c.in_ok-are_same_cells.ensures.same c.if-not-branch.false)))
    (subst (λ ys. AreSameCells c.args.store.now.store c.args.a.now.label ys) c.items-4.ensures (subst (λ xs. AreSameCells c.args.store.now.store xs (map the_place c.items-4.result.now)) c.items-3.ensures (c.in_ok-same.ensures.same t)))

pub returns-clause-different : goal.returns-clause-different
returns-clause-different c = λ t P base owns a b. labels-differ P base c.args.store.now.store (the_atom c.args.a.now) (the_atom c.args.b.now) c.mark-now.ensures.well owns a b
    (subst (λ ys. DifferAt c.args.store.now.store c.args.a.now.label ys) c.items-4.ensures (subst (λ xs. DifferAt c.args.store.now.store xs (map the_place c.items-4.result.now)) c.items-3.ensures (c.in_ok-same.ensures.different t)))

use Rattle.std.proofs.Common.{IsTrue, map, subst, sym}
use Rattle.store_theory.specs.Systems.{is_label}
use Rattle.term_store.specs.ClauseView.{the_atom}
use Rattle.term_store.specs.RefView.{the_place}
use Rattle.prefix_split.specs.Later.{HasNoString}
use Rattle.term_unify.specs.Same.{AreSameLabels}
use Rattle.prefix_split.proofs.SameLaws.{atom-label, atoms-same, labels-apart}
use Rattle.prefix_split.proofs.same.are_same.Goals as goal

pub are_same_labels-requires-clause-left : goal.are_same_labels-requires-clause-left
are_same_labels-requires-clause-left c = subst (λ xs. IsTrue (is_label c.args.store.now.store xs)) (sym c.items.ensures) (atom-label c.args.store.now.store (the_atom c.args.a.now) c.requires.left)

pub are_same_labels-requires-clause-right : goal.are_same_labels-requires-clause-right
are_same_labels-requires-clause-right c = subst (λ xs. IsTrue (is_label c.args.store.now.store xs)) (sym c.items-2.ensures) (atom-label c.args.store.now.store (the_atom c.args.b.now) c.requires.right)

pub are_same_labels-requires-clause-free_left : goal.are_same_labels-requires-clause-free_left
are_same_labels-requires-clause-free_left c = subst (HasNoString c.args.store.now.store) (sym c.items.ensures) c.requires.free_left

pub are_same_labels-requires-clause-free_right : goal.are_same_labels-requires-clause-free_right
are_same_labels-requires-clause-free_right c = subst (HasNoString c.args.store.now.store) (sym c.items-2.ensures) c.requires.free_right

pub returns-clause-same : goal.returns-clause-same
returns-clause-same c = λ t. atoms-same c.args.store.now.store (the_atom c.args.a.now) (the_atom c.args.b.now) (c.in_ok-have_same_atom.ensures.same c.if-not-branch.false)
    (subst (λ ys. AreSameLabels c.args.store.now.store c.args.a.now.label ys) c.items-2.ensures (subst (λ xs. AreSameLabels c.args.store.now.store xs (map the_place c.items-2.result.now)) c.items.ensures (c.in_ok-same.ensures.same t)))

pub returns-clause-different : goal.returns-clause-different
returns-clause-different c = λ t. labels-apart c.args.store.now.store (the_atom c.args.a.now) (the_atom c.args.b.now) (λ same. c.in_ok-same.ensures.different t
    (subst (λ ys. AreSameLabels c.args.store.now.store (map the_place c.items.result.now) ys) (sym c.items-2.ensures) (subst (λ xs. AreSameLabels c.args.store.now.store xs c.args.b.now.label) (sym c.items.ensures) same)))

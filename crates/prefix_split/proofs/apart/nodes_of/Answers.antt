use Rattle.std.proofs.Common.{IsTrue, length, subst, sym}
use Rattle.store_theory.specs.Stores.{names_below}
use Rattle.term_store.specs.SystemView.{the_pair}
use Rattle.prefix_split.specs.Growing.{IsNodeOf}
use Rattle.prefix_split.proofs.ApartLaws.{atom-places, pair-apart, pair-parts}
use Rattle.prefix_split.proofs.apart.nodes_of.Goals as goal

pub have_same_atom-requires-clause-left : goal.have_same_atom-requires-clause-left
have_same_atom-requires-clause-left c = (pair-parts c.args.store.now.store (the_pair c.args.pair.now) c.requires.pair).0

pub have_same_atom-requires-clause-right : goal.have_same_atom-requires-clause-right
have_same_atom-requires-clause-right c = (pair-parts c.args.store.now.store (the_pair c.args.pair.now) c.requires.pair).1

pub seek-requires-clause-below : goal.seek-requires-clause-below
seek-requires-clause-below c = subst (λ xs. IsTrue (names_below (length c.args.store.now.store.cells) xs)) (sym c.items.ensures) (atom-places c.args.store.now.store (the_pair c.args.pair.now).upper (pair-parts c.args.store.now.store (the_pair c.args.pair.now) c.requires.pair).0)

pub seek-requires-2-clause-below : goal.seek-requires-2-clause-below
seek-requires-2-clause-below c = subst (λ xs. IsTrue (names_below (length c.args.store.now.store.cells) xs)) (sym c.items-2.ensures) (atom-places c.args.store.now.store (the_pair c.args.pair.now).lower (pair-parts c.args.store.now.store (the_pair c.args.pair.now) c.requires.pair).1)

pub returns : goal.returns
returns c =
    let s = c.args.store.now.store in
    let upper = rw c.in-Some.is at c.in_ok-upper.ensures in
    let lower = rw c.in-Some-2.is at c.in_ok-lower.ensures in
    pair-apart s c.args.nodes.now (the_pair c.args.pair.now) c.in-Some.upper c.in-Some-2.lower (c.in_ok-have_same_atom.ensures.same c.if-not-branch.false)
    (subst (λ xs. IsNodeOf s c.args.nodes.now xs c.in-Some.upper) c.items.ensures upper)
    (subst (λ xs. IsNodeOf s c.args.nodes.now xs c.in-Some-2.lower) c.items-2.ensures lower)

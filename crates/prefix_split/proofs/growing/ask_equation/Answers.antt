use Rattle.std.proofs.Common.{◌++◌, ◌∷◌, [], ◌∙◌, IsTrue, ap, length, subst, sym}
use Rattle.store_theory.specs.Stores.{names_below}
use Rattle.term_store.specs.SystemView.{the_equation}
use Rattle.prefix_split.specs.Growing.{AreNamed, IsReached}
use Rattle.prefix_split.proofs.GrowingLaws.{asked-equation, label-places}
use Rattle.prefix_split.proofs.growing.ask_equation.Goals as goal

pub reach-requires-clause-below : goal.reach-requires-clause-below
reach-requires-clause-below c = subst (λ xs. IsTrue (names_below (length c.args.store.now.store.cells) xs)) (sym c.items.ensures) (label-places c.args.store.now.store (the_equation c.args.e.now) c.requires.fits).0

pub reach-requires-clause-named : goal.reach-requires-clause-named
reach-requires-clause-named c = λ e. subst (AreNamed c.args.store.now.store c.args.system.now.strings) (sym c.items.ensures) c.requires.named.0

pub reach-requires-2-clause-tree : goal.reach-requires-2-clause-tree
reach-requires-2-clause-tree c = c.in_ok-left.ensures.tree

pub reach-requires-2-clause-below : goal.reach-requires-2-clause-below
reach-requires-2-clause-below c = subst (λ xs. IsTrue (names_below (length c.args.store.now.store.cells) xs)) (sym c.items-2.ensures) (label-places c.args.store.now.store (the_equation c.args.e.now) c.requires.fits).1

pub reach-requires-2-clause-named : goal.reach-requires-2-clause-named
reach-requires-2-clause-named c = λ e. subst (AreNamed c.args.store.now.store c.args.system.now.strings) (sym c.items-2.ensures) c.requires.named.1

pub returns : goal.returns
returns c =
    let s = c.args.store.now.store in
    let e = the_equation c.args.e.now in
    let u = c.in_ok-left.left in
    let v = c.in_ok-right.right in
    let strings = c.args.system.now.strings in
    asked-equation s c.args.logic strings e c.args.nodes.now.items c.reach.new.nodes.items c.reach-2.new.nodes.items u v c.args.pairs.now.items c.push-2.new.self.items
    (subst (λ xs. IsReached s c.args.logic strings c.args.nodes.now.items c.reach.new.nodes.items xs u) c.items.ensures c.in_ok-left.ensures)
    (subst (λ xs. IsReached s c.args.logic strings c.reach.new.nodes.items c.reach-2.new.nodes.items xs v) c.items-2.ensures c.in_ok-right.ensures)
    (c.in_ok-push-2.ensures.items ∙ ap (λ ps. ps ++ (v, u) ∷ []) c.in_ok-push.ensures.items)

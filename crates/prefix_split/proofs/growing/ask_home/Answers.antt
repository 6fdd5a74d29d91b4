use Rattle.std.proofs.Common.{IsTrue, length, subst, sym}
use Rattle.std.proofs.lemmas.Bool.{false≢true}
use Rattle.calculus.specs.declared.setting.Logic.TheVariants.{S4}
use Rattle.store_theory.specs.Stores.{names_below}
use Rattle.term_store.specs.HomeView.{the_home}
use Rattle.prefix_split.specs.Growing.{IsReached}
use Rattle.prefix_split.proofs.GrowingLaws.{asked-home, home-places}
use Rattle.prefix_split.proofs.growing.ask_home.Goals as goal

pub reach-requires-clause-below : goal.reach-requires-clause-below
reach-requires-clause-below c = subst (λ xs. IsTrue (names_below (length c.args.store.now.store.cells) xs)) (sym c.items.ensures) (home-places c.args.store.now.store (the_home c.args.home.now) c.requires.fits).0

pub reach-requires-clause-named : goal.reach-requires-clause-named
reach-requires-clause-named c = λ e. absurd (false≢true e)

pub reach-requires-2-clause-tree : goal.reach-requires-2-clause-tree
reach-requires-2-clause-tree c = c.in_ok-left.ensures.tree

pub reach-requires-2-clause-below : goal.reach-requires-2-clause-below
reach-requires-2-clause-below c = subst (λ xs. IsTrue (names_below (length c.args.store.now.store.cells) xs)) (sym c.items-2.ensures) (home-places c.args.store.now.store (the_home c.args.home.now) c.requires.fits).1

pub reach-requires-2-clause-named : goal.reach-requires-2-clause-named
reach-requires-2-clause-named c = λ e. absurd (false≢true e)

pub returns : goal.returns
returns c =
    let s = c.args.store.now.store in
    let strings = c.args.system.now.strings in
    asked-home s S4 strings (the_home c.args.home.now) c.args.nodes.now.items c.reach.new.nodes.items c.reach-2.new.nodes.items c.in_ok-left.left c.in_ok-right.right c.args.pairs.now.items c.push.new.self.items
    (subst (λ xs. IsReached s S4 strings c.args.nodes.now.items c.reach.new.nodes.items xs c.in_ok-left.left) c.items.ensures c.in_ok-left.ensures)
    (subst (λ xs. IsReached s S4 strings c.reach.new.nodes.items c.reach-2.new.nodes.items xs c.in_ok-right.right) c.items-2.ensures c.in_ok-right.ensures)
    c.in_ok-push.ensures.items

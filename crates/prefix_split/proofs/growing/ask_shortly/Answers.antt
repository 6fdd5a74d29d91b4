use Rattle.std.proofs.Common.{◌≡◌, IsTrue, length, map, subst, sym}
use Rattle.store_theory.specs.Stores.{names_below}
use Rattle.search_theory.specs.States.{label_by}
use Rattle.term_store.specs.RefView.{the_place}
use Rattle.term_store.specs.SystemView.{the_equation}
use Rattle.prefix_split.specs.Growing.{IsAsked}
use Rattle.prefix_split.proofs.GrowingLaws.{asked-equal, asked-equal_back, label-places}
use Rattle.prefix_split.proofs.growing.ask_shortly.Goals as goal

pub shown-kept-requires : goal.shown-kept-requires
shown-kept-requires c = subst (λ xs. IsTrue (names_below (length c.args.store.now.store.cells) xs)) (sym c.items-left.ensures) (label-places c.args.store.now.store (the_equation c.args.e.now) c.requires.fits).0

pub shown-kept_right-requires : goal.shown-kept_right-requires
shown-kept_right-requires c = subst (λ xs. IsTrue (names_below (length c.args.store.now.store.cells) xs)) (sym c.items-right.ensures) (label-places c.args.store.now.store (the_equation c.args.e.now) c.requires.fits).1

pub ask_begin-requires-clause-left : goal.ask_begin-requires-clause-left
ask_begin-requires-clause-left c = subst (λ xs. IsTrue (names_below (length c.args.store.now.store.cells) xs)) (sym c.items-left.ensures) (label-places c.args.store.now.store (the_equation c.args.e.now) c.requires.fits).0

pub ask_begin-requires-clause-right : goal.ask_begin-requires-clause-right
ask_begin-requires-clause-right c = subst (λ xs. IsTrue (names_below (length c.args.store.now.store.cells) xs)) (sym c.items-right.ensures) (label-places c.args.store.now.store (the_equation c.args.e.now) c.requires.fits).1

pub ask_begin-requires-then-kept_right-right-clause-left : goal.ask_begin-requires-then-kept_right-right-clause-left
ask_begin-requires-then-kept_right-right-clause-left c = subst (λ xs. IsTrue (names_below (length c.args.store.now.store.cells) xs)) (sym c.items-right.ensures) (label-places c.args.store.now.store (the_equation c.args.e.now) c.requires.fits).1

pub ask_begin-requires-then-kept_right-right-clause-right : goal.ask_begin-requires-then-kept_right-right-clause-right
ask_begin-requires-then-kept_right-right-clause-right c = subst (λ xs. IsTrue (names_below (length c.args.store.now.store.cells) xs)) (sym c.items-left.ensures) (label-places c.args.store.now.store (the_equation c.args.e.now) c.requires.fits).0

pub returns-then-kept-left : goal.returns-then-kept-left
returns-then-kept-left c =
    let s = c.args.store.now.store in
    let e = the_equation c.args.e.now in
    let strings = c.args.system.now.strings in
    asked-equal s c.args.logic strings e c.args.nodes.now.items c.ask_begin.new.nodes.items c.args.pairs.now.items c.ask_begin.new.pairs.items
    (subst (λ ys. IsAsked s c.args.logic strings (λ σ. label_by σ e.left ≡ label_by σ ys) c.args.nodes.now.items c.ask_begin.new.nodes.items c.args.pairs.now.items c.ask_begin.new.pairs.items) c.items-right.ensures
    (subst (λ xs. IsAsked s c.args.logic strings (λ σ. label_by σ xs ≡ label_by σ (map the_place c.items-right.result.now)) c.args.nodes.now.items c.ask_begin.new.nodes.items c.args.pairs.now.items c.ask_begin.new.pairs.items) c.items-left.ensures c.in_ok-ask_begin.ensures))

pub returns-then-kept_right-right : goal.returns-then-kept_right-right
returns-then-kept_right-right c =
    let s = c.args.store.now.store in
    let e = the_equation c.args.e.now in
    let strings = c.args.system.now.strings in
    asked-equal_back s c.args.logic strings e c.args.nodes.now.items c.ask_begin-then-kept_right-right.new.nodes.items c.args.pairs.now.items c.ask_begin-then-kept_right-right.new.pairs.items
    (subst (λ ys. IsAsked s c.args.logic strings (λ σ. label_by σ e.right ≡ label_by σ ys) c.args.nodes.now.items c.ask_begin-then-kept_right-right.new.nodes.items c.args.pairs.now.items c.ask_begin-then-kept_right-right.new.pairs.items) c.items-left.ensures
    (subst (λ xs. IsAsked s c.args.logic strings (λ σ. label_by σ xs ≡ label_by σ (map the_place c.items-left.result.now)) c.args.nodes.now.items c.ask_begin-then-kept_right-right.new.nodes.items c.args.pairs.now.items c.ask_begin-then-kept_right-right.new.pairs.items) c.items-right.ensures c.in_ok-ask_begin-2.ensures))

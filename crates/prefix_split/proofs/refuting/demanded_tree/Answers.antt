use Rattle.std.specs.List.{AllByRecursion, list_all}
use Rattle.std.proofs.Common.{◌≡◌, [], IsTrue, length, subst, sym}
use Rattle.term_store.proofs.OwnLaws.{length-grown}
use Rattle.store_theory.specs.Bindings.{nothing_more}
use Rattle.store_theory.proofs.PatternLaws.{Grows-built}
use Rattle.search_theory.proofs.BuildingLaws.{adds-back}
use Rattle.term_store.specs.Homes.{BeginsLabel, is_home}
use Rattle.prefix_split.specs.Beginnings.{AllApart, AllBegin, AreValues, NodesFit}
use Rattle.prefix_split.specs.Growing.{HasValues, IsTree}
use Rattle.prefix_split.proofs.GrowingLaws.{any-steps, none-asked, root-tree, root-values, tree-larger, values-before}
use Rattle.prefix_split.proofs.ApartLaws.{none-apart}
use Rattle.prefix_split.proofs.refuting.demanded_tree.Goals as goal

pub ask_equations-requires-clause-tree : goal.ask_equations-requires-clause-tree
ask_equations-requires-clause-tree g c =
    let (n, is_root, parent, step) = c.in_ok-nodes.ensures in
    subst (IsTree (length c.args.store.now.store.cells)) (sym is_root) (root-tree (length c.args.store.now.store.cells) n parent step)

pub nodes_apart-requires-clause-nodes : goal.nodes_apart-requires-clause-nodes
nodes_apart-requires-clause-nodes g c = subst (NodesFit (length c.args.store.now.store.cells)) (sym c.deref.ensures.value) c.in_ok-ask_equations.ensures.tree.fits

pub ask_homes-requires-clause-tree : goal.ask_homes-requires-clause-tree
ask_homes-requires-clause-tree g c = tree-larger (length c.args.store.now.store.cells) (length c.homes.new.store.store.cells) c.ask_equations.new.nodes.items c.in_ok-ask_equations.ensures.tree (length-grown c.args.store.now.store c.homes.new.store.store (Grows-built c.args.store.now.store c.homes.new.store.store c.homes.ensures.adds))

pub ask_homes-requires-clause-fits : goal.ask_homes-requires-clause-fits
ask_homes-requires-clause-fits g c = subst (λ hs. IsTrue (list_all (is_home c.homes.new.store.store) hs)) (sym c.items.ensures) c.in_ok-homes.ensures.labels

pub chosen-requires : goal.chosen-requires
chosen-requires g c = subst (NodesFit (length c.homes.new.store.store.cells)) (sym c.deref-2.ensures.value) c.in_ok-ask_homes.ensures.tree.fits

pub returns-clause-refuted : goal.returns-clause-refuted
returns-clause-refuted g c = λ e σ t steps met differ equal.
    let old = c.args.store.now.store in
    let new = c.homes.new.store.store in
    let u = adds-back old new c.homes.ensures.adds σ t in
    let (n, is_root, parent, step) = c.in_ok-nodes.ensures in
    let asked = c.in_ok-ask_equations.ensures in
    let more = c.in_ok-ask_homes.ensures in
    let start = asked.values σ u steps (subst (HasValues σ) (sym is_root) (root-values σ n parent step)) in
    let (value, v) = more.values σ t (any-steps c.args.logic c.args.system.now.strings σ steps) start in
    let empty : c.new-pairs.result.items ≡ [] = cc in
    let pairs = asked.pairs σ value u (values-before σ value c.ask_equations.new.nodes.items c.ask_homes.new.nodes.items more.extends v) equal (subst (AllBegin value) (sym empty) (none-asked value)) in
    let begin = subst (λ hs. AllByRecursion (BeginsLabel σ) hs) (sym c.items.ensures) (c.in_ok-homes.ensures.forced σ t met) in
    let all = more.pairs σ value t v begin pairs in
    let apart = c.in_ok-apart.ensures σ value u (subst (AreValues σ value) (sym c.deref.ensures.value) (values-before σ value c.ask_equations.new.nodes.items c.ask_homes.new.nodes.items more.extends v)) differ (none-apart value) in
    c.in_ok-order.ensures e σ value t (subst (AreValues σ value) (sym c.deref-2.ensures.value) v) (subst (AllApart value) (sym c.deref-4.ensures.value) apart) (subst (AllBegin value) (sym c.deref-3.ensures.value) all)

pub returns-in_err-nodes-clause-adds : goal.returns-in_err-nodes-clause-adds
returns-in_err-nodes-clause-adds g c = nothing_more

pub returns-in_err-ask_equations-clause-adds : goal.returns-in_err-ask_equations-clause-adds
returns-in_err-ask_equations-clause-adds g c = nothing_more

pub returns-in_err-apart-clause-adds : goal.returns-in_err-apart-clause-adds
returns-in_err-apart-clause-adds g c = nothing_more

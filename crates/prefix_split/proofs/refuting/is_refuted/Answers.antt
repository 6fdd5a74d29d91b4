use Rattle.std.proofs.Common.{◌≡◌, ◌∙◌, [], length, subst, sym}
use Rattle.std.proofs.lemmas.Bool.{false≢true}
use Rattle.prefix_split.specs.Beginnings.{AllBegin, AreValues, NodesFit}
use Rattle.prefix_split.specs.Growing.{HasValues, IsTree}
use Rattle.prefix_split.proofs.GrowingLaws.{none-asked, root-tree, root-values}
use Rattle.prefix_split.proofs.refuting.is_refuted.Goals as goal

pub ask_needed-requires-clause-tree : goal.ask_needed-requires-clause-tree
ask_needed-requires-clause-tree c =
    let (n, is_root, parent, step) = c.in_ok-nodes.ensures in
    subst (IsTree (length c.args.store.now.store.cells)) (sym is_root) (root-tree (length c.args.store.now.store.cells) n parent step)

pub settled-requires : goal.settled-requires
settled-requires c = subst (NodesFit (length c.args.store.now.store.cells)) (sym c.deref.ensures.value) c.in_ok-ask_needed.ensures.tree.fits

pub choose-requires : goal.choose-requires
choose-requires c = subst (NodesFit (length c.args.store.now.store.cells)) (sym c.deref-3.ensures.value) c.in_ok-ask_needed.ensures.tree.fits

pub returns : goal.returns
returns c = λ e σ t steps equal.
    let (n, is_root, parent, step) = c.in_ok-nodes.ensures in
    let asked = c.in_ok-ask_needed.ensures in
    let (value, v) = asked.values σ t steps (subst (HasValues σ) (sym is_root) (root-values σ n parent step)) in
    let empty : c.new-pairs.result.items ≡ [] = cc in
    let pairs = asked.pairs σ value t v equal (subst (AllBegin value) (sym empty) (none-asked value)) in
    let held = c.in_ok-order.ensures σ value t (subst (AreValues σ value) (sym c.deref.ensures.value) v) (subst (AllBegin value) (sym c.deref-2.ensures.value) pairs) in
    c.in_ok-_left.ensures.refuted e σ value t (subst (AreValues σ value) (sym c.deref-3.ensures.value) v) held

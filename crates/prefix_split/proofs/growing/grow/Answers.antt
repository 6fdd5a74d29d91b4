use Rattle.std.proofs.Common.{◌≡◌, ◌<◌, ◌++◌, ◌∷◌, [], arith, length, subst, sym}
use Rattle.prefix_split.specs.declared.node.Node.{Node}
use Rattle.prefix_split.specs.Beginnings.{AreValues, NodesFit}
use Rattle.prefix_split.specs.Growing.{IsGrown}
use Rattle.prefix_split.proofs.GrowingLaws.{grown-more, grown-there}
use Rattle.prefix_split.proofs.growing.grow.Goals as goal

pub find-requires-clause-nodes : goal.find-requires-clause-nodes
find-requires-clause-nodes c = subst (NodesFit (length c.args.store.now.store.cells)) (sym c.deref.ensures.value) c.requires.tree.fits

pub returns-in-Some : goal.returns-in-Some
returns-in-Some c =
    let e = c.deref.ensures.value in
    let k = rw c.in-Some.is at c.in_ok-found.ensures in
    grown-there c.args.store.now.store c.args.nodes.now.items c.args.parent c.args.step c.in-Some.u c.requires.tree (subst (λ ns. c.in-Some.u < length ns) e k.0) (λ σ value t v. k.1 σ value t (subst (AreValues σ value) (sym e) v))

pub returns : goal.returns
returns c =
    let s = c.args.store.now.store in
    let old = c.args.nodes.now.items in
    let n : Node = record { parent = c.args.parent; step = c.args.step } in
    let len : length old ≡ c.len-u.result = omega arith in
    subst (λ ns. IsGrown s old ns c.args.parent c.args.step c.len-u.result) (sym c.in_ok-push.ensures.items) (subst (λ u. IsGrown s old (old ++ n ∷ []) c.args.parent c.args.step u) len (grown-more s old n c.requires.tree c.requires.parent c.requires.step))

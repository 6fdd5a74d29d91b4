use Rattle.std.proofs.Common.{◌∙◌, ap}
use Rattle.derivation_branch.specs.declared.outline.Node.{Node}
use Rattle.derivation_branch.proofs.OutlineLaws.{node-at}
use Rattle.derivation_branch.proofs.outline.Outline.binds.Goals as goal

pub returns-then-place-len : goal.returns-then-place-len
returns-then-place-len c = λ parts f outline h.
    ap (λ (n : Node). n.binds) (c.index.ensures ∙ (node-at parts c.args.self.now.nodes.items c.args.place f c.index.result.now outline h).1)

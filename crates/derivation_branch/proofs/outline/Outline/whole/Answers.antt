use Rattle.std.proofs.Common.{arith}
use Rattle.derivation_branch.proofs.OutlineLaws.{node-whole}
use Rattle.derivation_branch.proofs.outline.Outline.whole.Goals as goal

pub returns : goal.returns
returns c = λ f same. node-whole c.args.self.now.nodes.items c.in_ok-place.place f (omega (arith, c.in_ok-place.ensures, c.saturating_sub.ensures, c.len.ensures)) same

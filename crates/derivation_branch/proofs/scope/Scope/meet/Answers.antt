use Rattle.std.proofs.Common.{arith}
use Rattle.derivation_branch.proofs.ScopeLaws.{met}
use Rattle.derivation_branch.proofs.scope.Scope.meet.Goals as goal

pub returns-then-depth-len : goal.returns-then-depth-len
returns-then-depth-len c = λ d. met c.self.inside.met.items c.args.self.now c.len-then-depth-len.result c.args.variable d c.self.view_is (omega (arith, c.len-then-depth-len.ensures)) (omega (arith, c.len.ensures, c.if-depth-len.true))

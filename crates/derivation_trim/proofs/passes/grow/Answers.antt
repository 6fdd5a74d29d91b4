use Rattle.std.proofs.Common.{◌≡◌, [], ◌∷◌, Some, arith, length}
use Rattle.calculus.specs.declared.kind.Shape.TheVariants as shape
use Rattle.formula_core.specs.ComponentsView.{the_signed}
use Rattle.formula_core.specs.FormulaView.{the_formula}
use Rattle.derivation_trim.proofs.PassLaws.{adds-one, adds-two, forks-on, next-is, next-literal}
use Rattle.derivation_trim.specs.BranchView.{the_bare, the_waiting}
use Rattle.derivation_trim.proofs.passes.grow.Goals as goal

pub returns-in_ok-push-in-Literal : goal.returns-in_ok-push-in-Literal
returns-in_ok-push-in-Literal c = λ b go.
    let u = c.args.used in
    adds-one b go c.args.branch.now.items c.push.new.self.items (the_waiting c.args.forks.now.items) c.args.number (Some (the_bare u)) u
    (next-literal u.sign (the_formula u.formula.now) _ c.in-Literal.ensures.shape c.in-Literal.ensures.components c.in-Literal.ensures.atom) c.in_ok-push-in-Literal.ensures.items

pub returns-in_ok-push-in-Alpha-2 : goal.returns-in_ok-push-in-Alpha-2
returns-in_ok-push-in-Alpha-2 c = λ b go.
    let u = c.args.used in
    adds-two b go c.args.branch.now.items c.push-in-Alpha.new.self.items c.push-in-Alpha-2.new.self.items (the_waiting c.args.forks.now.items) c.args.number (Some (the_bare u)) c.in-Alpha.a c.in-Alpha.b
    (next-is u.sign (the_formula u.formula.now) shape.Alpha (the_signed c.in-Alpha.a ∷ the_signed c.in-Alpha.b ∷ []) c.in-Alpha.ensures.shape c.in-Alpha.ensures.components) c.in_ok-push-in-Alpha.ensures.items c.in_ok-push-in-Alpha-2.ensures.items

pub returns-in_ok-push-in-Beta-2 : goal.returns-in_ok-push-in-Beta-2
returns-in_ok-push-in-Beta-2 c = λ b go.
    let u = c.args.used in
    let ok = c.args.branch.now.ok.0 in
    let said = c.len.ensures in
    let long : c.len.result ≡ length c.args.branch.now.items = omega (arith, ok, said) in
    forks-on b go c.args.branch.now.items c.push-in-Beta-2.new.self.items c.args.forks.now.items c.push-in-Beta.new.self.items c.args.number c.len.result (Some (the_bare u)) c.in-Beta.a c.in-Beta.b
    (next-is u.sign (the_formula u.formula.now) shape.Beta (the_signed c.in-Beta.a ∷ the_signed c.in-Beta.b ∷ []) c.in-Beta.ensures.shape c.in-Beta.ensures.components) long c.in_ok-push-in-Beta.ensures.items c.in_ok-push-in-Beta-2.ensures.items

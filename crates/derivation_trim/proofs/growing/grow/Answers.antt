use Rattle.std.proofs.Common.{◌≡◌, [], ◌∷◌, Some, arith, length}
use Rattle.calculus.specs.declared.kind.Shape.TheVariants as shape
use Rattle.formula_core.specs.ComponentsView.{the_signed}
use Rattle.formula_core.specs.FormulaView.{the_formula}
use Rattle.derivation_trim.specs.BranchView.{the_bare}
use Rattle.derivation_trim.specs.PlaceView.{the_place, the_splits}
use Rattle.derivation_trim.proofs.PassLaws.{next-is, next-literal}
use Rattle.derivation_trim.proofs.GrowthLaws.{used-one, used-two, used-fork}
use Rattle.derivation_trim.proofs.growing.grow.Goals as goal

pub returns-in_ok-add-in-Literal : goal.returns-in_ok-add-in-Literal
returns-in_ok-add-in-Literal c =
    let u = c.args.used in
    let w = the_place c.args.branch.now.items c.args.parents.now.items c.args.table.now.items c.args.forks.now.items in
    used-one (Some (the_bare u)) (the_bare u) w _
    (next-literal u.sign (the_formula u.formula.now) _ c.in-Literal.ensures.shape c.in-Literal.ensures.components c.in-Literal.ensures.atom)
    (c.in_ok-add-in-Literal.ensures (the_splits c.args.forks.now.items))

pub returns-in_ok-add-in-One : goal.returns-in_ok-add-in-One
returns-in_ok-add-in-One c =
    let u = c.args.used in
    let w = the_place c.args.branch.now.items c.args.parents.now.items c.args.table.now.items c.args.forks.now.items in
    used-one (Some (the_bare u)) (the_bare c.in-One.a) w _
    (next-is u.sign (the_formula u.formula.now) shape.Alpha (the_signed c.in-One.a ∷ []) c.in-One.ensures.shape c.in-One.ensures.components)
    (c.in_ok-add-in-One.ensures (the_splits c.args.forks.now.items))

pub returns-in_ok-add-in-Gamma : goal.returns-in_ok-add-in-Gamma
returns-in_ok-add-in-Gamma c =
    let u = c.args.used in
    let w = the_place c.args.branch.now.items c.args.parents.now.items c.args.table.now.items c.args.forks.now.items in
    used-one (Some (the_bare u)) (the_bare c.in-Gamma.a) w _
    (next-is u.sign (the_formula u.formula.now) shape.Gamma (the_signed c.in-Gamma.a ∷ []) c.in-Gamma.ensures.shape c.in-Gamma.ensures.components)
    (c.in_ok-add-in-Gamma.ensures (the_splits c.args.forks.now.items))

pub returns-in_ok-add-in-Delta : goal.returns-in_ok-add-in-Delta
returns-in_ok-add-in-Delta c =
    let u = c.args.used in
    let w = the_place c.args.branch.now.items c.args.parents.now.items c.args.table.now.items c.args.forks.now.items in
    used-one (Some (the_bare u)) (the_bare c.in-Delta.a) w _
    (next-is u.sign (the_formula u.formula.now) shape.Delta (the_signed c.in-Delta.a ∷ []) c.in-Delta.ensures.shape c.in-Delta.ensures.components)
    (c.in_ok-add-in-Delta.ensures (the_splits c.args.forks.now.items))

pub returns-in_ok-add-in-Alpha-2 : goal.returns-in_ok-add-in-Alpha-2
returns-in_ok-add-in-Alpha-2 c =
    let u = c.args.used in
    let fs = the_splits c.args.forks.now.items in
    let w = the_place c.args.branch.now.items c.args.parents.now.items c.args.table.now.items c.args.forks.now.items in
    used-two (Some (the_bare u)) (the_bare c.in-Alpha.a) (the_bare c.in-Alpha.b) w _ _
    (next-is u.sign (the_formula u.formula.now) shape.Alpha (the_signed c.in-Alpha.a ∷ the_signed c.in-Alpha.b ∷ []) c.in-Alpha.ensures.shape c.in-Alpha.ensures.components)
    (c.in_ok-add-in-Alpha.ensures fs) (c.in_ok-add-in-Alpha-2.ensures fs)

pub returns-in_ok-add-in-Beta : goal.returns-in_ok-add-in-Beta
returns-in_ok-add-in-Beta c =
    let u = c.args.used in
    let ok = c.args.branch.now.ok.0 in
    let said = c.len.ensures in
    let long : c.len.result ≡ length c.args.branch.now.items = omega (arith, ok, said) in
    let table_ok = c.args.table.now.ok.0 in
    let table_said = c.len-in-Beta.ensures in
    let table_long : c.len-in-Beta.result ≡ length c.args.table.now.items = omega (arith, table_ok, table_said) in
    used-fork (Some (the_bare u)) c.in-Beta.a c.in-Beta.b c.args.branch.now.items c.args.parents.now.items c.args.table.now.items c.args.forks.now.items c.push.new.self.items c.len.result c.len-in-Beta.result _
    (next-is u.sign (the_formula u.formula.now) shape.Beta (the_signed c.in-Beta.a ∷ the_signed c.in-Beta.b ∷ []) c.in-Beta.ensures.shape c.in-Beta.ensures.components)
    long table_long c.in_ok-push-in-Beta.ensures.items (c.in_ok-add-in-Beta.ensures (the_splits c.push.new.self.items))

use Rattle.std.proofs.Common.{◌≡◌, None, OnOk, sym, subst}
use Rattle.calculus.specs.StructureText.{first_broken, relation_conditions}
use Rattle.finite_model.specs.Conditions.{IsFirstBroken}
use Rattle.finite_model.proofs.conditions.check_relation.Goals as goal

pub returns-in-Classical-clause-ok : goal.returns-in-Classical-clause-ok
returns-in-Classical-clause-ok c = subst (λ l. OnOk c.check_classical.result (first_broken (relation_conditions l c.args.s.now) ≡ None)) (sym c.in-Classical.is) c.check_classical.ensures.ok

pub returns-in-Classical-clause-bad : goal.returns-in-Classical-clause-bad
returns-in-Classical-clause-bad c = λ line why e. subst (λ l. IsFirstBroken (relation_conditions l c.args.s.now) line why) (sym c.in-Classical.is) (c.check_classical.ensures.bad line why e)

pub returns-in-Intuitionistic-clause-ok : goal.returns-in-Intuitionistic-clause-ok
returns-in-Intuitionistic-clause-ok c = subst (λ l. OnOk c.check_order.result (first_broken (relation_conditions l c.args.s.now) ≡ None)) (sym c.in-Intuitionistic.is) c.check_order.ensures.ok

pub returns-in-Intuitionistic-clause-bad : goal.returns-in-Intuitionistic-clause-bad
returns-in-Intuitionistic-clause-bad c = λ line why e. subst (λ l. IsFirstBroken (relation_conditions l c.args.s.now) line why) (sym c.in-Intuitionistic.is) (c.check_order.ensures.bad line why e)

pub returns-in-D-clause-ok : goal.returns-in-D-clause-ok
returns-in-D-clause-ok c = subst (λ l. OnOk c.check_worlds.result (first_broken (relation_conditions l c.args.s.now) ≡ None)) (sym c.in-D.is) c.check_worlds.ensures.ok

pub returns-in-D-clause-bad : goal.returns-in-D-clause-bad
returns-in-D-clause-bad c = λ line why e. subst (λ l. IsFirstBroken (relation_conditions l c.args.s.now) line why) (sym c.in-D.is) (c.check_worlds.ensures.bad line why e)

pub returns-in-T-clause-ok : goal.returns-in-T-clause-ok
returns-in-T-clause-ok c = subst (λ l. OnOk c.check_worlds-in-T.result (first_broken (relation_conditions l c.args.s.now) ≡ None)) (sym c.in-T.is) c.check_worlds-in-T.ensures.ok

pub returns-in-T-clause-bad : goal.returns-in-T-clause-bad
returns-in-T-clause-bad c = λ line why e. subst (λ l. IsFirstBroken (relation_conditions l c.args.s.now) line why) (sym c.in-T.is) (c.check_worlds-in-T.ensures.bad line why e)

pub returns-in-S4-clause-ok : goal.returns-in-S4-clause-ok
returns-in-S4-clause-ok c = subst (λ l. OnOk c.check_order-in-S4.result (first_broken (relation_conditions l c.args.s.now) ≡ None)) (sym c.in-S4.is) c.check_order-in-S4.ensures.ok

pub returns-in-S4-clause-bad : goal.returns-in-S4-clause-bad
returns-in-S4-clause-bad c = λ line why e. subst (λ l. IsFirstBroken (relation_conditions l c.args.s.now) line why) (sym c.in-S4.is) (c.check_order-in-S4.ensures.bad line why e)

pub returns-in-S5-clause-ok : goal.returns-in-S5-clause-ok
returns-in-S5-clause-ok c = subst (λ l. OnOk c.check_worlds-in-S5.result (first_broken (relation_conditions l c.args.s.now) ≡ None)) (sym c.in-S5.is) c.check_worlds-in-S5.ensures.ok

pub returns-in-S5-clause-bad : goal.returns-in-S5-clause-bad
returns-in-S5-clause-bad c = λ line why e. subst (λ l. IsFirstBroken (relation_conditions l c.args.s.now) line why) (sym c.in-S5.is) (c.check_worlds-in-S5.ensures.bad line why e)

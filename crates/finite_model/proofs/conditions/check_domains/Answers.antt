use Rattle.std.proofs.Common.{◌≡◌, None, OnOk, subst}
use Rattle.calculus.specs.StructureText.{first_broken}
use Rattle.finite_model.specs.Conditions.{IsFirstBroken}
use Rattle.finite_model.proofs.CheckLaws.{constant-conditions, cumulative-conditions, varying-conditions}
use Rattle.finite_model.proofs.conditions.check_domains.Goals as goal

pub returns-in-Constant-clause-ok : goal.returns-in-Constant-clause-ok
returns-in-Constant-clause-ok c = subst (λ cs. OnOk c.check_worlds.result (first_broken cs ≡ None)) (constant-conditions c.args.s.now _ c.args.domains c.first_domain.ensures.line c.in-Constant.is) c.check_worlds.ensures.ok

pub returns-in-Constant-clause-bad : goal.returns-in-Constant-clause-bad
returns-in-Constant-clause-bad c = λ line why e. subst (λ cs. IsFirstBroken cs line why) (constant-conditions c.args.s.now _ c.args.domains c.first_domain.ensures.line c.in-Constant.is) (c.check_worlds.ensures.bad line why e)

pub returns-in-Cumulative-clause-ok : goal.returns-in-Cumulative-clause-ok
returns-in-Cumulative-clause-ok c = subst (λ cs. OnOk c.check_worlds-in-Cumulative.result (first_broken cs ≡ None)) (cumulative-conditions c.args.s.now _ c.args.domains c.first_domain-in-Cumulative.ensures.line c.in-Cumulative.is) c.check_worlds-in-Cumulative.ensures.ok

pub returns-in-Cumulative-clause-bad : goal.returns-in-Cumulative-clause-bad
returns-in-Cumulative-clause-bad c = λ line why e. subst (λ cs. IsFirstBroken cs line why) (cumulative-conditions c.args.s.now _ c.args.domains c.first_domain-in-Cumulative.ensures.line c.in-Cumulative.is) (c.check_worlds-in-Cumulative.ensures.bad line why e)

pub returns-in-Varying-clause-ok : goal.returns-in-Varying-clause-ok
returns-in-Varying-clause-ok c = varying-conditions c.args.s.now c.args.domains c.in-Varying.is

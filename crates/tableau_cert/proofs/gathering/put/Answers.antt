use Rattle.std.proofs.Common.{refl}
use Rattle.tableau_cert.proofs.WalkingLaws.{put-literals, put-no_literals, put-none, put-one, put-two}
use Rattle.tableau_cert.proofs.gathering.put.Goals as goal

pub returns-in_ok-push-in-Literal-clause-tasks : goal.returns-in_ok-push-in-Literal-clause-tasks
returns-in_ok-push-in-Literal-clause-tasks c = put-none c.args.tasks.now.items c.args.tasks.now.items c.args.point c.args.opened c.in-Literal.literal c.in-Literal.is refl

pub returns-in_ok-push-in-Literal-clause-literals : goal.returns-in_ok-push-in-Literal-clause-literals
returns-in_ok-push-in-Literal-clause-literals c = put-literals c.args.literals.now c.push.new.self c.args.opened _ c.in-Literal.is c.in_ok-push-in-Literal.ensures.ok

pub returns-in_ok-push-in-One-clause-tasks : goal.returns-in_ok-push-in-One-clause-tasks
returns-in_ok-push-in-One-clause-tasks c = put-one c.args.tasks.now.items c.push-in-One.new.self.items c.args.point c.args.opened c.in-One.placed c.in-One.is c.in_ok-push-in-One.ensures.items

pub returns-in_ok-push-in-One-clause-literals : goal.returns-in_ok-push-in-One-clause-literals
returns-in_ok-push-in-One-clause-literals c = put-no_literals c.args.literals.now c.args.literals.now c.args.opened _ c.in-One.is refl refl

pub returns-in_ok-extend_from_slice-in-Two-clause-tasks : goal.returns-in_ok-extend_from_slice-in-Two-clause-tasks
returns-in_ok-extend_from_slice-in-Two-clause-tasks c = put-two c.args.tasks.now.items c.extend_from_slice.new.self.items c.args.point c.args.opened c.in-Two.first c.in-Two.second c.in-Two.is c.in_ok-extend_from_slice-in-Two.ensures.items

pub returns-in_ok-extend_from_slice-in-Two-clause-literals : goal.returns-in_ok-extend_from_slice-in-Two-clause-literals
returns-in_ok-extend_from_slice-in-Two-clause-literals c = put-no_literals c.args.literals.now c.args.literals.now c.args.opened _ c.in-Two.is refl refl

use Rattle.std.proofs.Common.{◌∙◌}
use Rattle.finite_model.specs.Conditions.{one_world_condition}
use Rattle.finite_model.proofs.CheckLaws.{broken-told, many-worlds}
use Rattle.finite_model.proofs.conditions.check_one_world.Goals as goal

pub returns-else-worlds-eq1-clause-bad : goal.returns-else-worlds-eq1-clause-bad
returns-else-worlds-eq1-clause-bad c = λ line why e. broken-told (one_world_condition c.args.s.now) _ line _ why e (many-worlds c.args.s.now (λ h. c.if-worlds-eq1.false (c.worlds.ensures.count ∙ h)))

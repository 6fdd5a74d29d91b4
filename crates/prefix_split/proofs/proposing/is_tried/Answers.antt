use Rattle.std.proofs.Common.{◌+◌, ◌∙◌, sym}
use Rattle.prefix_split.proofs.TriedLaws.{tried-one}
use Rattle.prefix_split.proofs.proposing.is_tried.Goals as goal

pub returns-then-is_step_length : goal.returns-then-is_step_length
returns-then-is_step_length c = λ e. tried-one c.args.logic (c.args.count + c.args.pis) c.args.n (sym c.is_step_length.ensures ∙ c.if-is_step_length.true) (c.is_within.ensures e)

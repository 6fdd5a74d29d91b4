use Rattle.std.proofs.Common.{◌∙◌, sym}
use Rattle.prefix_split.proofs.growing.ask_needed.Goals as goal

pub ask_all_shortly-requires-clause-long : goal.ask_all_shortly-requires-clause-long
ask_all_shortly-requires-clause-long c = sym c.has_short_steps.ensures ∙ c.if-has_short_steps.false

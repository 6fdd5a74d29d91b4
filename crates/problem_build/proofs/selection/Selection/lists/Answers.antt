use Rattle.std.proofs.Common.{◌∙◌}
use Rattle.problem_build.proofs.selection.Selection.lists.Goals as goal

pub returns : goal.returns
returns c = rw (← c.self.view_is) (c.contains.ensures ∙ c.self.invariant c.args.name.now)

use Rattle.std.proofs.Common.{◌++◌, ◌∙◌, ap}
use Rattle.problem_build.proofs.name_set.NameSet.into_names.Goals as goal

pub returns : goal.returns
returns c = rw (← c.self.view_is) (c.in_ok-push_names.ensures ∙ ap (λ ys. c.self.inside.few.items ++ ys) c.as_slice.ensures.keys)

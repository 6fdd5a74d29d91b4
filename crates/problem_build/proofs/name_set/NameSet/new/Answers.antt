use Rattle.std.proofs.Common.{◌++◌, ◌∙◌, ap}
use Rattle.problem_build.proofs.name_set.NameSet.new.Goals as goal

pub returns : goal.returns
returns c = ap (λ xs. xs ++ c.new-more.result.keys) c.new-few.ensures.items ∙ c.new-more.ensures.empty

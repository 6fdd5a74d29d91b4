use Rattle.std.proofs.Common.{◌∙◌}
use Rattle.command_line.specs.CommandView.{the_problem_file}
use Rattle.leancop_find.proofs.FoundLaws.{found-for}
use Rattle.leancop_find.proofs.answer.read_and_find.Goals as goal

pub returns-in-Ok : goal.returns-in-Ok
returns-in-Ok g c =
    found-for c.found.result _ _ (the_problem_file c.args.file) c.in_ok-name.name c.in_ok-root.root c.in-Ok.problem (c.in_ok-name.ensures ∙ c.as_bytes.ensures.value) (c.in_ok-root.ensures ∙ c.as_bytes-2.ensures.value) c.in-Ok.ensures.agreeing c.found.ensures

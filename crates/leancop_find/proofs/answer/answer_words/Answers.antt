use Rattle.std.proofs.Common.{◌∙◌, ap, sym}
use Rattle.command_line.specs.CommandLine.{asked}
use Rattle.command_line.specs.CommandView.{the_bounds, the_problem_file}
use Rattle.leancop_find.proofs.FoundLaws.{found-by}
use Rattle.leancop_find.proofs.answer.answer_words.Goals as goal

pub returns-in-Tableau : goal.returns-in-Tableau
returns-in-Tableau g c = record {
  found = found-by c.read_and_find.result _ _ (the_problem_file c.in-Tableau.problem) (the_bounds c.in-Tableau.bounds) _ (sym (ap asked c.as_slice.ensures.value) ∙ sym c.in-Tableau.ensures) c.read_and_find.ensures;
}

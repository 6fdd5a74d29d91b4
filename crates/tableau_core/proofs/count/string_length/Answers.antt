use Rattle.std.proofs.Common.{ap, sym, ◌∙◌, length}
use Rattle.std.proofs.lemmas.List.{length-map}
use Rattle.calculus.specs.Lists.{marks_list-marks_tree}
use Rattle.formula_core.specs.GroundLists.{the_mark, the_marks}
use Rattle.tableau_core.specs.Counted.{string_length}
use Rattle.formula_core.specs.GroundLists.{the_value}
use Rattle.tableau_core.proofs.count.string_length.Goals as goal

pub returns-in-Steps : goal.returns-in-Steps
returns-in-Steps c = sym (length-map c.marks.result.now (the_mark c.args.table.now)) ∙ ap length c.marks.ensures.list ∙ ap length (sym (marks_list-marks_tree (the_marks c.args.table.now c.in-Steps.string))) ∙ sym (ap (λ v. string_length ((the_value c.args.table.now) v)) c.in-Steps.is)

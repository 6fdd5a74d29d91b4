use Rattle.std.proofs.Common.{◌∙◌, ap, map}
use Rattle.sequent_calc.specs.StepView.{the_step}
use Rattle.trim_theory.specs.Found.{marks_by, written}
use Rattle.derivation_trim.proofs.trimming.trim_steps.Goals as goal

pub returns : goal.returns
returns c =
    let xs = map the_step c.args.steps.now in
    c.in_ok-left.ensures
    ∙ ap (written xs) (c.in_ok-marks.ensures ∙ ap marks_by c.in_ok-passes.ensures)

use Rattle.std.proofs.Common.{◌∙◌, ap}
use Rattle.sequent_calc.specs.DerivationView.{the_derivation, the_names}
use Rattle.trim_theory.specs.Found.{steps_left}
use Rattle.trim_theory.specs.UsedNames.{mentioned}
use Rattle.derivation_trim.proofs.TrimmedLaws.{trimmed-by}
use Rattle.derivation_trim.proofs.trimming.trim.Goals as goal

pub returns : goal.returns
returns c =
    let P = c.args.problem.now in
    let d = the_derivation c.args.derivation.now in
    trimmed-by P d c.in_ok-left.left c.in_ok-steps.steps (the_names c.in_ok-names.names) c.setting-setting.ensures.well c.requires
    (c.in_ok-left.ensures ∙ ap (steps_left P) c.items.ensures) c.in_ok-steps.ensures
    (c.in_ok-names.ensures ∙ ap (λ xs. mentioned xs d.names) c.items-2.ensures)

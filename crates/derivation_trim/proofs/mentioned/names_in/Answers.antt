use Rattle.std.proofs.Common.{◌||◌, ◌∙◌, ap, map}
use Rattle.calculus.specs.Derivations.{EigenName, SpareName}
use Rattle.derivation_branch.specs.Occurring.{holds}
use Rattle.sequent_calc.specs.DerivationView.{the_names}
use Rattle.sequent_calc.specs.StepView.{the_step}
use Rattle.std.specs.List.{filter, list_any}
use Rattle.calculus.specs.Calculus.{is_eigen}
use Rattle.trim_theory.specs.UsedNames.{is_spare, step_has}
use Rattle.derivation_trim.proofs.NameLaws.{names-kept}
use Rattle.derivation_trim.proofs.mentioned.names_in.Goals as goal

pub returns : goal.returns
returns c =
    let steps = map the_step c.args.steps.now in
    let es = c.note_steps.new.eigens in
    let ss = c.note_steps.new.spares in
    names-kept steps (the_names c.args.names.now) (holds es) (holds ss)
    (λ n. c.in_ok-note_steps.ensures.eigens n ∙ ap (λ ns. holds ns n || list_any (step_has (is_eigen n)) steps) c.new-eigens.ensures)
    (λ n. c.in_ok-note_steps.ensures.spares n ∙ ap (λ ns. holds ns n || list_any (step_has (is_spare n)) steps) c.new-spares.ensures)
    _
    (c.in_ok-eigens.ensures ∙ ap (filter (λ (x : EigenName). holds es x.number)) c.items.ensures)
    (c.in_ok-spares.ensures ∙ ap (filter (λ (x : SpareName). holds ss x.number)) c.items-2.ensures)

use Rattle.std.proofs.Common.{◌∙◌, ap, length, sym, arith}
use Rattle.std.proofs.lemmas.List.{length-map}
use Rattle.derivation_text.specs.NumbersView.{the_numbered_eigen, the_numbered_spare}
use Rattle.derivation_check.proofs.ArgumentLaws.{line-one, line-two}
use Rattle.derivation_check.proofs.steps.first_step_line.Goals as goal

pub returns-in-One-clause-line : goal.returns-in-One-clause-line
returns-in-One-clause-line c =
    let eigens = sym (length-map c.eigens.result.now the_numbered_eigen) ∙ ap length c.eigens.ensures.view in
    let spares = sym (length-map c.spares.result.now the_numbered_spare) ∙ ap length c.spares.ensures.view in
    line-one c.args.d.now c.args.version _ (length c.eigens.result.now) (length c.spares.result.now) c.in-One.is eigens spares (omega arith)

pub returns-in-Two-clause-line : goal.returns-in-Two-clause-line
returns-in-Two-clause-line c =
    let eigens = sym (length-map c.eigens.result.now the_numbered_eigen) ∙ ap length c.eigens.ensures.view in
    let spares = sym (length-map c.spares.result.now the_numbered_spare) ∙ ap length c.spares.ensures.view in
    line-two c.args.d.now c.args.version _ (length c.eigens.result.now) (length c.spares.result.now) c.count.result c.count-in-Two.result c.requires c.in-Two.is eigens spares
    (c.count.ensures ∙ ap length c.labels.ensures.list) (c.count-in-Two.ensures ∙ ap length c.terms.ensures) (omega arith)

use Rattle.std.proofs.Common.{◌∙◌}
use Rattle.calculus.specs.Versions.{numbering}
use Rattle.derivation_text.specs.Entering.{derivation_with}
use Rattle.derivation_text.proofs.numbering.enter_all.Goals as goal

pub returns : goal.returns
returns c =
    let n = c.args.d.now.limit in
    let a = c.in_ok-enter_eigens.ensures n c.requires in
    let b = c.in_ok-enter_spares.ensures n _ a in
    let s = c.in_ok-enter_steps.ensures n _ _ b in
    s ∙ (λ i. numbering (derivation_with n (c.items-eigens.ensures i) (c.items-spares.ensures i) (c.items-steps.ensures i)))

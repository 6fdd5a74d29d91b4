use Rattle.std.proofs.Common.{◌∙◌, ap, map, Some}
use Rattle.sequent_calc.specs.StepView.{the_step}
use Rattle.trim_theory.specs.Reading.{bare_entry, by_step}
use Rattle.derivation_trim.proofs.PassLaws.{axiom-next, used-next, used-none}
use Rattle.derivation_trim.specs.BranchView.{the_bare, the_branch, the_waiting}
use Rattle.derivation_trim.proofs.passes.read.Goals as goal

pub returns-in_ok-way-in-Some : goal.returns-in_ok-way-in-Some
returns-in_ok-way-in-Some c = λ b go.
    let xs = c.args.branch.now.items in
    let fs = the_waiting c.args.forks.now.items in
    let n = c.in-Use.entry in
    used-next b go xs fs c.args.step.now n _ _ (Some c.in-Some.used) _ c.in-Use.is (c.in-Some.ensures ∙ ap (λ ys. bare_entry (map the_bare ys) n) c.deref.ensures.value) (c.in_ok-way-in-Some.ensures b go)

pub returns-in-None : goal.returns-in-None
returns-in-None c = λ b go.
    let xs = c.args.branch.now.items in
    let fs = the_waiting c.args.forks.now.items in
    let n = c.in-Use.entry in
    used-none b go xs fs c.args.step.now n _ _ c.in-Use.is (c.in-None.ensures ∙ ap (λ ys. bare_entry (map the_bare ys) n) c.deref.ensures.value)

pub returns-in_ok-starts_right-in-Axiom : goal.returns-in_ok-starts_right-in-Axiom
returns-in_ok-starts_right-in-Axiom c = λ b go.
    let xs = c.args.branch.now.items in
    let fs = the_waiting c.args.forks.now.items in
    ap (λ s. by_step b (the_branch xs) fs (the_step s) go) c.in-Axiom.is
    ∙ axiom-next b xs fs c.in-Axiom.given c.in-Axiom.shown go _ (c.in_ok-starts_right-in-Axiom.ensures go)

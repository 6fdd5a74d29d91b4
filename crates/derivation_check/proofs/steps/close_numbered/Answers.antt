use Rattle.std.proofs.Common.{◌≡◌, ◌∙◌, sym, subst}
use Rattle.calculus.specs.declared.fault.StepFault.TheVariants.{NoEntry}
use Rattle.calculus.specs.Calculus.{close_branch}
use Rattle.derivation_check.specs.StateView.{IsNumbered, the_entry}
use Rattle.derivation_check.proofs.StepLaws.{leads-same, no_first-closed, no_second-closed}
use Rattle.derivation_check.proofs.steps.close_numbered.Goals as goal

pub close_branch-requires : goal.close_branch-requires
close_branch-requires c =
    let xs = c.args.state.now.sequents.branch.items in
    let first = subst (IsNumbered xs c.args.given) c.in-Some.is (subst (λ ys. IsNumbered ys c.args.given c.entry_of-first.result) c.as_slice.ensures.value c.entry_of-first.ensures) in
    let second = subst (IsNumbered xs c.args.shown) c.in-Some-second.is (subst (λ ys. IsNumbered ys c.args.shown c.entry_of-second.result) c.as_slice-2.ensures.value c.entry_of-second.ensures) in
    record { is_open = c.requires.is_open; given = first.0; shown = second.0; kept = c.requires.kept }

pub returns-in-Some-second-clause-leads : goal.returns-in-Some-second-clause-leads
returns-in-Some-second-clause-leads c =
    let s = c.args.state.now in
    let xs = s.sequents.branch.items in
    let entry = the_entry s.substitutions s.labels in
    let first = subst (IsNumbered xs c.args.given) c.in-Some.is (subst (λ ys. IsNumbered ys c.args.given c.entry_of-first.result) c.as_slice.ensures.value c.entry_of-first.ensures) in
    let second = subst (IsNumbered xs c.args.shown) c.in-Some-second.is (subst (λ ys. IsNumbered ys c.args.shown c.entry_of-second.result) c.as_slice-2.ensures.value c.entry_of-second.ensures) in
    leads-same c.close_branch.result _ _ _ _ (λ i. close_branch (sym (first.1 entry) i) (sym (second.1 entry) i)) c.close_branch.ensures.leads

pub returns-in-Some-second-clause-fault : goal.returns-in-Some-second-clause-fault
returns-in-Some-second-clause-fault c = λ f e.
    let s = c.args.state.now in
    let xs = s.sequents.branch.items in
    let entry = the_entry s.substitutions s.labels in
    let first = subst (IsNumbered xs c.args.given) c.in-Some.is (subst (λ ys. IsNumbered ys c.args.given c.entry_of-first.result) c.as_slice.ensures.value c.entry_of-first.ensures) in
    let second = subst (IsNumbered xs c.args.shown) c.in-Some-second.is (subst (λ ys. IsNumbered ys c.args.shown c.entry_of-second.result) c.as_slice-2.ensures.value c.entry_of-second.ensures) in
    (λ i. close_branch (first.1 entry i) (second.1 entry i)) ∙ c.close_branch.ensures.fault f e

pub returns-in-None-second-clause-fault : goal.returns-in-None-second-clause-fault
returns-in-None-second-clause-fault c = λ f e.
    let s = c.args.state.now in
    let none = subst (IsNumbered s.sequents.branch.items c.args.shown) c.in-None-second.is (subst (λ ys. IsNumbered ys c.args.shown c.entry_of-second.result) c.as_slice-2.ensures.value c.entry_of-second.ensures) in
    let same : NoEntry ≡ f = cc in
    no_second-closed _ _ f (none (the_entry s.substitutions s.labels)) same

pub returns-in-None-clause-fault : goal.returns-in-None-clause-fault
returns-in-None-clause-fault c = λ f e.
    let s = c.args.state.now in
    let none = subst (IsNumbered s.sequents.branch.items c.args.given) c.in-None.is (subst (λ ys. IsNumbered ys c.args.given c.entry_of-first.result) c.as_slice.ensures.value c.entry_of-first.ensures) in
    let same : NoEntry ≡ f = cc in
    no_first-closed _ _ f (none (the_entry s.substitutions s.labels)) same

use Rattle.std.proofs.Common.{◌≡◌, ◌∙◌, Some, ap, subst, sym}
use Rattle.calculus.specs.declared.fault.StepFault.TheVariants.{NoEntry}
use Rattle.calculus.specs.Calculus.{entry_of, use_entry}
use Rattle.derivation_check.specs.ArgumentView.{the_argument, the_label_argument}
use Rattle.derivation_check.specs.StateView.{IsKept, IsNumbered, the_current, the_entry}
use Rattle.derivation_check.proofs.StepLaws.{leads-as, no_entry-used}
use Rattle.derivation_check.proofs.steps.use_numbered.Goals as goal

pub use_entry-requires : goal.use_entry-requires
use_entry-requires c =
    let there = subst (λ o. IsNumbered c.args.state.now.sequents.branch.items c.args.number o) c.in-Some.is (subst (λ xs. IsNumbered xs c.args.number c.entry_of-used.result) c.as_slice.ensures.value c.entry_of-used.ensures) in
    record { within = c.requires.within; is_open = c.requires.is_open; kept = c.requires.kept; named = c.requires.named; put = c.requires.put; stands = there.0 }

pub returns-in-Some-clause-leads : goal.returns-in-Some-clause-leads
returns-in-Some-clause-leads c =
    let s = c.args.state.now in
    let P = c.args.problem.now in
    let m = the_label_argument s.labels c.args.modal in
    let t = the_argument c.args.term in
    let entry = the_entry s.substitutions s.labels in
    let there = subst (λ o. IsNumbered s.sequents.branch.items c.args.number o) c.in-Some.is (subst (λ xs. IsNumbered xs c.args.number c.entry_of-used.result) c.as_slice.ensures.value c.entry_of-used.ensures) in
    leads-as c.use_entry.result (λ n. IsKept n s) (λ n. use_entry P n (the_current s) (Some (entry c.in-Some.used)) m t) (λ n. use_entry P n (the_current s) (entry_of (the_current s) c.args.number) m t) _ _
    (λ n. ap (λ o. use_entry P n (the_current s) o m t) (sym (there.1 entry))) c.use_entry.ensures.leads

pub returns-in-Some-clause-fault : goal.returns-in-Some-clause-fault
returns-in-Some-clause-fault c = λ f e names h.
    let s = c.args.state.now in
    let there = subst (λ o. IsNumbered s.sequents.branch.items c.args.number o) c.in-Some.is (subst (λ xs. IsNumbered xs c.args.number c.entry_of-used.result) c.as_slice.ensures.value c.entry_of-used.ensures) in
    ap (λ o. use_entry c.args.problem.now names (the_current s) o (the_label_argument s.labels c.args.modal) (the_argument c.args.term)) (there.1 (the_entry s.substitutions s.labels)) ∙ c.use_entry.ensures.fault f e names h

pub returns-in-None-clause-fault : goal.returns-in-None-clause-fault
returns-in-None-clause-fault c = λ f e names h.
    let s = c.args.state.now in
    let there = subst (λ o. IsNumbered s.sequents.branch.items c.args.number o) c.in-None.is (subst (λ xs. IsNumbered xs c.args.number c.entry_of-used.result) c.as_slice.ensures.value c.entry_of-used.ensures) in
    let same : NoEntry ≡ f = cc in
    no_entry-used c.args.problem.now names (the_current s) _ (the_label_argument s.labels c.args.modal) (the_argument c.args.term) f (there (the_entry s.substitutions s.labels)) same

use Rattle.std.proofs.Common.{◌≡◌, ◌∙◌, [], Err, ap, get_or, reverse, subst, sym}
use Rattle.calculus.specs.Calculus.{Children, children_of, term_fits}
use Rattle.formula_core.specs.FormulaView.{the_formula}
use Rattle.sequent_calc.specs.ChildrenView.{faulty}
use Rattle.label_table.specs.Longer.{IsLonger}
use Rattle.derivation_branch.proofs.PuttingLaws.{shape-all}
use Rattle.derivation_check.specs.ArgumentView.{the_argument, the_label_argument}
use Rattle.derivation_check.specs.StateView.{IsLabelAfter, the_entry, the_sequent}
use Rattle.derivation_check.proofs.ArgumentLaws.{argument-longer}
use Rattle.derivation_check.proofs.HomesLaws.{homes-longer}
use Rattle.derivation_check.proofs.StateLaws.{after-of, kept-open, label-kept, met, stands-within, used-leads}
use Rattle.derivation_check.proofs.UsedLaws.{kept-more, told-fault, used-of}
use Rattle.derivation_check.proofs.using.use_entry.Goals as goal

pub label_after-requires-clause-from : goal.label_after-requires-clause-from
label_after-requires-clause-from c =
    let s = c.args.state.now in
    let parts = kept-open c.requires.kept.0 s.substitutions s.labels s.eigens s.marks s.sequents.is_open s.sequents.branch.items (reverse s.sequents.forks.items) c.requires.is_open c.requires.kept.1.sequents in
    (stands-within s.substitutions s.labels s.sequents.branch.items c.args.used parts.0 c.requires.stands).1

pub use_fault-fault-requires-clause-from : goal.use_fault-fault-requires-clause-from
use_fault-fault-requires-clause-from c =
    let names = c.requires.kept.0 in
    let h = c.requires.kept.1 in
    let s = c.args.state.now in
    let P = c.args.problem.now in
    let x = the_label_argument s.labels c.args.modal in
    let u = c.args.used in
    let xs = s.sequents.branch.items in
    let forks = reverse s.sequents.forks.items in
    let more = c.label_after.new.labels in
    let logic = c.logic-logic.ensures ∙ ap (λ d. d.logic) c.setting-setting.ensures.setting in
    let used = used-of P names s more u c.in_ok-at.at x _ c.requires.is_open h c.requires.stands c.in_ok-at.ensures.grown logic c.in_ok-at.ensures.place in
    (label-kept P names s.substitutions s.labels more s.eigens s.marks s.sequents.is_open xs forks u c.in_ok-at.at x used).0

pub use_fault-fault-requires-clause-homes : goal.use_fault-fault-requires-clause-homes
use_fault-fault-requires-clause-homes c =
    (c.requires.kept.0, homes-longer c.requires.kept.0 c.args.state.now.labels c.label_after.new.labels c.args.state.now.homes c.in_ok-at.ensures.grown c.requires.kept.1.homes)

pub grow-requires : goal.grow-requires
grow-requires c =
    let names = c.requires.kept.0 in
    let h = c.requires.kept.1 in
    let s = c.args.state.now in
    let P = c.args.problem.now in
    let x = the_label_argument s.labels c.args.modal in
    let u = c.args.used in
    let xs = s.sequents.branch.items in
    let forks = reverse s.sequents.forks.items in
    let more = c.label_after.new.labels in
    let logic = c.logic-logic.ensures ∙ ap (λ d. d.logic) c.setting-setting.ensures.setting in
    let used = used-of P names s more u c.in_ok-at.at x _ c.requires.is_open h c.requires.stands c.in_ok-at.ensures.grown logic c.in_ok-at.ensures.place in
    let t = the_argument c.args.term in
    let same = argument-longer s.labels more c.args.modal c.in_ok-at.ensures.grown c.requires.within in
    let homes = homes-longer names s.labels more s.homes c.in_ok-at.ensures.grown h.homes in
    let told = told-fault P names s.substitutions s.labels more s.eigens s.marks s.sequents.is_open xs forks u c.in_ok-at.at x (the_label_argument more c.args.modal) t c.use_fault-fault.result _ _ _ used same logic c.kind_of-kind.ensures.modal c.kind_of-kind.ensures.shape (c.use_fault-fault.ensures names homes) in
    let f = the_formula u.shared.formula.now in
    let unfaulted = λ (y : Children). told y ∙ ap (faulty y) c.in-None.is in
    let kept = met P names (the_sequent s.substitutions s.labels xs) (the_entry s.substitutions s.labels u) x t unfaulted in
    record {
      is_open = c.requires.is_open;
      kept = (names, kept-more names s more c.in_ok-at.ensures.grown h);
      stands = c.requires.stands;
      label = subst (λ z. IsLabelAfter more u.shared.label z c.in_ok-at.at) (sym same) (after-of P names s.substitutions s.labels more s.eigens s.marks s.sequents.is_open xs forks u c.in_ok-at.at x used);
      fits = ap (λ g. term_fits g t) (sym (shape-all (get_or s.substitutions u.shared.substitution []) 0 u.shared.sign f)) ∙ kept.0;
      closed = kept.1;
      named = c.requires.named;
      put = c.requires.put;
    }

pub returns-in-Some-clause-fault : goal.returns-in-Some-clause-fault
returns-in-Some-clause-fault c = λ fault e names h.
    let s = c.args.state.now in
    let P = c.args.problem.now in
    let x = the_label_argument s.labels c.args.modal in
    let u = c.args.used in
    let xs = s.sequents.branch.items in
    let forks = reverse s.sequents.forks.items in
    let more = c.label_after.new.labels in
    let logic = c.logic-logic.ensures ∙ ap (λ d. d.logic) c.setting-setting.ensures.setting in
    let used = used-of P names s more u c.in_ok-at.at x _ c.requires.is_open h c.requires.stands c.in_ok-at.ensures.grown logic c.in_ok-at.ensures.place in
    let t = the_argument c.args.term in
    let same = argument-longer s.labels more c.args.modal c.in_ok-at.ensures.grown c.requires.within in
    let homes = homes-longer names s.labels more s.homes c.in_ok-at.ensures.grown h.homes in
    let told = told-fault P names s.substitutions s.labels more s.eigens s.marks s.sequents.is_open xs forks u c.in_ok-at.at x (the_label_argument more c.args.modal) t c.use_fault-fault.result _ _ _ used same logic c.kind_of-kind.ensures.modal c.kind_of-kind.ensures.shape (c.use_fault-fault.ensures names homes) in
    let is : c.in-Some.fault ≡ fault = cc in
    told (children_of P.setting.logic (the_sequent s.substitutions s.labels xs) (the_entry s.substitutions s.labels u) x t) ∙ ap (faulty _) c.in-Some.is ∙ ap Err is

pub returns-in_ok-grow-in-None-clause-kept : goal.returns-in_ok-grow-in-None-clause-kept
returns-in_ok-grow-in-None-clause-kept c = λ names h.
    c.in_ok-grow-in-None.ensures.kept names (kept-more names c.args.state.now c.label_after.new.labels c.in_ok-at.ensures.grown h)

pub returns-in_ok-grow-in-None-clause-leads : goal.returns-in_ok-grow-in-None-clause-leads
returns-in_ok-grow-in-None-clause-leads c = λ names h.
    let s = c.args.state.now in
    let P = c.args.problem.now in
    let x = the_label_argument s.labels c.args.modal in
    let u = c.args.used in
    let xs = s.sequents.branch.items in
    let forks = reverse s.sequents.forks.items in
    let more = c.label_after.new.labels in
    let logic = c.logic-logic.ensures ∙ ap (λ d. d.logic) c.setting-setting.ensures.setting in
    let used = used-of P names s more u c.in_ok-at.at x _ c.requires.is_open h c.requires.stands c.in_ok-at.ensures.grown logic c.in_ok-at.ensures.place in
    let t = the_argument c.args.term in
    let same = argument-longer s.labels more c.args.modal c.in_ok-at.ensures.grown c.requires.within in
    let homes = homes-longer names s.labels more s.homes c.in_ok-at.ensures.grown h.homes in
    let told = told-fault P names s.substitutions s.labels more s.eigens s.marks s.sequents.is_open xs forks u c.in_ok-at.at x (the_label_argument more c.args.modal) t c.use_fault-fault.result _ _ _ used same logic c.kind_of-kind.ensures.modal c.kind_of-kind.ensures.shape (c.use_fault-fault.ensures names homes) in
    let unfaulted = λ (y : Children). told y ∙ ap (faulty y) c.in-None.is in
    used-leads P names s.substitutions s.labels more s.eigens s.marks s.sequents.is_open xs forks u c.in_ok-at.at x t _ used unfaulted c.in_ok-grow-in-None.ensures.grown

pub returns-in_ok-grow-in-None-clause-grown : goal.returns-in_ok-grow-in-None-clause-grown
returns-in_ok-grow-in-None-clause-grown c = subst (IsLonger c.args.state.now.labels) (sym c.in_ok-grow-in-None.ensures.labels) c.in_ok-at.ensures.grown

pub returns-in_ok-grow-in-None-clause-named : goal.returns-in_ok-grow-in-None-clause-named
returns-in_ok-grow-in-None-clause-named c = record { homes = c.in_ok-grow-in-None.ensures.named.homes; named = c.in_ok-grow-in-None.ensures.named.named; substitutions = c.in_ok-grow-in-None.ensures.named.substitutions }

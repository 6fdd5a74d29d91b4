use Rattle.std.proofs.Common.{◌∙◌, IsTrue, ap, length, subst, sym}
use Rattle.std.proofs.lemmas.Bool.{and_parts}
use Rattle.std.proofs.lemmas.Result.{on_ok_weaker}
use Rattle.calculus.specs.Calculus.{apply, close_branch, entry_of, use_entry}
use Rattle.calculus.specs.Versions.{stated_step, stated_term}
use Rattle.derivation_text.specs.Listed.{are_listed, is_arg_listed, is_modal_listed}
use Rattle.derivation_text.specs.NumbersView.{the_numbered_arg, the_numbered_modal, the_numbered_step}
use Rattle.derivation_check.specs.ArgumentView.{ArePlaces, the_argument, the_label_argument}
use Rattle.derivation_check.specs.NamesTold.{AreNamed}
use Rattle.derivation_check.specs.TermsPut.{ArePut}
use Rattle.derivation_check.specs.StateView.{IsKept, the_current}
use Rattle.derivation_check.proofs.ArgumentLaws.{places-longer}
use Rattle.derivation_check.proofs.StepLaws.{leads-as, leads-each}
use Rattle.derivation_check.proofs.steps.take_step.Goals as goal

pub label_argument-requires : goal.label_argument-requires
label_argument-requires c =
    let x = c.args.d.now in
    let among = subst (λ s. IsTrue (are_listed (length x.labels) (length x.terms) (the_numbered_step s))) c.in-Use.is c.requires.listed in
    subst (λ n. IsTrue (is_modal_listed n (the_numbered_modal c.in-Use.modal))) (sym c.requires.places.count)
    (and_parts (is_modal_listed (length x.labels) (the_numbered_modal c.in-Use.modal)) (is_arg_listed (length x.terms) (the_numbered_arg c.in-Use.term)) among).0

pub argument-requires-clause-listed : goal.argument-requires-clause-listed
argument-requires-clause-listed c =
    let x = c.args.d.now in
    let among = subst (λ s. IsTrue (are_listed (length x.labels) (length x.terms) (the_numbered_step s))) c.in-Use.is c.requires.listed in
    subst (λ ts. IsTrue (is_arg_listed (length ts) (the_numbered_arg c.in-Use.term))) (sym c.terms.ensures)
    (and_parts (is_modal_listed (length x.labels) (the_numbered_modal c.in-Use.modal)) (is_arg_listed (length x.terms) (the_numbered_arg c.in-Use.term)) among).1

pub argument-requires-clause-put : goal.argument-requires-clause-put
argument-requires-clause-put c = c.requires.put.count ∙ sym (ap length c.terms.ensures)

pub use_numbered-requires : goal.use_numbered-requires
use_numbered-requires c = record {
  within = c.label_argument.ensures.within c.args.d.now.labels c.args.state.now.labels c.requires.places;
  is_open = c.requires.is_open;
  kept = c.requires.kept;
  named = c.argument.ensures.named c.args.state.now.homes c.args.state.now.named.items (subst (λ ts. AreNamed c.args.state.now.homes ts c.args.state.now.named.items) (sym c.terms.ensures) c.requires.named);
  put = c.argument.ensures.put c.args.state.now.substitutions (subst (λ ts. ArePut c.args.state.now.substitutions ts c.args.put.now) (sym c.terms.ensures) c.requires.put);
}

pub returns-in-Use-clause-leads : goal.returns-in-Use-clause-leads
returns-in-Use-clause-leads c =
    let s = c.args.state.now in
    let x = c.args.d.now in
    let P = c.args.problem.now in
    let modal = c.label_argument.ensures.same x.labels s.labels c.requires.places in
    let given = c.argument.ensures.same ∙ ap (λ ts. stated_term ts (the_numbered_arg c.in-Use.term)) c.terms.ensures in
    leads-as c.use_numbered.result (λ n. IsKept n s)
    (λ n. use_entry P n (the_current s) (entry_of (the_current s) c.in-Use.entry) (the_label_argument s.labels c.label_argument.result) (the_argument c.argument.result))
    (λ n. apply P n (the_current s) (stated_step x.labels x.terms (the_numbered_step c.args.step))) _ _
    (λ n. (λ i. use_entry P n (the_current s) (entry_of (the_current s) c.in-Use.entry) (modal i) (given i))
    ∙ ap (λ y. apply P n (the_current s) (stated_step x.labels x.terms (the_numbered_step y))) (sym c.in-Use.is)) c.use_numbered.ensures.leads

pub returns-in-Use-clause-fault : goal.returns-in-Use-clause-fault
returns-in-Use-clause-fault c = λ f e names h.
    let s = c.args.state.now in
    let x = c.args.d.now in
    let P = c.args.problem.now in
    let modal = c.label_argument.ensures.same x.labels s.labels c.requires.places in
    let given = c.argument.ensures.same ∙ ap (λ ts. stated_term ts (the_numbered_arg c.in-Use.term)) c.terms.ensures in
    let step = (λ i. use_entry P names (the_current s) (entry_of (the_current s) c.in-Use.entry) (modal i) (given i))
    ∙ ap (λ y. apply P names (the_current s) (stated_step x.labels x.terms (the_numbered_step y))) (sym c.in-Use.is) in
    sym step ∙ c.use_numbered.ensures.fault f e names h

pub returns-in-Use-clause-places : goal.returns-in-Use-clause-places
returns-in-Use-clause-places c =
    let labels = c.args.d.now.labels in
    on_ok_weaker c.use_numbered.result (λ h. places-longer (length labels) labels c.args.state.now.labels c.use_numbered.new.state.labels c.args.places.now h c.requires.places) c.use_numbered.ensures.grown

pub returns-in-Axiom-clause-leads : goal.returns-in-Axiom-clause-leads
returns-in-Axiom-clause-leads c =
    let s = c.args.state.now in
    let x = c.args.d.now in
    let P = c.args.problem.now in
    leads-each c.close_numbered.result (λ n. IsKept n s) (close_branch (entry_of (the_current s) c.in-Axiom.given) (entry_of (the_current s) c.in-Axiom.shown))
    (λ n. apply P n (the_current s) (stated_step x.labels x.terms (the_numbered_step c.args.step))) _ _
    (λ n. ap (λ y. apply P n (the_current s) (stated_step x.labels x.terms (the_numbered_step y))) (sym c.in-Axiom.is)) c.close_numbered.ensures.leads

pub returns-in-Axiom-clause-fault : goal.returns-in-Axiom-clause-fault
returns-in-Axiom-clause-fault c = λ f e names h.
    let x = c.args.d.now in
    ap (λ y. apply c.args.problem.now names (the_current c.args.state.now) (stated_step x.labels x.terms (the_numbered_step y))) c.in-Axiom.is ∙ c.close_numbered.ensures.fault f e

pub returns-in-Axiom-clause-places : goal.returns-in-Axiom-clause-places
returns-in-Axiom-clause-places c =
    let labels = c.args.d.now.labels in
    on_ok_weaker c.close_numbered.result (λ h. subst (λ t. ArePlaces labels t c.args.places.now) (sym h) c.requires.places) c.close_numbered.ensures.labels

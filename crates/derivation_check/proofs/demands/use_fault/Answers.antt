use Rattle.std.proofs.Common.{◌∙◌, ◌&&◌, ap, subst, sym}
use Rattle.calculus.specs.Calculus.{has_step, home_is, is_reachable, label_after, modal_fits, term_allowed, term_fits}
use Rattle.derivation_check.specs.ArgumentView.{the_argument, the_label_argument}
use Rattle.derivation_check.specs.NamesTold.{IsNamed}
use Rattle.derivation_check.proofs.StateLaws.{judged}
use Rattle.derivation_check.proofs.demands.use_fault.Goals as goal

pub home_is-requires-clause-homes : goal.home_is-requires-clause-homes
home_is-requires-clause-homes c = c.requires.homes

pub is_known-requires : goal.is_known-requires
is_known-requires c = let s = c.args.state.now in subst (λ xs. IsNamed s.homes xs c.args.term) (sym c.as_slice.ensures.value) c.requires.named

pub term_allowed-requires-clause-named : goal.term_allowed-requires-clause-named
term_allowed-requires-clause-named c = let s = c.args.state.now in (c.requires.homes.0, s.homes, c.requires.homes.1, subst (λ xs. IsNamed s.homes xs c.args.term) (sym c.as_slice-2.ensures.value) c.requires.named)

pub returns : goal.returns
returns c = λ names homes z e tells modal shape from at x.
    let s = c.args.state.now in
    let problem = c.args.problem.now in
    let m = the_label_argument c.args.state.now.labels c.args.modal in
    let t = the_argument c.args.term in
    let logic = c.logic-logic.ensures ∙ ap (λ d. d.logic) c.setting-setting.ensures.setting in
    let after = at ∙ (λ i. label_after (sym logic i) (sym from i) m) in
    judged problem names z e m t c.arguments_fit.result c.is_known.result c.is_reachable.result c.is_new.result c.home_is.result c.term_allowed.result c.first_unmet.result
    ((λ i. modal_fits (sym modal i) m && term_fits (sym shape i) t && has_step (sym modal i) (sym shape i)) ∙ sym (c.arguments_fit.ensures m t (c.form.ensures c.args.state.now.labels) c.term_form.ensures))
    (sym (c.is_known.ensures names c.args.state.now.labels homes))
    ((λ i. is_reachable (sym logic i) (sym from i) m) ∙ sym (c.is_reachable.ensures after))
    (sym (c.is_new.ensures names z c.args.state.now.labels tells))
    (ap (λ w. home_is names w t) (sym at) ∙ sym (c.home_is.ensures names homes))
    (ap (λ w. term_allowed problem names w t) (sym at) ∙ sym (c.term_allowed.ensures names s.homes homes (subst (λ xs. IsNamed s.homes xs c.args.term) (sym c.as_slice-2.ensures.value) c.requires.named)))
    x (c.first_unmet.ensures x)

use Rattle.std.proofs.Common.{◌≡◌, ◌∙◌, subst, sym}
use Rattle.std.proofs.lemmas.Result.{IfOk-weaker}
use Rattle.calculus.specs.Derivations.{Names}
use Rattle.calculus.specs.Judgement.{verdict_from}
use Rattle.calculus.specs.VersionJudgement.{verdict_in}
use Rattle.calculus.specs.Versions.{stated}
use Rattle.derivation_check.specs.ArgumentView.{ArePlaces}
use Rattle.derivation_check.specs.NamesTold.{AreNamed}
use Rattle.derivation_check.specs.StateView.{IsKept, the_sequents}
use Rattle.derivation_check.specs.TermsPut.{ArePut}
use Rattle.derivation_check.specs.VerdictView.{the_verdict}
use Rattle.derivation_check.proofs.NamesLaws.{names-stay}
use Rattle.derivation_check.proofs.steps.judge.Goals as goal

pub put_terms-requires-clause-named : goal.put_terms-requires-clause-named
put_terms-requires-clause-named c = subst (λ ts. AreNamed c.in_ok-state.state.homes ts c.in_ok-state.state.named.items) (sym c.terms.ensures) c.in_ok-state.ensures.named

pub judge_steps-requires : goal.judge_steps-requires
judge_steps-requires c =
    let x = c.args.d.now in
    let state = c.put_terms.new.self in
    let places = subst (λ ls. ArePlaces x.labels ls c.in_ok-state.places.items) (sym c.in_ok-put.ensures.labels) c.in_ok-state.ensures.places in
    let put = subst (λ ts. ArePut state.substitutions ts c.in_ok-put.put.items) c.terms.ensures c.in_ok-put.ensures.put in
    record {
      bound = c.first_step_line-line.ensures.bound;
      places = subst (λ ps. ArePlaces x.labels state.labels ps) (sym c.as_slice.ensures.value) places;
      named = names-stay c.in_ok-state.state state x.terms c.in_ok-put.ensures.named c.in_ok-state.ensures.named;
      put = subst (λ ps. ArePut state.substitutions x.terms ps) (sym c.as_slice-2.ensures.value) put;
      kept = ((stated x).names, c.in_ok-put.ensures.kept (stated x).names c.in_ok-state.ensures.kept);
    }

pub returns : goal.returns
returns c =
    let P = c.args.problem.now in
    let d = stated c.args.d.now in
    let state = c.put_terms.new.self in
    let line = c.first_step_line-line.result in
    let shown = c.in_ok-put.ensures.shown d.names c.in_ok-state.ensures.kept ∙ c.in_ok-state.ensures.first in
    IfOk-weaker c.judge_steps.result (λ v. (names : Names) → IsKept names state → the_verdict v ≡ verdict_from P names (the_sequents state) d.steps line) (λ v. the_verdict v ≡ verdict_in c.args.version P d)
    (λ v h. h d.names (c.in_ok-put.ensures.kept d.names c.in_ok-state.ensures.kept) ∙ (λ i. verdict_from P d.names (shown i) d.steps (c.first_step_line-line.ensures.line i))) c.judge_steps.ensures

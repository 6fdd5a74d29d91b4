use Rattle.std.proofs.Common.{◌+◌, ◌∙◌, List, length, map, drop, ap, sym, arith}
use Rattle.std.proofs.lemmas.List.{at_drop_more, drop_all}
use Rattle.std.specs.Option.{option_map_or}
use Rattle.calculus.specs.Judgement.{verdict_from}
use Rattle.calculus.specs.Versions.{stated_step}
use Rattle.derivation_text.specs.NumbersView.{the_numbered_step}
use Rattle.derivation_text.specs.declared.numbers.NumberedStep.{NumberedStep}
use Rattle.derivation_check.specs.StateView.{the_sequents}
use Rattle.derivation_check.specs.VerdictView.{the_verdict}
use Rattle.derivation_check.proofs.ArgumentLaws.{step-listed}
use Rattle.derivation_check.proofs.NamesLaws.{names-stay}
use Rattle.derivation_check.proofs.PutLaws.{puts-longer}
use Rattle.derivation_check.proofs.steps.judge_steps.Goals as goal

pub loop-step-init : goal.loop-step-init
loop-step-init c =
    let x = c.args.d.now in
    record {
      bound = omega (arith, c.requires.bound);
      some = c.requires.kept;
      kept = λ names h. h;
      places = c.requires.places;
      named = c.requires.named;
      put = c.requires.put;
      judged = λ names h i. verdict_from c.args.problem.now names (the_sequents c.args.state.now) (map (stated_step x.labels x.terms) (c.steps-step-items.ensures.view i)) c.args.first_line;
    }

pub judge_step-requires : goal.judge_step-requires
judge_step-requires c =
    let x = c.args.d.now in
    record {
      listed = step-listed (length x.labels) (length x.terms) c.steps-step-items.result.now c.loop-step.step-index _ x.steps c.steps-step-items.ensures.view c.steps-step-items.ensures.listed (omega (arith, c.loop-step-test.true));
      places = c.loop-step.invariant.places;
      named = c.loop-step.invariant.named;
      put = c.loop-step.invariant.put;
      kept = c.loop-step.invariant.some;
    }

pub returns-in-Some : goal.returns-in-Some
returns-in-Some c = λ names h.
    let P = c.args.problem.now in
    let x = c.args.d.now in
    let items = c.steps-step-items.result.now in
    let i = c.loop-step.step-index in
    let line = c.loop-step.line in
    let of = λ (xs : List NumberedStep). map (stated_step x.labels x.terms) (map the_numbered_step xs) in
    let rest = of (drop (i + 1) items) in
    let left = λ (xs : List NumberedStep). verdict_from P names (the_sequents c.loop-step.state) (of xs) line in
    sym (c.in_ok-verdict.ensures.judged names (c.loop-step.invariant.kept names h) rest ∙ ap (λ o. option_map_or the_verdict o (verdict_from P names (the_sequents c.judge_step.new.state) rest (line + 1))) c.in-Some.is)
    ∙ sym (at_drop_more left items i _ (omega (arith, c.loop-step-test.true))) ∙ c.loop-step.invariant.judged names h

pub loop-step-preserved : goal.loop-step-preserved
loop-step-preserved c =
    let P = c.args.problem.now in
    let x = c.args.d.now in
    let items = c.steps-step-items.result.now in
    let i = c.loop-step.step-index in
    let line = c.loop-step.line in
    let of = λ (xs : List NumberedStep). map (stated_step x.labels x.terms) (map the_numbered_step xs) in
    let rest = of (drop (i + 1) items) in
    let kept = c.in_ok-verdict.ensures.kept c.in_default.is in
    record {
      bound = omega (arith, c.loop-step.invariant.bound);
      some = (c.loop-step.invariant.some.0, kept c.loop-step.invariant.some.0 c.loop-step.invariant.some.1);
      kept = λ names h. kept names (c.loop-step.invariant.kept names h);
      places = c.in_ok-verdict.ensures.places c.in_default.is;
      named = names-stay c.loop-step.state c.judge_step.new.state c.args.d.now.terms (c.in_ok-verdict.ensures.named c.in_default.is) c.loop-step.invariant.named;
      put = puts-longer (length x.terms) c.loop-step.state.substitutions c.judge_step.new.state.substitutions x.terms c.args.put.now (c.in_ok-verdict.ensures.named c.in_default.is).substitutions c.loop-step.invariant.put;
      judged = λ names h.
          sym (c.in_ok-verdict.ensures.judged names (c.loop-step.invariant.kept names h) rest ∙ ap (λ o. option_map_or the_verdict o (verdict_from P names (the_sequents c.judge_step.new.state) rest (line + 1))) c.in_default.is)
          ∙ sym (at_drop_more (λ (xs : List NumberedStep). verdict_from P names (the_sequents c.loop-step.state) (of xs) line) items i _ (omega (arith, c.loop-step-test.true))) ∙ c.loop-step.invariant.judged names h;
    }

pub returns : goal.returns
returns c = λ names h.
    let P = c.args.problem.now in
    let x = c.args.d.now in
    let items = c.steps-step-items.result.now in
    c.at_end.ensures ∙ ap (λ (l : List NumberedStep). verdict_from P names (the_sequents c.loop-step.state) (map (stated_step x.labels x.terms) (map the_numbered_step l)) c.loop-step.line) (sym (drop_all c.loop-step.step-index items (omega (arith, c.loop-step-test.false)))) ∙ c.loop-step.invariant.judged names h

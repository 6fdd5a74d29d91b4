use Rattle.std.proofs.Common.{◌<◌, ◌∙◌, Err, IsTrue, ap, length, map, subst, sym}
use Rattle.std.specs.List.{list_all}
use Rattle.calculus.specs.Problems.{is_modal}
use Rattle.logic_rules.specs.SettingView.{the_setting}
use Rattle.tptp_reader.specs.SourceView.{the_source}
use Rattle.problem_build.specs.Answers.{the_answer}
use Rattle.problem_build.specs.Building.{symbols_of}
use Rattle.problem_build.specs.NameCount.{is_short}
use Rattle.problem_build.specs.Passing.{the_passed}
use Rattle.problem_build.specs.Walk.{Passed}
use Rattle.problem_build.proofs.NameCountLaws.{all-short}
use Rattle.problem_build.proofs.ProblemLaws.{full-problem, over-arities, over-conjectures, over-names, over-premises, over-short_conjectures, over-short_premises, problem-over}
use Rattle.problem_build.proofs.building.problem_of.Goals as goal

pub symbols_of-requires : goal.symbols_of-requires
symbols_of-requires c =
    subst (λ ps. IsTrue (list_all (λ (p : Passed). is_short p.body) (map the_passed ps))) (sym c.deref.ensures.value)
    (all-short (is_modal (the_setting c.args.setting).logic) (map the_passed c.args.passed.items) c.requires.read)

pub problem_over-requires-clause-arities : goal.problem_over-requires-clause-arities
problem_over-requires-clause-arities c =
    over-arities (is_modal (the_setting c.args.setting).logic) (map the_passed c.args.passed.items) c.in-Ok.symbols (c.in-Ok.ensures.all ∙ ap (λ ps. symbols_of (map the_passed ps)) c.deref.ensures.value) c.requires.read

pub problem_over-requires-clause-short_premises : goal.problem_over-requires-clause-short_premises
problem_over-requires-clause-short_premises c =
    over-short_premises (is_modal (the_setting c.args.setting).logic) (map the_passed c.args.passed.items) (map the_source c.in_ok-parts.parts.premises.items) c.in_ok-parts.ensures.premises c.requires.read

pub problem_over-requires-clause-short_conjectures : goal.problem_over-requires-clause-short_conjectures
problem_over-requires-clause-short_conjectures c =
    over-short_conjectures (is_modal (the_setting c.args.setting).logic) (map the_passed c.args.passed.items) (map the_source c.in_ok-parts.parts.conjectures.items) c.in_ok-parts.ensures.conjectures c.requires.read

pub problem_over-requires-clause-names : goal.problem_over-requires-clause-names
problem_over-requires-clause-names c =
    over-names (is_modal (the_setting c.args.setting).logic) (map the_passed c.args.passed.items) c.in-Ok.symbols (c.in-Ok.ensures.all ∙ ap (λ ps. symbols_of (map the_passed ps)) c.deref.ensures.value) c.requires.read

pub problem_over-requires-clause-premises : goal.problem_over-requires-clause-premises
problem_over-requires-clause-premises c =
    over-premises (the_setting c.args.setting) (map the_passed c.args.passed.items) c.in-Ok.symbols (map the_source c.in_ok-parts.parts.premises.items)
    (c.in-Ok.ensures.all ∙ ap (λ ps. symbols_of (map the_passed ps)) c.deref.ensures.value) c.in_ok-parts.ensures.premises c.requires.read

pub problem_over-requires-clause-conjectures : goal.problem_over-requires-clause-conjectures
problem_over-requires-clause-conjectures c =
    over-conjectures (the_setting c.args.setting) (map the_passed c.args.passed.items) c.in-Ok.symbols (map the_source c.in_ok-parts.parts.conjectures.items)
    (c.in-Ok.ensures.all ∙ ap (λ ps. symbols_of (map the_passed ps)) c.deref.ensures.value) c.in_ok-parts.ensures.conjectures c.requires.read

pub returns-clause-problem : goal.returns-clause-problem
returns-clause-problem c =
    problem-over _ (the_setting c.args.setting) (map the_passed c.args.passed.items) c.in-Ok.symbols (map the_source c.in_ok-parts.parts.premises.items)
    (map the_source c.in_ok-parts.parts.conjectures.items) (the_answer c.problem_over.result)
    (c.in-Ok.ensures.all ∙ ap (λ ps. symbols_of (map the_passed ps)) c.deref.ensures.value) c.in_ok-parts.ensures.premises c.in_ok-parts.ensures.conjectures c.problem_over.ensures.problem

pub returns-in-Err-Full-clause-problem : goal.returns-in-Err-Full-clause-problem
returns-in-Err-Full-clause-problem c =
    full-problem _ (the_setting c.args.setting) (map the_passed c.args.passed.items)
    (subst (λ ps. 65536 < length (symbols_of (map the_passed ps))) c.deref.ensures.value (c.in-Err-Full.ensures.full (ap Err c.in-Err-Full.field-0-is)))

use Rattle.std.proofs.Common.{◌≡◌, ◌∙◌, Err, IfSome, Result, Some, ap, map, subst}
use Rattle.std.specs.Prelude.{IfOk}
use Rattle.calculus.specs.Problems.{is_modal}
use Rattle.calculus.specs.Syntax.{Problem}
use Rattle.logic_rules.specs.SettingView.{the_setting}
use Rattle.problem_build.specs.Answers.{the_answer}
use Rattle.problem_build.specs.Building.{IsProblemOf, WalkFetches}
use Rattle.problem_build.specs.Occurring.{HasItsSymbols}
use Rattle.problem_build.specs.Passing.{AreRead, the_passed}
use Rattle.problem_build.specs.Refusals.{Refusal}
use Rattle.problem_build.proofs.BuildLaws.{answered-alone, answered-fetch, answered-problem, answered-refusal, answered-symbols, reads-fetched, not-failed, not-missing}
use Rattle.problem_build.proofs.ListLaws.{inner-fault}
use Rattle.problem_build.proofs.building.build.Goals as goal

pub problem_of-requires : goal.problem_of-requires
problem_of-requires g c = record {
  read = subst (λ m. AreRead m (map the_passed c.in-Ok.walked.passed.items)) (c.is_modal.ensures ∙ ap is_modal c.logic.ensures) c.in-Ok.ensures.read;
}

-- ---- no problem

pub returns-in-Err-clause-agreeing : goal.returns-in-Err-clause-agreeing
returns-in-Err-clause-agreeing g c = λ files w. answered-refusal (Some files) c.args.name.now c.args.root.now (the_setting c.args.setting) c.in-Err.fault c.is_modal.result (c.is_modal.ensures ∙ ap is_modal c.logic.ensures) (c.in-Err.ensures.walks files w)

pub returns-in-Err-clause-agreeing_alone : goal.returns-in-Err-clause-agreeing_alone
returns-in-Err-clause-agreeing_alone g c = λ files w. answered-alone (Some files) c.args.name.now c.args.root.now (the_setting c.args.setting) (the_answer (Err c.in-Err.fault))
    (answered-refusal (Some files) c.args.name.now c.args.root.now (the_setting c.args.setting) c.in-Err.fault c.is_modal.result (c.is_modal.ensures ∙ ap is_modal c.logic.ensures) (c.in-Err.ensures.walks files w))

pub returns-in-Err-clause-agreeing_symbols : goal.returns-in-Err-clause-agreeing_symbols
returns-in-Err-clause-agreeing_symbols g c = λ files w. answered-symbols (Some files) c.args.name.now c.args.root.now (the_setting c.args.setting) (Err c.in-Err.fault)
    (answered-refusal (Some files) c.args.name.now c.args.root.now (the_setting c.args.setting) c.in-Err.fault c.is_modal.result (c.is_modal.ensures ∙ ap is_modal c.logic.ensures) (c.in-Err.ensures.walks files w))

pub returns-in-Err-clause-agreeing_fetched : goal.returns-in-Err-clause-agreeing_fetched
returns-in-Err-clause-agreeing_fetched g c = λ n e files w.
    answered-fetch (Some files) c.args.name.now c.args.root.now (the_setting c.args.setting) n c.is_modal.result (c.is_modal.ensures ∙ ap is_modal c.logic.ensures) (c.in-Err.ensures.fetched n (ap Err (inner-fault _ _ e)) files w)

pub returns-in-Err-clause-missing : goal.returns-in-Err-clause-missing
returns-in-Err-clause-missing g c = λ n e. let h = c.in-Err.ensures.missing n (ap Err (inner-fault _ _ e)) in h.0

pub returns-in-Err-clause-failed : goal.returns-in-Err-clause-failed
returns-in-Err-clause-failed g c = λ n e. let h = c.in-Err.ensures.failed n (ap Err (inner-fault _ _ e)) in h.0

pub returns-in-Err-clause-last_missing : goal.returns-in-Err-clause-last_missing
returns-in-Err-clause-last_missing g c = λ n e. let h = c.in-Err.ensures.missing n (ap Err (inner-fault _ _ e)) in h.1

pub returns-in-Err-clause-last_failed : goal.returns-in-Err-clause-last_failed
returns-in-Err-clause-last_failed g c = λ n e. let h = c.in-Err.ensures.failed n (ap Err (inner-fault _ _ e)) in h.1

-- ---- a problem, or a refusal of its formulas

pub returns-clause-agreeing : goal.returns-clause-agreeing
returns-clause-agreeing g c = λ files w. answered-problem (Some files) c.args.name.now c.args.root.now (the_setting c.args.setting) c.in-Ok.walked.main_length (map the_passed c.in-Ok.walked.passed.items) (the_answer c.problem_of.result) c.is_modal.result (c.is_modal.ensures ∙ ap is_modal c.logic.ensures)
    (c.in-Ok.ensures.walks files w) (c.in-Ok.ensures.length files w) c.problem_of.ensures.problem

pub returns-clause-agreeing_alone : goal.returns-clause-agreeing_alone
returns-clause-agreeing_alone g c = λ files w. answered-alone (Some files) c.args.name.now c.args.root.now (the_setting c.args.setting) (the_answer c.problem_of.result)
    (answered-problem (Some files) c.args.name.now c.args.root.now (the_setting c.args.setting) c.in-Ok.walked.main_length (map the_passed c.in-Ok.walked.passed.items) (the_answer c.problem_of.result) c.is_modal.result (c.is_modal.ensures ∙ ap is_modal c.logic.ensures)
    (c.in-Ok.ensures.walks files w) (c.in-Ok.ensures.length files w) c.problem_of.ensures.problem)

pub returns-clause-agreeing_symbols : goal.returns-clause-agreeing_symbols
returns-clause-agreeing_symbols g c = λ files w. answered-symbols (Some files) c.args.name.now c.args.root.now (the_setting c.args.setting) c.problem_of.result
    (answered-problem (Some files) c.args.name.now c.args.root.now (the_setting c.args.setting) c.in-Ok.walked.main_length (map the_passed c.in-Ok.walked.passed.items) (the_answer c.problem_of.result) c.is_modal.result (c.is_modal.ensures ∙ ap is_modal c.logic.ensures)
    (c.in-Ok.ensures.walks files w) (c.in-Ok.ensures.length files w) c.problem_of.ensures.problem)

pub returns-clause-missing : goal.returns-clause-missing
returns-clause-missing g c = λ n e. absurd (not-missing c.problem_of.result n c.problem_of.ensures.inside e)

pub returns-clause-last_missing : goal.returns-clause-last_missing
returns-clause-last_missing g c = λ n e. absurd (not-missing c.problem_of.result n c.problem_of.ensures.inside e)

pub returns-clause-failed : goal.returns-clause-failed
returns-clause-failed g c = λ n e. absurd (not-failed c.problem_of.result n c.problem_of.ensures.inside e)

pub returns-clause-last_failed : goal.returns-clause-last_failed
returns-clause-last_failed g c = λ n e. absurd (not-failed c.problem_of.result n c.problem_of.ensures.inside e)

pub returns-clause-agreeing_fetched : goal.returns-clause-agreeing_fetched
returns-clause-agreeing_fetched g c = λ n e files w. absurd (not-failed c.problem_of.result n c.problem_of.ensures.inside e)

-- ---- which files are read

pub returns-in-Err-clause-reads_only : goal.returns-in-Err-clause-reads_only
returns-in-Err-clause-reads_only g c = λ files w.
    reads-fetched files c.args.name.now c.args.root.now (the_setting c.args.setting) c.is_modal.result (g.L.Library.reads c.args.lib.now) (g.L.Library.reads c.walk_files.new.lib)
    (c.is_modal.ensures ∙ ap is_modal c.logic.ensures) (c.in-Err.ensures.fetches files w)

pub returns-clause-reads_only : goal.returns-clause-reads_only
returns-clause-reads_only g c = λ files w.
    reads-fetched files c.args.name.now c.args.root.now (the_setting c.args.setting) c.is_modal.result (g.L.Library.reads c.args.lib.now) (g.L.Library.reads c.walk_files.new.lib)
    (c.is_modal.ensures ∙ ap is_modal c.logic.ensures) (c.in-Ok.ensures.fetches files w)

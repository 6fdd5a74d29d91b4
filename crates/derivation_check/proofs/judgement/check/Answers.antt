use Rattle.logic_rules.proofs.ProblemFacts.{kept}
use Rattle.std.proofs.Common.{subst}
use Rattle.calculus.proofs.SequentLaws.{same_rest}
use Rattle.calculus.proofs.SoundnessLaws.{accepted-true, sound}
use Rattle.calculus.specs.VersionJudgement.{IsVersionJudgement}
use Rattle.derivation_check.specs.VerdictView.{the_verdict}
use Rattle.derivation_check.proofs.Accepting.{only-one}
use Rattle.derivation_check.proofs.judgement.check.Goals as goal

pub returns-clause-judgement : goal.returns-clause-judgement
returns-clause-judgement c =
    only-one c.args.problem.now (kept c.args.problem.now c.judgement_of.ensures.well).distinct c.args.bytes.now (the_verdict c.in_ok-verdict.verdict) c.in_ok-verdict.ensures.judgement

pub returns-clause-one_reading : goal.returns-clause-one_reading
returns-clause-one_reading c names s steps rest other first second = same_rest c.args.problem.now names first other second

pub returns-in_err-verdict-clause-one_reading : goal.returns-in_err-verdict-clause-one_reading
returns-in_err-verdict-clause-one_reading c names s steps rest other first second = same_rest c.args.problem.now names first other second

pub returns-clause-sound : goal.returns-clause-sound
returns-clause-sound c = sound c.args.problem.now c.judgement_of.ensures.well

pub returns-in_err-verdict-clause-sound : goal.returns-in_err-verdict-clause-sound
returns-in_err-verdict-clause-sound c = sound c.args.problem.now c.judgement_of.ensures.well

pub returns-clause-valid : goal.returns-clause-valid
returns-clause-valid c e = accepted-true c.args.problem.now c.judgement_of.ensures.well c.args.bytes.now (subst (λ v. IsVersionJudgement c.args.problem.now c.args.bytes.now (the_verdict v)) e c.in_ok-verdict.ensures.judgement)

use Rattle.std.proofs.Common.{Err, ap, refl}
use Rattle.calculus.specs.Versions.{stated}
use Rattle.derivation_check.specs.declared.acceptance.AcceptFault.TheVariants as answer
use Rattle.derivation_check.specs.declared.verdict.Verdict.TheVariants.{Accepted, Rejected}
use Rattle.calculus.proofs.SoundnessLaws.{printable-plain}
use Rattle.derivation_check.proofs.Accepting.{accepted-derives, of-rejection, of-text, only}
use Rattle.derivation_check.proofs.acceptance.accept.Goals as goal

pub returns-in-Err-Text-clause-rejected : goal.returns-in-Err-Text-clause-rejected
returns-in-Err-Text-clause-rejected c =
    of-text c.args.problem.now c.read.ensures.well c.args.bytes.now _ c.in-Err-Text.line _ c.in-Err-Text.cause c.in-Err-Text.line-is c.in-Err-Text.cause-is
    (c.in-Err-Text.ensures.fault c.in-Err-Text.line c.in-Err-Text.cause (ap Err c.in-Err-Text.field-0-is))

pub returns-in-Accepted-clause-printable : goal.returns-in-Accepted-clause-printable
returns-in-Accepted-clause-printable c = printable-plain c.in-Ok.version c.args.problem.now (stated c.in-Ok.derivation) c.in-Ok.ensures.text.printable

pub returns-in-Accepted-clause-derives : goal.returns-in-Accepted-clause-derives
returns-in-Accepted-clause-derives c =
    accepted-derives c.args.problem.now c.in-Ok.version (stated c.in-Ok.derivation) c.in_ok-judge-in-Ok.field-0 Accepted c.in_ok-judge-in-Ok.ensures c.in-Accepted.is refl

pub returns-in-Accepted-clause-accepted : goal.returns-in-Accepted-clause-accepted
returns-in-Accepted-clause-accepted c =
    only c.args.problem.now c.read.ensures.well c.args.bytes.now c.in-Ok.version (stated c.in-Ok.derivation) c.in_ok-judge-in-Ok.field-0 Accepted c.in-Ok.ensures.text c.in_ok-judge-in-Ok.ensures c.in-Accepted.is

pub returns-in-Rejected-clause-rejected : goal.returns-in-Rejected-clause-rejected
returns-in-Rejected-clause-rejected c =
    let line = c.in-Rejected.line in
    let fault = c.in-Rejected.fault in
    of-rejection c.args.problem.now c.args.bytes.now line fault (Err (answer.Rejected line fault)) refl
    (only c.args.problem.now c.read.ensures.well c.args.bytes.now c.in-Ok.version (stated c.in-Ok.derivation) c.in_ok-judge-in-Ok.field-0 (Rejected line fault) c.in-Ok.ensures.text c.in_ok-judge-in-Ok.ensures c.in-Rejected.is)

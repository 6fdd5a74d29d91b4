use Rattle.logic_rules.proofs.ProblemFacts.{kept}
use Rattle.derivation_text.proofs.FaultLaws.{one-fault, one-text}
use Rattle.derivation_text.proofs.parser.read.Goals as goal

pub returns-in_err-d-clause-derivation : goal.returns-in_err-d-clause-derivation
returns-in_err-d-clause-derivation c = one-text c.args.problem.now (kept c.args.problem.now c.read_one.ensures.well).distinct c.args.bytes.now

pub returns-in_err-d-clause-first : goal.returns-in_err-d-clause-first
returns-in_err-d-clause-first c = one-fault c.args.problem.now (kept c.args.problem.now c.read_one.ensures.well).distinct c.args.bytes.now

pub returns-then-is_version_one-clause-derivation : goal.returns-then-is_version_one-clause-derivation
returns-then-is_version_one-clause-derivation c = one-text c.args.problem.now (kept c.args.problem.now c.read_one.ensures.well).distinct c.args.bytes.now

pub returns-then-is_version_one-clause-first : goal.returns-then-is_version_one-clause-first
returns-then-is_version_one-clause-first c = one-fault c.args.problem.now (kept c.args.problem.now c.read_one.ensures.well).distinct c.args.bytes.now

pub returns-in_err-d-2-clause-derivation : goal.returns-in_err-d-2-clause-derivation
returns-in_err-d-2-clause-derivation c = one-text c.args.problem.now (kept c.args.problem.now c.read_two.ensures.well).distinct c.args.bytes.now

pub returns-in_err-d-2-clause-first : goal.returns-in_err-d-2-clause-first
returns-in_err-d-2-clause-first c = one-fault c.args.problem.now (kept c.args.problem.now c.read_two.ensures.well).distinct c.args.bytes.now

pub returns-clause-derivation : goal.returns-clause-derivation
returns-clause-derivation c = one-text c.args.problem.now (kept c.args.problem.now c.read_two.ensures.well).distinct c.args.bytes.now

pub returns-clause-first : goal.returns-clause-first
returns-clause-first c = one-fault c.args.problem.now (kept c.args.problem.now c.read_two.ensures.well).distinct c.args.bytes.now

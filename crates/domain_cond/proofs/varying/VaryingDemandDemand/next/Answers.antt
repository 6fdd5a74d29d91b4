use Rattle.store_theory.proofs.PatternLaws.{KeepsMarks-built}
use Rattle.domain_cond.proofs.varying.VaryingDemandDemand.next.Goals as goal

pub returns-clause-marks : goal.returns-clause-marks
returns-clause-marks c = KeepsMarks-built c.args.store.now.store c.next_equation.new.store.store c.next_equation.ensures.adds

pub returns-in_err-equation-clause-marks : goal.returns-in_err-equation-clause-marks
returns-in_err-equation-clause-marks c = KeepsMarks-built c.args.store.now.store c.next_equation.new.store.store c.next_equation.ensures.adds

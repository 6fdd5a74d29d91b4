use Rattle.std.proofs.Common.{◌∙◌, sym}
use Rattle.store_theory.proofs.PatternLaws.{KeepsMarks-built}
use Rattle.domain_cond.proofs.cumulative.CumulativeDemandDemand.homes.Goals as goal

pub forced_homes-requires-clause-not_constant : goal.forced_homes-requires-clause-not_constant
forced_homes-requires-clause-not_constant c = λ e. (let z = sym c.args.self.now.cumulative ∙ e in cc z)

pub returns-clause-marks : goal.returns-clause-marks
returns-clause-marks c = KeepsMarks-built c.args.store.now.store c.forced_homes.new.store.store c.forced_homes.ensures.adds

pub returns-in_err-homes-clause-marks : goal.returns-in_err-homes-clause-marks
returns-in_err-homes-clause-marks c = KeepsMarks-built c.args.store.now.store c.forced_homes.new.store.store c.forced_homes.ensures.adds

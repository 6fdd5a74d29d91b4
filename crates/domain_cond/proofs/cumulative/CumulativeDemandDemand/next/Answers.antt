use Rattle.std.proofs.Common.{◌∙◌, subst, sym}
use Rattle.calculus.specs.Skolem.{common_spares}
use Rattle.store_theory.specs.Systems.{AllAllowed, OwnSparesMeet}
use Rattle.store_theory.proofs.PatternLaws.{KeepsMarks-built}
use Rattle.term_store.specs.SystemView.{the_system}
use Rattle.domain_cond.proofs.ConditionLaws.{cumulative-common, met-homes_allow}
use Rattle.domain_cond.proofs.cumulative.CumulativeDemandDemand.next.Goals as goal

pub unmet-requires-clause-not_constant : goal.unmet-requires-clause-not_constant
unmet-requires-clause-not_constant c = λ e. (let z = sym c.args.self.now.cumulative ∙ e in cc z)

pub returns-clause-none : goal.returns-clause-none
returns-clause-none c = λ e. subst (λ t. OwnSparesMeet (common_spares c.args.self.now.problem.now) (AllAllowed c.args.self.now.problem.now) t (the_system c.args.system.now)) (sym (c.in_ok-equation.ensures.unchanged e)) (met-homes_allow c.args.self.now.problem.now c.args.store.now.store (the_system c.args.system.now) c.mark-now.ensures.well (cumulative-common c.args.self.now.problem.now c.args.self.now.cumulative) c.requires.fits (c.in_ok-equation.ensures.met e))

pub returns-clause-marks : goal.returns-clause-marks
returns-clause-marks c = KeepsMarks-built c.args.store.now.store c.unmet.new.store.store c.unmet.ensures.adds

pub returns-in_err-equation-clause-marks : goal.returns-in_err-equation-clause-marks
returns-in_err-equation-clause-marks c = KeepsMarks-built c.args.store.now.store c.unmet.new.store.store c.unmet.ensures.adds

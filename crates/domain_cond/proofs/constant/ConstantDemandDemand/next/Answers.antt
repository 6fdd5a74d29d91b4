use Rattle.store_theory.specs.Bindings.{nothing_more}
use Rattle.term_store.specs.SystemView.{the_system}
use Rattle.domain_cond.proofs.ConstantLaws.{met-constant}
use Rattle.domain_cond.proofs.constant.ConstantDemandDemand.next.Goals as goal

pub returns-clause-none : goal.returns-clause-none
returns-clause-none c = λ e. met-constant c.args.self.now.problem.now c.args.store.now.store (the_system c.args._system.now) c.mark-now.ensures.well c.args.self.now.constant c.requires.fits

pub returns-clause-adds : goal.returns-clause-adds
returns-clause-adds c = nothing_more

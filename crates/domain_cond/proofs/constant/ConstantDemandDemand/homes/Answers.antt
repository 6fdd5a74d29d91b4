use Rattle.std.proofs.Common.{IsTrue, refl, subst, sym}
use Rattle.std.specs.List.{AllByRecursion, list_all}
use Rattle.store_theory.specs.Bindings.{nothing_more}
use Rattle.store_theory.proofs.BindingLaws.{KeepsMarks-same}
use Rattle.term_store.specs.Homes.{BeginsLabel, is_home}
use Rattle.domain_cond.proofs.constant.ConstantDemandDemand.homes.Goals as goal

pub returns-clause-labels : goal.returns-clause-labels
returns-clause-labels c = subst (λ hs. IsTrue (list_all (is_home c.args._store.now.store) hs)) (sym c.new.ensures) refl

pub returns-clause-forced : goal.returns-clause-forced
returns-clause-forced c σ t m = subst (λ hs. AllByRecursion (BeginsLabel σ) hs) (sym c.new.ensures) tt

pub returns-clause-adds : goal.returns-clause-adds
returns-clause-adds c = nothing_more

pub returns-clause-marks : goal.returns-clause-marks
returns-clause-marks c = KeepsMarks-same c.args._store.now.store

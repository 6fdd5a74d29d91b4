use Rattle.std.proofs.Common.{IsTrue, subst}
use Rattle.store_theory.specs.Stores.{has_sort_at}
use Rattle.term_unify.specs.Steps.{head_sort}
use Rattle.domain_cond.proofs.WayLaws.{head-sorted}
use Rattle.domain_cond.proofs.home.sort_at.Goals as goal

pub returns-in-Open : goal.returns-in-Open
returns-in-Open c = subst (λ h. IsTrue (has_sort_at c.args.store.now.store (head_sort h) c.args.r.0)) c.in-Open.is (head-sorted c.args.store.now.store c.args.r.0 c.head.result c.mark-now.ensures.well.fits c.requires c.head.ensures)

pub returns-in-Fun : goal.returns-in-Fun
returns-in-Fun c = subst (λ h. IsTrue (has_sort_at c.args.store.now.store (head_sort h) c.args.r.0)) c.in-Fun.is (head-sorted c.args.store.now.store c.args.r.0 c.head.result c.mark-now.ensures.well.fits c.requires c.head.ensures)

pub returns-in-Eigen : goal.returns-in-Eigen
returns-in-Eigen c = subst (λ h. IsTrue (has_sort_at c.args.store.now.store (head_sort h) c.args.r.0)) c.in-Eigen.is (head-sorted c.args.store.now.store c.args.r.0 c.head.result c.mark-now.ensures.well.fits c.requires c.head.ensures)

pub returns-in-New : goal.returns-in-New
returns-in-New c = subst (λ h. IsTrue (has_sort_at c.args.store.now.store (head_sort h) c.args.r.0)) c.in-New.is (head-sorted c.args.store.now.store c.args.r.0 c.head.result c.mark-now.ensures.well.fits c.requires c.head.ensures)

pub returns-in-Marks : goal.returns-in-Marks
returns-in-Marks c = subst (λ h. IsTrue (has_sort_at c.args.store.now.store (head_sort h) c.args.r.0)) c.in-Marks.is (head-sorted c.args.store.now.store c.args.r.0 c.head.result c.mark-now.ensures.well.fits c.requires c.head.ensures)

use Rattle.std.proofs.Common.{◌++◌, ◌∷◌, ℕ, List, arith, inl, length, subst, sym}
use Rattle.store_theory.proofs.BindingLaws.{KeepsMarks-same}
use Rattle.calculus.specs.Choices.{Choice}
use Rattle.connection_search.specs.Exploring.{IsExploring, IsSpace, IsVisiting}
use Rattle.search_tree.specs.declared.tree.Tree.{Tree}
use Rattle.connection_search.proofs.DecidingLaws.{visiting-in}
use Rattle.connection_search.proofs.PruneLaws.{visit-pruned, visit-stuck}
use Rattle.connection_search.proofs.SpentLaws.{counted}
use Rattle.connection_search.proofs.TryingLaws.{above-seen, if_on, seen-weight}
use Rattle.connection_search.proofs.limit_search.LimitSearch.visit_regular.Goals as goal

pub is_stuck_early-requires : goal.is_stuck_early-requires
is_stuck_early-requires c = (c.requires.visiting.0, c.requires.visiting.4.choices, c.requires.visiting.4.stands)

pub returns-then-is_stuck_early-clause-on : goal.returns-then-is_stuck_early-clause-on
returns-then-is_stuck_early-clause-on c = λ base later begun space v. visit-stuck c.args.self.now.problem.now c.args.self.now.matrix.now base c.args.self.now.limit c.args.store.now.store c.args.work.now.tree.steps.items c.args.work.now.tree.goals.items c.args.work.now.tree.open c.args.points.now.items later begun c.args.ledger.now.used c.args.left.now v (c.is_stuck_early.ensures.left c.if-is_stuck_early.true) (c.is_stuck_early.ensures.lost c.if-is_stuck_early.true base (length c.args.work.now.tree.goals.items) v.choices space.matrix v.stands)

pub returns-then-is_stuck_early-clause-end : goal.returns-then-is_stuck_early-clause-end
returns-then-is_stuck_early-clause-end c = λ base later begun space v. tt

pub returns-then-is_stuck_early-clause-counted : goal.returns-then-is_stuck_early-clause-counted
returns-then-is_stuck_early-clause-counted c = λ base later begun space v. counted c.args.self.now.problem.now c.args.self.now.limit (v.choices ∷ v.pending ++ later) begun c.args.ledger.now.used c.args.left.now v.searched

pub returns-then-is_stuck_early-clause-points : goal.returns-then-is_stuck_early-clause-points
returns-then-is_stuck_early-clause-points c = inl (omega arith, omega arith)

pub returns-then-is_stuck_early-clause-above : goal.returns-then-is_stuck_early-clause-above
returns-then-is_stuck_early-clause-above c = λ k good h. h

pub returns-then-is_stuck_early-clause-marks : goal.returns-then-is_stuck_early-clause-marks
returns-then-is_stuck_early-clause-marks c = KeepsMarks-same c.args.store.now.store

pub has_failed_early-requires : goal.has_failed_early-requires
has_failed_early-requires c = (c.requires.visiting.0, c.requires.visiting.4.choices, c.requires.visiting.4.stands)

pub returns-in_err-before-clause-counted : goal.returns-in_err-before-clause-counted
returns-in_err-before-clause-counted c = λ base later begun space v. counted c.args.self.now.problem.now c.args.self.now.limit (v.choices ∷ v.pending ++ later) begun c.args.ledger.now.used c.args.left.now v.searched

pub returns-then-before-clause-on : goal.returns-then-before-clause-on
returns-then-before-clause-on c = λ base later begun space v. visit-stuck c.args.self.now.problem.now c.args.self.now.matrix.now base c.args.self.now.limit c.args.store.now.store c.args.work.now.tree.steps.items c.args.work.now.tree.goals.items c.args.work.now.tree.open c.args.points.now.items later begun c.args.ledger.now.used c.args.left.now v (c.in_ok-before.ensures.left c.if-before.true) (c.in_ok-before.ensures.lost c.if-before.true base (length c.args.work.now.tree.goals.items) v.choices c.requires.failed v.stands)

pub returns-then-before-clause-end : goal.returns-then-before-clause-end
returns-then-before-clause-end c = λ base later begun space v. tt

pub returns-then-before-clause-counted : goal.returns-then-before-clause-counted
returns-then-before-clause-counted c = λ base later begun space v. counted c.args.self.now.problem.now c.args.self.now.limit (v.choices ∷ v.pending ++ later) begun c.args.ledger.now.used c.args.left.now v.searched

pub returns-then-before-clause-failed : goal.returns-then-before-clause-failed
returns-then-before-clause-failed c = c.has_failed_early.ensures.kept c.requires.failed

pub returns-then-before-clause-points : goal.returns-then-before-clause-points
returns-then-before-clause-points c = inl (omega arith, omega arith)

pub returns-then-before-clause-above : goal.returns-then-before-clause-above
returns-then-before-clause-above c = λ k good h. h

pub returns-then-before-clause-marks : goal.returns-then-before-clause-marks
returns-then-before-clause-marks c = KeepsMarks-same c.args.store.now.store

pub returns-then-branch-clause-failed : goal.returns-then-branch-clause-failed
returns-then-branch-clause-failed c = c.has_failed_early.ensures.kept c.requires.failed

pub returns-clause-failed : goal.returns-clause-failed
returns-clause-failed c = c.has_failed_early.ensures.kept c.requires.failed

pub is_refuted_early-requires : goal.is_refuted_early-requires
is_refuted_early-requires c = (c.requires.visiting.0, c.requires.visiting.4.choices, c.requires.visiting.4.stands)

pub returns-in_err-is_refuted_early-clause-counted : goal.returns-in_err-is_refuted_early-clause-counted
returns-in_err-is_refuted_early-clause-counted c = λ base later begun space v. counted c.args.self.now.problem.now c.args.self.now.limit (v.choices ∷ v.pending ++ later) begun c.args.ledger.now.used c.args.left.now v.searched

pub returns-then-branch-clause-on : goal.returns-then-branch-clause-on
returns-then-branch-clause-on c = λ base later begun space v. subst (λ (z : Tree). IsExploring c.args.self.now.problem.now c.args.self.now.matrix.now base c.args.self.now.limit c.args.store.now.store z.steps.items z.goals.items c.lower.new.points.items later begun c.args.ledger.now.used c.args.left.now) (sym c.is_refuted_early.ensures.tree) (visit-pruned c.args.self.now.problem.now c.args.self.now.matrix.now base c.args.self.now.limit c.args.store.now.store c.args.work.now.tree.steps.items c.args.work.now.tree.goals.items c.args.work.now.tree.open c.args.points.now.items c.lower.new.points.items later begun c.args.ledger.now.used c.args.left.now v (c.in_ok-is_refuted_early.ensures.left c.if-branch.true) (c.in_ok-is_refuted_early.ensures.pruned c.if-branch.true base v.choices v.stands v.not_empty) c.lower.ensures)

pub returns-then-branch-clause-end : goal.returns-then-branch-clause-end
returns-then-branch-clause-end c = λ base later begun space v. tt

pub returns-then-branch-clause-counted : goal.returns-then-branch-clause-counted
returns-then-branch-clause-counted c = λ base later begun space v. counted c.args.self.now.problem.now c.args.self.now.limit (v.choices ∷ v.pending ++ later) begun c.args.ledger.now.used c.args.left.now v.searched

pub returns-then-branch-clause-points : goal.returns-then-branch-clause-points
returns-then-branch-clause-points c = inl (seen-weight 0 c.args.points.now.items c.lower.new.points.items c.lower.ensures, omega arith)

pub returns-then-branch-clause-above : goal.returns-then-branch-clause-above
returns-then-branch-clause-above c = λ k good h. above-seen k 0 c.args.points.now.items c.lower.new.points.items c.lower.ensures h

pub returns-then-branch-clause-marks : goal.returns-then-branch-clause-marks
returns-then-branch-clause-marks c = KeepsMarks-same c.args.store.now.store

pub take_up-requires : goal.take_up-requires
take_up-requires c = let (base, later, begun, space, v) = c.requires.visiting in
    (base, later, begun, space, visiting-in c.args.self.now.problem.now c.args.self.now.matrix.now base c.args.self.now.limit c.args.store.now.store c.is_refuted_early.new.work.tree c.args.work.now.tree c.args.points.now.items later begun c.args.ledger.now.used c.args.left.now c.is_refuted_early.ensures.tree v)

pub returns-in_err-visit-clause-counted : goal.returns-in_err-visit-clause-counted
returns-in_err-visit-clause-counted c = λ base later begun space v. c.take_up.ensures.counted base later begun space (visiting-in c.args.self.now.problem.now c.args.self.now.matrix.now base c.args.self.now.limit c.args.store.now.store c.is_refuted_early.new.work.tree c.args.work.now.tree c.args.points.now.items later begun c.args.ledger.now.used c.args.left.now c.is_refuted_early.ensures.tree v)

pub returns-clause-on : goal.returns-clause-on
returns-clause-on c = if_on _ _ ((base : ℕ) (later : List (List Choice)) (begun : ℕ) → IsSpace c.args.self.now.problem.now c.args.self.now.matrix.now c.args.self.now.limit → IsVisiting c.args.self.now.problem.now c.args.self.now.matrix.now base c.args.self.now.limit c.args.store.now.store c.args.work.now.tree.steps.items c.args.work.now.tree.goals.items c.args.work.now.tree.open c.args.points.now.items later begun c.args.ledger.now.used c.args.left.now → IsExploring c.args.self.now.problem.now c.args.self.now.matrix.now base c.args.self.now.limit c.take_up.new.store.store c.take_up.new.work.tree.steps.items c.take_up.new.work.tree.goals.items c.take_up.new.points.items later begun c.take_up.new.ledger.used c.take_up.new.left) c.in_ok-visit.ensures.on (λ f base later begun space v. f base later begun space (visiting-in c.args.self.now.problem.now c.args.self.now.matrix.now base c.args.self.now.limit c.args.store.now.store c.is_refuted_early.new.work.tree c.args.work.now.tree c.args.points.now.items later begun c.args.ledger.now.used c.args.left.now c.is_refuted_early.ensures.tree v))

pub returns-clause-end : goal.returns-clause-end
returns-clause-end c = λ base later begun space v. c.in_ok-visit.ensures.end base later begun space (visiting-in c.args.self.now.problem.now c.args.self.now.matrix.now base c.args.self.now.limit c.args.store.now.store c.is_refuted_early.new.work.tree c.args.work.now.tree c.args.points.now.items later begun c.args.ledger.now.used c.args.left.now c.is_refuted_early.ensures.tree v)

pub returns-clause-counted : goal.returns-clause-counted
returns-clause-counted c = λ base later begun space v. c.take_up.ensures.counted base later begun space (visiting-in c.args.self.now.problem.now c.args.self.now.matrix.now base c.args.self.now.limit c.args.store.now.store c.is_refuted_early.new.work.tree c.args.work.now.tree c.args.points.now.items later begun c.args.ledger.now.used c.args.left.now c.is_refuted_early.ensures.tree v)

use Rattle.std.proofs.Common.{◌++◌, ◌∷◌, ℕ, List, arith, inl, subst, sym}
use Rattle.store_theory.proofs.BindingLaws.{KeepsMarks-same}
use Rattle.calculus.specs.Choices.{Choice}
use Rattle.connection_search.specs.Exploring.{IsExploring, IsSpace, IsVisiting}
use Rattle.search_tree.specs.declared.tree.Tree.{Tree}
use Rattle.connection_search.proofs.DecidingLaws.{visiting-in}
use Rattle.connection_search.proofs.SpentLaws.{counted}
use Rattle.connection_search.proofs.TryingLaws.{above-seen, if_on, seen-weight}
use Rattle.connection_search.proofs.VisitLaws.{visit-repeated}
use Rattle.connection_search.proofs.limit_search.LimitSearch.visit.Goals as goal

pub repeated_early-requires : goal.repeated_early-requires
repeated_early-requires c = (c.requires.visiting.0, c.requires.visiting.4.choices, c.requires.visiting.4.stands)

pub returns-in_err-repeated-clause-counted : goal.returns-in_err-repeated-clause-counted
returns-in_err-repeated-clause-counted c = λ base later begun space v. counted c.args.self.now.problem.now c.args.self.now.limit (v.choices ∷ v.pending ++ later) begun c.args.ledger.now.used c.args.left.now v.searched

pub returns-in-Some-clause-on : goal.returns-in-Some-clause-on
returns-in-Some-clause-on c = λ base later begun space v. subst (λ (z : Tree). IsExploring c.args.self.now.problem.now c.args.self.now.matrix.now base c.args.self.now.limit c.args.store.now.store z.steps.items z.goals.items c.lower.new.points.items later begun c.args.ledger.now.used c.args.left.now) (sym c.repeated_early.ensures.tree) (visit-repeated c.args.self.now.problem.now c.args.self.now.matrix.now base c.args.self.now.limit c.args.store.now.store c.args.work.now.tree.steps.items c.args.work.now.tree.goals.items c.args.work.now.tree.open c.in-Some.repeated c.args.points.now.items c.lower.new.points.items later begun c.args.ledger.now.used c.args.left.now v (c.in_ok-repeated.ensures.dead c.in-Some.repeated c.in-Some.is base v.choices v.stands) (c.in_ok-repeated.ensures.lost c.in-Some.repeated c.in-Some.is base v.choices v.stands) c.lower.ensures)

pub returns-in-Some-clause-end : goal.returns-in-Some-clause-end
returns-in-Some-clause-end c = λ base later begun space v. tt

pub returns-in-Some-clause-counted : goal.returns-in-Some-clause-counted
returns-in-Some-clause-counted c = λ base later begun space v. counted c.args.self.now.problem.now c.args.self.now.limit (v.choices ∷ v.pending ++ later) begun c.args.ledger.now.used c.args.left.now v.searched

pub returns-in-Some-clause-points : goal.returns-in-Some-clause-points
returns-in-Some-clause-points c = inl (seen-weight c.in-Some.repeated c.args.points.now.items c.lower.new.points.items c.lower.ensures, omega arith)

pub returns-in-Some-clause-above : goal.returns-in-Some-clause-above
returns-in-Some-clause-above c = λ k good h. above-seen k c.in-Some.repeated c.args.points.now.items c.lower.new.points.items c.lower.ensures h

pub returns-in-Some-clause-marks : goal.returns-in-Some-clause-marks
returns-in-Some-clause-marks c = KeepsMarks-same c.args.store.now.store

pub visit_regular-requires-clause-visiting : goal.visit_regular-requires-clause-visiting
visit_regular-requires-clause-visiting c = let (base, later, begun, space, v) = c.requires.visiting in
    (base, later, begun, space, visiting-in c.args.self.now.problem.now c.args.self.now.matrix.now base c.args.self.now.limit c.args.store.now.store c.repeated_early.new.work.tree c.args.work.now.tree c.args.points.now.items later begun c.args.ledger.now.used c.args.left.now c.repeated_early.ensures.tree v)

pub returns-in_err-visit-clause-counted : goal.returns-in_err-visit-clause-counted
returns-in_err-visit-clause-counted c = λ base later begun space v. c.visit_regular.ensures.counted base later begun space (visiting-in c.args.self.now.problem.now c.args.self.now.matrix.now base c.args.self.now.limit c.args.store.now.store c.repeated_early.new.work.tree c.args.work.now.tree c.args.points.now.items later begun c.args.ledger.now.used c.args.left.now c.repeated_early.ensures.tree v)

pub returns-clause-on : goal.returns-clause-on
returns-clause-on c = if_on _ _ ((base : ℕ) (later : List (List Choice)) (begun : ℕ) → IsSpace c.args.self.now.problem.now c.args.self.now.matrix.now c.args.self.now.limit → IsVisiting c.args.self.now.problem.now c.args.self.now.matrix.now base c.args.self.now.limit c.args.store.now.store c.args.work.now.tree.steps.items c.args.work.now.tree.goals.items c.args.work.now.tree.open c.args.points.now.items later begun c.args.ledger.now.used c.args.left.now → IsExploring c.args.self.now.problem.now c.args.self.now.matrix.now base c.args.self.now.limit c.visit_regular.new.store.store c.visit_regular.new.work.tree.steps.items c.visit_regular.new.work.tree.goals.items c.visit_regular.new.points.items later begun c.visit_regular.new.ledger.used c.visit_regular.new.left) c.in_ok-visit.ensures.on (λ f base later begun space v. f base later begun space (visiting-in c.args.self.now.problem.now c.args.self.now.matrix.now base c.args.self.now.limit c.args.store.now.store c.repeated_early.new.work.tree c.args.work.now.tree c.args.points.now.items later begun c.args.ledger.now.used c.args.left.now c.repeated_early.ensures.tree v))

pub returns-clause-end : goal.returns-clause-end
returns-clause-end c = λ base later begun space v. c.in_ok-visit.ensures.end base later begun space (visiting-in c.args.self.now.problem.now c.args.self.now.matrix.now base c.args.self.now.limit c.args.store.now.store c.repeated_early.new.work.tree c.args.work.now.tree c.args.points.now.items later begun c.args.ledger.now.used c.args.left.now c.repeated_early.ensures.tree v)

pub returns-clause-counted : goal.returns-clause-counted
returns-clause-counted c = λ base later begun space v. c.visit_regular.ensures.counted base later begun space (visiting-in c.args.self.now.problem.now c.args.self.now.matrix.now base c.args.self.now.limit c.args.store.now.store c.repeated_early.new.work.tree c.args.work.now.tree c.args.points.now.items later begun c.args.ledger.now.used c.args.left.now c.repeated_early.ensures.tree v)

use Rattle.std.proofs.Common.{◌∙◌, arith, subst, sym}
use Rattle.matrix_build.specs.MatrixView.{the_place}
use Rattle.search_theory.specs.OrderedChoices.{extension_at}
use Rattle.search_tree.specs.Points.{IsNextAncestor}
use Rattle.search_tree.specs.Trees.{IsGoalAt}
use Rattle.search_tree.proofs.PointLaws.{ancestor-falls, extension-falls, extensions-moved, untried-extension, untried-step}
use Rattle.search_tree.proofs.point.Point.next.Goals as goal

pub returns-in-Some-clause-next : goal.returns-in-Some-clause-next
returns-in-Some-clause-next c = λ d g untried at h.
    let n = subst (λ o. IsNextAncestor c.args.tree.now.steps.items c.args.tree.now.goals.items g c.args.self.now c.next_ancestor.new.self o) c.in-Some.is (c.in_ok-step.ensures.next g at h.above) in
    untried-step c.args.matrix.now d c.args.tree.now.steps.items c.args.tree.now.goals.items c.args.self.now c.next_ancestor.new.self g untried c.in-Some.step h n c.next_ancestor.ensures.places.0 c.next_ancestor.ensures.places.1 c.next_ancestor.ensures.same.depth

pub returns-in-Some-next_extension-clause-next : goal.returns-in-Some-next_extension-clause-next
returns-in-Some-next_extension-clause-next c = λ d g untried at h.
    let n = subst (λ o. IsNextAncestor c.args.tree.now.steps.items c.args.tree.now.goals.items g c.args.self.now c.next_ancestor.new.self o) c.in_default.is (c.in_ok-step.ensures.next g at h.above) in
    let there = subst (λ k. IsGoalAt c.args.tree.now.steps.items c.args.tree.now.goals.items k g) (sym c.next_ancestor.ensures.same.goal) at in
    let (extends, (rest, e, left)) = c.in-Some-next_extension.ensures.next d g h.later there (extensions-moved c.args.matrix.now d c.args.self.now c.next_ancestor.new.self g h.later h.extensions c.next_ancestor.ensures.places.0 c.next_ancestor.ensures.places.1) in
    (extends, untried-extension c.args.matrix.now d c.args.tree.now.steps.items c.args.tree.now.goals.items c.args.self.now c.next_ancestor.new.self c.next_extension.new.self g untried rest (extension_at c.args.matrix.now (the_place c.in-Some-next_extension.place)) h n e left c.next_extension.ensures.way.0 c.next_extension.ensures.way.1 (c.next_extension.ensures.same.depth ∙ c.next_ancestor.ensures.same.depth))

pub returns-in-Some-clause-falls : goal.returns-in-Some-clause-falls
returns-in-Some-clause-falls c =
    let (d, g, untried, at, h) = c.requires in
    let n = subst (λ o. IsNextAncestor c.args.tree.now.steps.items c.args.tree.now.goals.items g c.args.self.now c.next_ancestor.new.self o) c.in-Some.is (c.in_ok-step.ensures.next g at h.above) in
    ancestor-falls c.args.matrix.now d c.args.tree.now.steps.items c.args.tree.now.goals.items c.args.self.now c.next_ancestor.new.self g untried c.in-Some.step h n c.next_ancestor.ensures.places.0 c.next_ancestor.ensures.places.1 c.next_ancestor.ensures.same.depth

pub returns-in-Some-next_extension-clause-falls : goal.returns-in-Some-next_extension-clause-falls
returns-in-Some-next_extension-clause-falls c =
    let (d, g, untried, at, h) = c.requires in
    let n = subst (λ o. IsNextAncestor c.args.tree.now.steps.items c.args.tree.now.goals.items g c.args.self.now c.next_ancestor.new.self o) c.in_default.is (c.in_ok-step.ensures.next g at h.above) in
    let k = c.in-Some-next_extension.ensures.counted in
    extension-falls c.args.tree.now.steps.items c.args.tree.now.goals.items c.args.self.now c.next_ancestor.new.self c.next_extension.new.self g n c.next_ancestor.ensures.places.0 c.next_ancestor.ensures.places.1 c.next_ancestor.ensures.same.depth c.next_extension.ensures.way.1 c.next_extension.ensures.same.depth (let e = k.0 in omega (arith, e)) (let e = k.0 in let l = k.1 in omega (arith, e, l)) k.2

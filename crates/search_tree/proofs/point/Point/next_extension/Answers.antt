use Rattle.term_store.specs.ClauseView.{the_atom}
use Rattle.search_tree.proofs.PointLaws.{goal-row}
use Rattle.search_tree.proofs.point.Point.next_extension.Goals as goal

pub take_place-requires : goal.take_place-requires
take_place-requires c =
    let (d, g, xs, at, h) = c.requires in
    (c.args.matrix.now, d, g, xs, goal-row c.args.matrix.now c.args.tree.now.steps.items c.args.tree.now.goals.items c.args.self.now.goal g c.places.result.now (the_atom c.atom-atom.result.now) c.other.result at c.atom-atom.ensures c.places.ensures c.other.ensures, h)

pub returns-clause-next : goal.returns-clause-next
returns-clause-next c = λ d g xs at h. c.take_place.ensures.next c.args.matrix.now d g xs (goal-row c.args.matrix.now c.args.tree.now.steps.items c.args.tree.now.goals.items c.args.self.now.goal g c.places.result.now (the_atom c.atom-atom.result.now) c.other.result at c.atom-atom.ensures c.places.ensures c.other.ensures) h

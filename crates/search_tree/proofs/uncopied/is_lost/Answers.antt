use Rattle.std.proofs.Common.{◌∷◌, refl}
use Rattle.search_theory.specs.Uncopied.{goal_like}
use Rattle.term_store.specs.ClauseView.{the_pattern_atom}
use Rattle.term_store.specs.RefView.{the_places}
use Rattle.search_tree.proofs.Places.{read-there}
use Rattle.search_tree.proofs.LookingOver.{depth-is, lost-at_limit, lost-without_hope, marks-below}
use Rattle.search_tree.proofs.uncopied.is_lost.Goals as goal

pub returns-then-room-lt2 : goal.returns-then-room-lt2
returns-then-room-lt2 c = λ t x g.
    let depth = depth-is c.args.tree.now.steps.items c.args.tree.now.goals.items c.args.goal x c.index.result.now g (read-there c.args.tree.now.goals.items c.args.goal c.index.result.now g.goal g.stands c.index.ensures) in
    lost-at_limit c.args.matrix.now c.args.limit c.index.result.now.depth c.saturating_sub-room.result c.args.store.now.store (the_places c.args.variables) (the_pattern_atom c.args.literal.now) x (c.may_reduce.ensures c.if-may_reduce.false x g) c.saturating_sub-room.ensures depth c.if-room-lt2.true

pub returns : goal.returns
returns c = λ t x g.
    let depth = depth-is c.args.tree.now.steps.items c.args.tree.now.goals.items c.args.goal x c.index.result.now g (read-there c.args.tree.now.goals.items c.args.goal c.index.result.now g.goal g.stands c.index.ensures) in
    let marked = marks-below c.marks_of-above.result c.with_mark-marks.result (the_pattern_atom c.args.literal.now) x (c.marks_of-above.ensures x g) c.with_mark-marks.ensures.own c.with_mark-marks.ensures.others in
    lost-without_hope c.args.matrix.now c.args.limit c.index.result.now.depth c.saturating_sub-room.result c.args.store.now.store (the_places c.args.variables) (the_pattern_atom c.args.literal.now) x (c.may_reduce.ensures c.if-may_reduce.false x g) c.saturating_sub-room.ensures depth c.if-room-gt2.false (c.has_no_hope_by.ensures t (goal_like (the_pattern_atom c.args.literal.now) (x.literal ∷ x.path)) refl refl marked)

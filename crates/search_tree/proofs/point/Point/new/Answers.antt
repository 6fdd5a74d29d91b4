use Rattle.std.proofs.Common.{◌≡◌, ◌∙◌, ap₂, arith, if◌then◌else◌, length, nat_lt, refl}
use Rattle.term_store.specs.ClauseView.{the_atom}
use Rattle.search_tree.proofs.MoveLaws.{goal-here}
use Rattle.search_tree.proofs.Places.{read-there}
use Rattle.search_tree.proofs.PointLaws.{depth-of, extensions-first, places-count, point-first}
use Rattle.search_tree.proofs.TreeLaws.{atom-found}
use Rattle.search_tree.proofs.point.Point.new.Goals as goal

pub returns-clause-extensions : goal.returns-clause-extensions
returns-clause-extensions c = λ d g at e l. (extensions-first c.args.matrix.now d _ g c.index-at.result.now.depth refl (c.room-end.ensures.end ∙ ap₂ (λ a b. if nat_lt c.index-at.result.now.depth a then b else 0) e (places-count c.args.matrix.now c.places-places.result.now (the_atom c.atom-atom.result.now).symbol c.other.result (the_atom c.atom-atom.result.now) g.literal c.places-places.ensures refl c.other.ensures (atom-found c.args.tree.now.steps.items c.args.tree.now.goals.items c.args.goal g (the_atom c.atom-atom.result.now) at c.atom-atom.ensures))) (depth-of c.args.tree.now.steps.items c.args.tree.now.goals.items c.args.goal g c.index-at.result.now at (read-there c.args.tree.now.goals.items c.args.goal c.index-at.result.now at.goal at.stands c.index-at.ensures)) l)

pub returns-clause-point : goal.returns-clause-point
returns-clause-point c = λ P base d p g h e l.
    let at = goal-here P c.args.matrix.now base d p c.args.store.now.store c.args.tree.now.steps.items c.args.tree.now.goals.items c.args.goal g h in
    let o = c.args.tree.now.steps.ok.0 in
    let q = c.args.tree.now.goals.ok.0 in
    let a = c.len-steps.ensures in
    let b = c.len-goals.ensures in
    let es : c.len-steps.result ≡ length c.args.tree.now.steps.items = omega (arith, o, a) in
    let eg : c.len-goals.result ≡ length c.args.tree.now.goals.items = omega (arith, q, b) in
    point-first P c.args.matrix.now base d p c.args.store.now.store c.args.tree.now.steps.items c.args.tree.now.goals.items c.args.goal g c.index-at.result.now _ c.mark-mark.ensures.good c.mark-mark.ensures.whole es eg refl refl refl refl h (read-there c.args.tree.now.goals.items c.args.goal c.index-at.result.now at.goal at.stands c.index-at.ensures) (extensions-first c.args.matrix.now d _ g c.index-at.result.now.depth refl (c.room-end.ensures.end ∙ ap₂ (λ a b. if nat_lt c.index-at.result.now.depth a then b else 0) e (places-count c.args.matrix.now c.places-places.result.now (the_atom c.atom-atom.result.now).symbol c.other.result (the_atom c.atom-atom.result.now) g.literal c.places-places.ensures refl c.other.ensures (atom-found c.args.tree.now.steps.items c.args.tree.now.goals.items c.args.goal g (the_atom c.atom-atom.result.now) at c.atom-atom.ensures))) (depth-of c.args.tree.now.steps.items c.args.tree.now.goals.items c.args.goal g c.index-at.result.now at (read-there c.args.tree.now.goals.items c.args.goal c.index-at.result.now at.goal at.stands c.index-at.ensures)) l)

pub returns-clause-here : goal.returns-clause-here
returns-clause-here c =
    let o = c.args.tree.now.steps.ok.0 in
    let q = c.args.tree.now.goals.ok.0 in
    let a = c.len-steps.ensures in
    let b = c.len-goals.ensures in
    record { good = c.mark-mark.ensures.good; whole = c.mark-mark.ensures.whole; steps_are = omega (arith, o, a); goals_are = omega (arith, q, b); first_is = refl }

pub returns-clause-light : goal.returns-clause-light
returns-clause-light c = let l = c.room-end.ensures.light in omega (arith, l)

use Rattle.std.proofs.Common.{arith, ◌≡◌, [], inl, inr, length, map, subst, sym}
use Rattle.store_theory.specs.Bindings.{nothing_more, with_variables_of}
use Rattle.search_theory.specs.DeadEnds.{refused}
use Rattle.term_store.specs.ClauseView.{the_atom, the_pattern_atom}
use Rattle.term_store.specs.RefView.{the_place, the_places}
use Rattle.term_store.specs.TemplateView.{the_template}
use Rattle.term_store.proofs.FitLaws.{have-new}
use Rattle.term_store.proofs.ListLaws.{literal-there}
use Rattle.term_unify.specs.Closed.{IsClosedBelow}
use Rattle.term_unify.specs.Matching.{HoldsNowhere, MatchTo}
use Rattle.search_tree.specs.MetAtom.{HeadMatched}
use Rattle.search_tree.proofs.CopiedBelow.{closed-copied}
use Rattle.search_tree.proofs.KeptLaws.{variables-valued}
use Rattle.search_tree.proofs.MoveLaws.{clause-for, extension-cannot, goal-here, goal-matched, goal-sorted, goal-terms, head-fits, head-kept, head-met, literal-within, place-clause, place_of, same-template, variables-matched}
use Rattle.search_tree.proofs.UncopiedLaws.{set-aside}
use Rattle.search_tree.proofs.state.meet.Goals as goal

pub match_all-requires-clause-sorted : goal.match_all-requires-clause-sorted
match_all-requires-clause-sorted c = head-kept c.args.store.now.store c.new_variables.new.self.store (the_template c.template-template.result.now) (map the_place c.items-terms.result.now) c.in_ok-variables.ensures.ok (goal-sorted c.requires.0 c.args.matrix.now c.requires.1 c.requires.2 c.requires.3 c.args.store.now.store c.args.tree.now.steps.items c.args.tree.now.goals.items c.args.goal c.requires.4 (map the_place c.items-terms.result.now) c.requires.6 (goal-terms c.requires.0 c.args.matrix.now c.requires.1 c.requires.2 c.requires.3 c.args.store.now.store c.args.tree.now.steps.items c.args.tree.now.goals.items c.args.goal c.requires.4 (the_atom c.atom-signed.result.now) (map the_place c.items-terms.result.now) c.requires.6 c.atom-signed.ensures c.items-terms.ensures))

pub match_all-requires-clause-fits : goal.match_all-requires-clause-fits
match_all-requires-clause-fits c = head-fits c.args.store.now.store c.new_variables.new.self.store (the_template c.template-template.result.now) c.args.place.literal (the_places c.in_ok-variables.variables) (the_pattern_atom c.index-items-at.result) (clause-for c.requires.0 c.args.matrix.now c.args.place.clause.0 (the_template c.template-template.result.now) c.requires.5 (place-clause c.args.matrix.now c.requires.2 c.requires.4 (place_of c.args.place.clause.0 c.args.place.literal) c.requires.7) c.template-template.ensures).template.fits c.in_ok-variables.ensures.ok (literal-there the_pattern_atom c.items.result.now c.template-template.result.now.literals c.args.place.literal c.index-items-at.result c.items.ensures (literal-within c.args.matrix.now c.requires.2 c.requires.4 (place_of c.args.place.clause.0 c.args.place.literal) (the_template c.template-template.result.now) c.requires.7 c.template-template.ensures) c.index-items-at.is) c.in_ok-variables.ensures.places

pub match_all-requires-clause-values : goal.match_all-requires-clause-values
match_all-requires-clause-values c = variables-valued c.new_variables.new.self.store c.template-template.result.now.sorts (the_places c.in_ok-variables.variables) (have-new (the_places c.in_ok-variables.variables) c.template-template.result.now.sorts c.args.store.now.store c.new_variables.new.self.store c.in_ok-variables.ensures.ok c.in_ok-variables.ensures.places) (clause-for c.requires.0 c.args.matrix.now c.args.place.clause.0 (the_template c.template-template.result.now) c.requires.5 (place-clause c.args.matrix.now c.requires.2 c.requires.4 (place_of c.args.place.clause.0 c.args.place.literal) c.requires.7) c.template-template.ensures).own.sorts

pub match_all-requires-clause-closed : goal.match_all-requires-clause-closed
match_all-requires-clause-closed c =
    let n = c.size.ensures.size in
    let k = c.spare.ensures in
    subst (IsClosedBelow _) (sym c.in_ok-variables.ensures.ok) (closed-copied c.template-template.result.now.sorts c.args.store.now.store (with_variables_of c.template-template.result.now.sorts c.args.store.now.store) _ (omega (arith, n, k)) c.mark-before.ensures.well nothing_more)

pub is_set_aside-requires-clause-goal : goal.is_set_aside-requires-clause-goal
is_set_aside-requires-clause-goal c =
    let head = (head-met c.args.matrix.now c.requires.2 c.requires.4 c.args.place.clause.0 c.args.place.literal c.args.store.now.store c.new_variables.new.self.store c.match_all.new.store.store (the_template c.template-template.result.now) (the_places c.in_ok-variables.variables) (map the_place c.items-terms.result.now) (the_pattern_atom c.index-items-at.result) c.template-template.ensures c.requires.7 c.in_ok-variables.ensures.ok (literal-there the_pattern_atom c.items.result.now c.template-template.result.now.literals c.args.place.literal c.index-items-at.result c.items.ensures (literal-within c.args.matrix.now c.requires.2 c.requires.4 (place_of c.args.place.clause.0 c.args.place.literal) (the_template c.template-template.result.now) c.requires.7 c.template-template.ensures) c.index-items-at.is) c.in_ok-variables.ensures.places (c.in_ok-match_all.ensures.met c.if-not-branch.false) c.match_all.ensures.cells c.match_all.ensures.names (c.in_ok-match_all.ensures.within c.if-not-branch.false)) in
    (c.requires.4, goal-here c.requires.0 c.args.matrix.now c.requires.1 c.requires.2 c.requires.3 c.args.store.now.store c.args.tree.now.steps.items c.args.tree.now.goals.items c.args.goal c.requires.4 c.requires.6, goal-matched c.requires.0 c.args.matrix.now c.requires.1 c.requires.2 c.requires.3 c.args.store.now.store c.match_all.new.store.store c.args.tree.now.steps.items c.args.tree.now.goals.items c.args.goal c.args.place.literal c.requires.4 (the_template c.template-template.result.now) (the_places c.in_ok-variables.variables) (map the_place c.items-terms.result.now) c.requires.7.literal c.requires.6 head)

pub is_set_aside-requires-clause-template : goal.is_set_aside-requires-clause-template
is_set_aside-requires-clause-template c = (clause-for c.requires.0 c.args.matrix.now c.args.place.clause.0 (the_template c.template-template.result.now) c.requires.5 (place-clause c.args.matrix.now c.requires.2 c.requires.4 (place_of c.args.place.clause.0 c.args.place.literal) c.requires.7) c.template-template.ensures).template.fits

pub is_set_aside-requires-clause-variables : goal.is_set_aside-requires-clause-variables
is_set_aside-requires-clause-variables c = variables-matched c.args.store.now.store c.match_all.new.store.store (the_template c.template-template.result.now) c.args.place.literal (the_places c.in_ok-variables.variables) (map the_place c.items-terms.result.now) c.requires.7.literal (head-met c.args.matrix.now c.requires.2 c.requires.4 c.args.place.clause.0 c.args.place.literal c.args.store.now.store c.new_variables.new.self.store c.match_all.new.store.store (the_template c.template-template.result.now) (the_places c.in_ok-variables.variables) (map the_place c.items-terms.result.now) (the_pattern_atom c.index-items-at.result) c.template-template.ensures c.requires.7 c.in_ok-variables.ensures.ok (literal-there the_pattern_atom c.items.result.now c.template-template.result.now.literals c.args.place.literal c.index-items-at.result c.items.ensures (literal-within c.args.matrix.now c.requires.2 c.requires.4 (place_of c.args.place.clause.0 c.args.place.literal) (the_template c.template-template.result.now) c.requires.7 c.template-template.ensures) c.index-items-at.is) c.in_ok-variables.ensures.places (c.in_ok-match_all.ensures.met c.if-not-branch.false) c.match_all.ensures.cells c.match_all.ensures.names (c.in_ok-match_all.ensures.within c.if-not-branch.false))

pub is_set_aside-requires-clause-values : goal.is_set_aside-requires-clause-values
is_set_aside-requires-clause-values c = variables-valued c.match_all.new.store.store c.template-template.result.now.sorts (the_places c.in_ok-variables.variables) (variables-matched c.args.store.now.store c.match_all.new.store.store (the_template c.template-template.result.now) c.args.place.literal (the_places c.in_ok-variables.variables) (map the_place c.items-terms.result.now) c.requires.7.literal (head-met c.args.matrix.now c.requires.2 c.requires.4 c.args.place.clause.0 c.args.place.literal c.args.store.now.store c.new_variables.new.self.store c.match_all.new.store.store (the_template c.template-template.result.now) (the_places c.in_ok-variables.variables) (map the_place c.items-terms.result.now) (the_pattern_atom c.index-items-at.result) c.template-template.ensures c.requires.7 c.in_ok-variables.ensures.ok (literal-there the_pattern_atom c.items.result.now c.template-template.result.now.literals c.args.place.literal c.index-items-at.result c.items.ensures (literal-within c.args.matrix.now c.requires.2 c.requires.4 (place_of c.args.place.clause.0 c.args.place.literal) (the_template c.template-template.result.now) c.requires.7 c.template-template.ensures) c.index-items-at.is) c.in_ok-variables.ensures.places (c.in_ok-match_all.ensures.met c.if-not-branch.false) c.match_all.ensures.cells c.match_all.ensures.names (c.in_ok-match_all.ensures.within c.if-not-branch.false))) (clause-for c.requires.0 c.args.matrix.now c.args.place.clause.0 (the_template c.template-template.result.now) c.requires.5 (place-clause c.args.matrix.now c.requires.2 c.requires.4 (place_of c.args.place.clause.0 c.args.place.literal) c.requires.7) c.template-template.ensures).own.sorts

pub returns-then-not-branch-clause-refused : goal.returns-then-not-branch-clause-refused
returns-then-not-branch-clause-refused c = λ f P base d p g cm h e looks. inl (refused (extension-cannot P c.args.matrix.now base d p c.args.store.now.store c.args.tree.now.steps.items c.args.tree.now.goals.items c.args.goal c.args.place.clause.0 c.args.place.literal g (the_template c.template-template.result.now) (the_pattern_atom c.index-items-at.result) (the_places c.in_ok-variables.variables) (map the_place c.items-terms.result.now) h (clause-for P c.args.matrix.now c.args.place.clause.0 (the_template c.template-template.result.now) cm (place-clause c.args.matrix.now d g (place_of c.args.place.clause.0 c.args.place.literal) e) c.template-template.ensures) (literal-there the_pattern_atom c.items.result.now c.template-template.result.now.literals c.args.place.literal c.index-items-at.result c.items.ensures (literal-within c.args.matrix.now d g (place_of c.args.place.clause.0 c.args.place.literal) (the_template c.template-template.result.now) e c.template-template.ensures) c.index-items-at.is) c.in_ok-variables.ensures.places (goal-terms P c.args.matrix.now base d p c.args.store.now.store c.args.tree.now.steps.items c.args.tree.now.goals.items c.args.goal g (the_atom c.atom-signed.result.now) (map the_place c.items-terms.result.now) h c.atom-signed.ensures c.items-terms.ensures) (subst (HoldsNowhere (λ σ. (length (map the_place c.items-terms.result.now) ≡ length c.index-items-at.result.args) × MatchTo (the_places c.in_ok-variables.variables) (map the_place c.items-terms.result.now) c.index-items-at.result.args (length c.index-items-at.result.args) σ)) c.in_ok-variables.ensures.ok (c.in_ok-match_all.ensures.apart c.if-not-branch.true))))

pub returns-then-not-branch-clause-given_up : goal.returns-then-not-branch-clause-given_up
returns-then-not-branch-clause-given_up c = λ f P base d p g cm h e looks. inl (extension-cannot P c.args.matrix.now base d p c.args.store.now.store c.args.tree.now.steps.items c.args.tree.now.goals.items c.args.goal c.args.place.clause.0 c.args.place.literal g (the_template c.template-template.result.now) (the_pattern_atom c.index-items-at.result) (the_places c.in_ok-variables.variables) (map the_place c.items-terms.result.now) h (clause-for P c.args.matrix.now c.args.place.clause.0 (the_template c.template-template.result.now) cm (place-clause c.args.matrix.now d g (place_of c.args.place.clause.0 c.args.place.literal) e) c.template-template.ensures) (literal-there the_pattern_atom c.items.result.now c.template-template.result.now.literals c.args.place.literal c.index-items-at.result c.items.ensures (literal-within c.args.matrix.now d g (place_of c.args.place.clause.0 c.args.place.literal) (the_template c.template-template.result.now) e c.template-template.ensures) c.index-items-at.is) c.in_ok-variables.ensures.places (goal-terms P c.args.matrix.now base d p c.args.store.now.store c.args.tree.now.steps.items c.args.tree.now.goals.items c.args.goal g (the_atom c.atom-signed.result.now) (map the_place c.items-terms.result.now) h c.atom-signed.ensures c.items-terms.ensures) (subst (HoldsNowhere (λ σ. (length (map the_place c.items-terms.result.now) ≡ length c.index-items-at.result.args) × MatchTo (the_places c.in_ok-variables.variables) (map the_place c.items-terms.result.now) c.index-items-at.result.args (length c.index-items-at.result.args) σ)) c.in_ok-variables.ensures.ok (c.in_ok-match_all.ensures.apart c.if-not-branch.true)))

pub returns-then-branch-clause-refused : goal.returns-then-branch-clause-refused
returns-then-branch-clause-refused c = λ f P base d p g cm h e looks. (set-aside P c.args.matrix.now base d p c.args.store.now.store c.match_all.new.store.store c.args.tree.now.steps.items c.args.tree.now.goals.items c.args.goal c.args.place.clause.0 c.args.place.literal g (the_template c.template-template.result.now) (the_places c.in_ok-variables.variables) (map the_place c.items-terms.result.now) c.args.ahead cm h e (clause-for P c.args.matrix.now c.args.place.clause.0 (the_template c.template-template.result.now) cm (place-clause c.args.matrix.now d g (place_of c.args.place.clause.0 c.args.place.literal) e) c.template-template.ensures) (head-met c.args.matrix.now d g c.args.place.clause.0 c.args.place.literal c.args.store.now.store c.new_variables.new.self.store c.match_all.new.store.store (the_template c.template-template.result.now) (the_places c.in_ok-variables.variables) (map the_place c.items-terms.result.now) (the_pattern_atom c.index-items-at.result) c.template-template.ensures e c.in_ok-variables.ensures.ok (literal-there the_pattern_atom c.items.result.now c.template-template.result.now.literals c.args.place.literal c.index-items-at.result c.items.ensures (literal-within c.args.matrix.now d g (place_of c.args.place.clause.0 c.args.place.literal) (the_template c.template-template.result.now) e c.template-template.ensures) c.index-items-at.is) c.in_ok-variables.ensures.places (c.in_ok-match_all.ensures.met c.if-not-branch.false) c.match_all.ensures.cells c.match_all.ensures.names (c.in_ok-match_all.ensures.within c.if-not-branch.false)) (goal-terms P c.args.matrix.now base d p c.args.store.now.store c.args.tree.now.steps.items c.args.tree.now.goals.items c.args.goal g (the_atom c.atom-signed.result.now) (map the_place c.items-terms.result.now) h c.atom-signed.ensures c.items-terms.ensures) looks (c.in_ok-is_set_aside.ensures c.if-branch.true g (goal-here P c.args.matrix.now base d p c.args.store.now.store c.args.tree.now.steps.items c.args.tree.now.goals.items c.args.goal g h))).0

pub returns-then-branch-clause-given_up : goal.returns-then-branch-clause-given_up
returns-then-branch-clause-given_up c = λ f P base d p g cm h e looks. inr (inr (set-aside P c.args.matrix.now base d p c.args.store.now.store c.match_all.new.store.store c.args.tree.now.steps.items c.args.tree.now.goals.items c.args.goal c.args.place.clause.0 c.args.place.literal g (the_template c.template-template.result.now) (the_places c.in_ok-variables.variables) (map the_place c.items-terms.result.now) c.args.ahead cm h e (clause-for P c.args.matrix.now c.args.place.clause.0 (the_template c.template-template.result.now) cm (place-clause c.args.matrix.now d g (place_of c.args.place.clause.0 c.args.place.literal) e) c.template-template.ensures) (head-met c.args.matrix.now d g c.args.place.clause.0 c.args.place.literal c.args.store.now.store c.new_variables.new.self.store c.match_all.new.store.store (the_template c.template-template.result.now) (the_places c.in_ok-variables.variables) (map the_place c.items-terms.result.now) (the_pattern_atom c.index-items-at.result) c.template-template.ensures e c.in_ok-variables.ensures.ok (literal-there the_pattern_atom c.items.result.now c.template-template.result.now.literals c.args.place.literal c.index-items-at.result c.items.ensures (literal-within c.args.matrix.now d g (place_of c.args.place.clause.0 c.args.place.literal) (the_template c.template-template.result.now) e c.template-template.ensures) c.index-items-at.is) c.in_ok-variables.ensures.places (c.in_ok-match_all.ensures.met c.if-not-branch.false) c.match_all.ensures.cells c.match_all.ensures.names (c.in_ok-match_all.ensures.within c.if-not-branch.false)) (goal-terms P c.args.matrix.now base d p c.args.store.now.store c.args.tree.now.steps.items c.args.tree.now.goals.items c.args.goal g (the_atom c.atom-signed.result.now) (map the_place c.items-terms.result.now) h c.atom-signed.ensures c.items-terms.ensures) looks (c.in_ok-is_set_aside.ensures c.if-branch.true g (goal-here P c.args.matrix.now base d p c.args.store.now.store c.args.tree.now.steps.items c.args.tree.now.goals.items c.args.goal g h))).1)

pub returns-else-branch-clause-met : goal.returns-else-branch-clause-met
returns-else-branch-clause-met c = λ v is P base d p g t h e there.
    let chosen : c.in_ok-variables.variables ≡ v = cc is in
    let template = same-template c.args.matrix.now c.args.place.clause.0 (the_template c.template-template.result.now) t c.template-template.ensures there in
    subst (λ z. HeadMatched c.args.store.now.store c.match_all.new.store.store t c.args.place.literal (the_places z) e.literal g.literal.args) chosen
    (subst (λ u. HeadMatched c.args.store.now.store c.match_all.new.store.store u c.args.place.literal (the_places c.in_ok-variables.variables) e.literal g.literal.args) template
    (subst (HeadMatched c.args.store.now.store c.match_all.new.store.store (the_template c.template-template.result.now) c.args.place.literal (the_places c.in_ok-variables.variables) e.literal) (goal-terms P c.args.matrix.now base d p c.args.store.now.store c.args.tree.now.steps.items c.args.tree.now.goals.items c.args.goal g (the_atom c.atom-signed.result.now) (map the_place c.items-terms.result.now) h c.atom-signed.ensures c.items-terms.ensures) (head-met c.args.matrix.now d g c.args.place.clause.0 c.args.place.literal c.args.store.now.store c.new_variables.new.self.store c.match_all.new.store.store (the_template c.template-template.result.now) (the_places c.in_ok-variables.variables) (map the_place c.items-terms.result.now) (the_pattern_atom c.index-items-at.result) c.template-template.ensures e c.in_ok-variables.ensures.ok (literal-there the_pattern_atom c.items.result.now c.template-template.result.now.literals c.args.place.literal c.index-items-at.result c.items.ensures (literal-within c.args.matrix.now d g (place_of c.args.place.clause.0 c.args.place.literal) (the_template c.template-template.result.now) e c.template-template.ensures) c.index-items-at.is) c.in_ok-variables.ensures.places (c.in_ok-match_all.ensures.met c.if-not-branch.false) c.match_all.ensures.cells c.match_all.ensures.names (c.in_ok-match_all.ensures.within c.if-not-branch.false))))

pub returns-else-items-gt1-clause-met : goal.returns-else-items-gt1-clause-met
returns-else-items-gt1-clause-met c = λ v is P base d p g t h e there.
    let chosen : c.in_ok-variables.variables ≡ v = cc is in
    let template = same-template c.args.matrix.now c.args.place.clause.0 (the_template c.template-template.result.now) t c.template-template.ensures there in
    subst (λ z. HeadMatched c.args.store.now.store c.match_all.new.store.store t c.args.place.literal (the_places z) e.literal g.literal.args) chosen
    (subst (λ u. HeadMatched c.args.store.now.store c.match_all.new.store.store u c.args.place.literal (the_places c.in_ok-variables.variables) e.literal g.literal.args) template
    (subst (HeadMatched c.args.store.now.store c.match_all.new.store.store (the_template c.template-template.result.now) c.args.place.literal (the_places c.in_ok-variables.variables) e.literal) (goal-terms P c.args.matrix.now base d p c.args.store.now.store c.args.tree.now.steps.items c.args.tree.now.goals.items c.args.goal g (the_atom c.atom-signed.result.now) (map the_place c.items-terms.result.now) h c.atom-signed.ensures c.items-terms.ensures) (head-met c.args.matrix.now d g c.args.place.clause.0 c.args.place.literal c.args.store.now.store c.new_variables.new.self.store c.match_all.new.store.store (the_template c.template-template.result.now) (the_places c.in_ok-variables.variables) (map the_place c.items-terms.result.now) (the_pattern_atom c.index-items-at.result) c.template-template.ensures e c.in_ok-variables.ensures.ok (literal-there the_pattern_atom c.items.result.now c.template-template.result.now.literals c.args.place.literal c.index-items-at.result c.items.ensures (literal-within c.args.matrix.now d g (place_of c.args.place.clause.0 c.args.place.literal) (the_template c.template-template.result.now) e c.template-template.ensures) c.index-items-at.is) c.in_ok-variables.ensures.places (c.in_ok-match_all.ensures.met c.if-not-branch.false) c.match_all.ensures.cells c.match_all.ensures.names (c.in_ok-match_all.ensures.within c.if-not-branch.false))))

use Rattle.std.proofs.Common.{arith, ◌≡◌, ◌∙◌, ◌++◌, ◌∷◌, [], ap, inl, length, map, slice_get, subst, sym}
use Rattle.std.proofs.lemmas.List.{length-map}
use Rattle.plain_laws.proofs.Options.{same-some}
use Rattle.store_theory.specs.Bindings.{KeepsMarks}
use Rattle.store_theory.proofs.BindingLaws.{KeepsMarks-both}
use Rattle.store_theory.proofs.PatternLaws.{Grows-built, KeepsMarks-built}
use Rattle.search_theory.specs.OrderedChoices.{extension_at}
use Rattle.term_store.specs.ClauseView.{the_atom, the_pattern_atom}
use Rattle.term_store.specs.RefView.{the_place, the_places}
use Rattle.term_store.specs.Room.{TermStore}
use Rattle.term_store.specs.TemplateView.{the_clause, the_template}
use Rattle.term_store.proofs.FitLaws.{have-grown}
use Rattle.term_store.proofs.ListLaws.{literal-there}
use Rattle.search_tree.specs.GivenUp.{HasLost}
use Rattle.search_tree.specs.MetAtom.{HeadMatched, met_atom}
use Rattle.search_tree.specs.Running.{StandsDeep, StandsFor}
use Rattle.search_tree.specs.declared.tree.Tree.{Tree}
use Rattle.search_tree.proofs.GivenUpLaws.{given-up}
use Rattle.search_tree.proofs.MoveLaws.{at-extended, clause-for, extended-deep, goal-terms, goal-within, literal-found, literal-within, place-clause, place_of, rest-copied, variables-matched}
use Rattle.search_tree.proofs.RunningLaws.{RestCopied, others-room}
use Rattle.search_tree.proofs.state.SearchState.extend.Goals as goal

pub returns-in-None-clause-refused : goal.returns-in-None-clause-refused
returns-in-None-clause-refused c = λ f. c.in_ok-found.ensures.refused c.in-None.is

pub returns-in-None-clause-given_up : goal.returns-in-None-clause-given_up
returns-in-None-clause-given_up c = λ f. c.in_ok-found.ensures.given_up c.in-None.is

pub template-template-requires : goal.template-template-requires
template-template-requires c = place-clause c.args.matrix.now c.requires.2 c.requires.4 (place_of c.args.place.clause.0 c.args.place.literal) c.requires.7

pub bounds-items-at : goal.bounds-items-at
bounds-items-at c =
    let n = literal-within c.args.matrix.now c.requires.2 c.requires.4 (place_of c.args.place.clause.0 c.args.place.literal) (the_template c.template-template.result.now) c.requires.7 c.template-template.ensures in
    let e = ap length c.items.ensures in
    let k = length-map c.items.result.now the_pattern_atom in
    omega (arith, n, e, k)

pub copy_label-requires-clause-template : goal.copy_label-requires-clause-template
copy_label-requires-clause-template c = (clause-for c.requires.0 c.args.matrix.now c.args.place.clause.0 (the_template c.template-template.result.now) c.requires.5 (place-clause c.args.matrix.now c.requires.2 c.requires.4 (place_of c.args.place.clause.0 c.args.place.literal) c.requires.7) c.template-template.ensures).template.fits

pub copy_label-requires-clause-place : goal.copy_label-requires-clause-place
copy_label-requires-clause-place c = (literal-within c.args.matrix.now c.requires.2 c.requires.4 (place_of c.args.place.clause.0 c.args.place.literal) (the_template c.template-template.result.now) c.requires.7 c.template-template.ensures)

pub copy_rest-requires-clause-template : goal.copy_rest-requires-clause-template
copy_rest-requires-clause-template c = (clause-for c.requires.0 c.args.matrix.now c.args.place.clause.0 (the_template c.template-template.result.now) c.requires.5 (place-clause c.args.matrix.now c.requires.2 c.requires.4 (place_of c.args.place.clause.0 c.args.place.literal) c.requires.7) c.template-template.ensures).template.fits

pub copy_rest-requires-clause-place : goal.copy_rest-requires-clause-place
copy_rest-requires-clause-place c = (literal-within c.args.matrix.now c.requires.2 c.requires.4 (place_of c.args.place.clause.0 c.args.place.literal) (the_template c.template-template.result.now) c.requires.7 c.template-template.ensures)

pub copy_label-requires-clause-variables : goal.copy_label-requires-clause-variables
copy_label-requires-clause-variables c = variables-matched c.args.store.now.store c.meet.new.store.store (the_template c.template-template.result.now) c.args.place.literal (the_places c.in-Some.variables) c.requires.4.literal.args c.requires.7.literal (c.in_ok-found.ensures.met c.in-Some.variables c.in-Some.is c.requires.0 c.requires.1 c.requires.2 c.requires.3 c.requires.4 (the_template c.template-template.result.now) c.requires.6 c.requires.7 c.template-template.ensures)

pub copy_rest-requires-clause-variables : goal.copy_rest-requires-clause-variables
copy_rest-requires-clause-variables c = have-grown c.meet.new.store.store c.copy_label.new.self.store c.template-template.result.now.sorts (the_places c.in-Some.variables) (Grows-built c.meet.new.store.store c.copy_label.new.self.store c.in_ok-label.ensures.adds.built) (variables-matched c.args.store.now.store c.meet.new.store.store (the_template c.template-template.result.now) c.args.place.literal (the_places c.in-Some.variables) c.requires.4.literal.args c.requires.7.literal (c.in_ok-found.ensures.met c.in-Some.variables c.in-Some.is c.requires.0 c.requires.1 c.requires.2 c.requires.3 c.requires.4 (the_template c.template-template.result.now) c.requires.6 c.requires.7 c.template-template.ensures))

pub extend-requires-clause-goal : goal.extend-requires-clause-goal
extend-requires-clause-goal c = goal-within c.requires.0 c.args.matrix.now c.requires.1 c.requires.2 c.requires.3 c.args.store.now.store c.args.self.now.tree.steps.items c.args.self.now.tree.goals.items c.args.goal c.requires.4 c.requires.6

pub extend-requires-clause-place : goal.extend-requires-clause-place
extend-requires-clause-place c = others-room c.copy_rest.new.self.store (the_places c.in-Some.variables) c.template-template.result.now.literals c.in_ok-copy.copy.literals c.args.place.literal c.in_ok-copy.ensures.copy.literals (literal-within c.args.matrix.now c.requires.2 c.requires.4 (place_of c.args.place.clause.0 c.args.place.literal) (the_template c.template-template.result.now) c.requires.7 c.template-template.ensures)

pub is_regular_from-requires : goal.is_regular_from-requires
is_regular_from-requires c = (c.requires.0, c.args.matrix.now, c.requires.1, c.requires.2, c.requires.3 ++ extension_at c.args.matrix.now (place_of c.args.place.clause.0 c.args.place.literal) ∷ [], (at-extended c.requires.0 c.args.matrix.now c.requires.1 c.requires.2 c.requires.3 c.args.store.now.store c.meet.new.store.store c.met_atom.new.store.store c.args.self.now.tree.steps.items c.extend.new.self.steps.items c.args.self.now.tree.goals.items c.extend.new.self.goals.items c.args.goal c.args.place.literal c.extend.new.self.open c.requires.4 (the_template c.template-template.result.now) (record { clause = c.args.place.clause; copy = c.in_ok-copy.copy }) c.in_ok-atom.atom (map the_place c.items-terms.result.now) c.in_ok-label.label c.requires.6 c.requires.7 (clause-for c.requires.0 c.args.matrix.now c.args.place.clause.0 (the_template c.template-template.result.now) c.requires.5 (place-clause c.args.matrix.now c.requires.2 c.requires.4 (place_of c.args.place.clause.0 c.args.place.literal) c.requires.7) c.template-template.ensures) (subst (λ v. HeadMatched c.args.store.now.store c.meet.new.store.store (the_template c.template-template.result.now) c.args.place.literal (the_places v) c.requires.7.literal (map the_place c.items-terms.result.now)) (sym c.in_ok-copy.ensures.variables) (subst (HeadMatched c.args.store.now.store c.meet.new.store.store (the_template c.template-template.result.now) c.args.place.literal (the_places c.in-Some.variables) c.requires.7.literal) (sym (goal-terms c.requires.0 c.args.matrix.now c.requires.1 c.requires.2 c.requires.3 c.args.store.now.store c.args.self.now.tree.steps.items c.args.self.now.tree.goals.items c.args.goal c.requires.4 (the_atom c.atom-signed.result.now) (map the_place c.items-terms.result.now) c.requires.6 c.atom-signed.ensures c.items-terms.ensures)) (c.in_ok-found.ensures.met c.in-Some.variables c.in-Some.is c.requires.0 c.requires.1 c.requires.2 c.requires.3 c.requires.4 (the_template c.template-template.result.now) c.requires.6 c.requires.7 c.template-template.ensures))) (goal-terms c.requires.0 c.args.matrix.now c.requires.1 c.requires.2 c.requires.3 c.args.store.now.store c.args.self.now.tree.steps.items c.args.self.now.tree.goals.items c.args.goal c.requires.4 (the_atom c.atom-signed.result.now) (map the_place c.items-terms.result.now) c.requires.6 c.atom-signed.ensures c.items-terms.ensures) (c.in_ok-atom.ensures.atom ∙ ap (λ q. met_atom q (map the_place c.items-terms.result.now) c.in_ok-label.label) (same-some (slice_get c.template-template.result.now.literals c.args.place.literal) (the_pattern_atom c.index-items-at.result) c.requires.7.literal (literal-there the_pattern_atom c.items.result.now c.template-template.result.now.literals c.args.place.literal c.index-items-at.result c.items.ensures (literal-within c.args.matrix.now c.requires.2 c.requires.4 (place_of c.args.place.clause.0 c.args.place.literal) (the_template c.template-template.result.now) c.requires.7 c.template-template.ensures) c.index-items-at.is) (literal-found c.args.matrix.now c.requires.2 c.requires.4 (place_of c.args.place.clause.0 c.args.place.literal) (the_template c.template-template.result.now) c.requires.7 c.template-template.ensures))) (subst (λ v. RestCopied c.meet.new.store.store c.met_atom.new.store.store (the_template c.template-template.result.now) c.args.place.literal (the_places v) c.requires.7.literal c.in_ok-label.label (the_clause c.in_ok-copy.copy)) (sym c.in_ok-copy.ensures.variables) (subst (λ (z : TermStore). RestCopied c.meet.new.store.store z.store (the_template c.template-template.result.now) c.args.place.literal (the_places c.in-Some.variables) c.requires.7.literal c.in_ok-label.label (the_clause c.in_ok-copy.copy)) (sym c.in_ok-atom.ensures.store) (rest-copied c.meet.new.store.store c.copy_label.new.self.store c.copy_rest.new.self.store (the_template c.template-template.result.now) c.args.place.literal (the_places c.in-Some.variables) c.in_ok-label.label c.requires.7.literal (the_clause c.in_ok-copy.copy) (literal-found c.args.matrix.now c.requires.2 c.requires.4 (place_of c.args.place.clause.0 c.args.place.literal) (the_template c.template-template.result.now) c.requires.7 c.template-template.ensures) c.in_ok-label.ensures.copy c.in_ok-label.ensures.sorts c.in_ok-label.ensures.own c.in_ok-label.ensures.adds c.in_ok-label.ensures.within c.in_ok-copy.ensures.copy c.in_ok-copy.ensures.sorts c.in_ok-copy.ensures.own c.in_ok-copy.ensures.adds c.in_ok-copy.ensures.within))) c.mark-after.ensures.well c.in_ok-extend.ensures.tree c.in_ok-extend.ensures.system))

pub returns-clause-made : goal.returns-clause-made
returns-clause-made c = λ t P base d p g cm h e. subst (λ (z : Tree). StandsFor P c.args.matrix.now base d (p ++ extension_at c.args.matrix.now (place_of c.args.place.clause.0 c.args.place.literal) ∷ []) c.met_atom.new.store.store z.steps.items z.goals.items z.open) (sym c.in_ok-regular.ensures.tree) (at-extended P c.args.matrix.now base d p c.args.store.now.store c.meet.new.store.store c.met_atom.new.store.store c.args.self.now.tree.steps.items c.extend.new.self.steps.items c.args.self.now.tree.goals.items c.extend.new.self.goals.items c.args.goal c.args.place.literal c.extend.new.self.open g (the_template c.template-template.result.now) (record { clause = c.args.place.clause; copy = c.in_ok-copy.copy }) c.in_ok-atom.atom (map the_place c.items-terms.result.now) c.in_ok-label.label h e (clause-for P c.args.matrix.now c.args.place.clause.0 (the_template c.template-template.result.now) cm (place-clause c.args.matrix.now d g (place_of c.args.place.clause.0 c.args.place.literal) e) c.template-template.ensures) (subst (λ v. HeadMatched c.args.store.now.store c.meet.new.store.store (the_template c.template-template.result.now) c.args.place.literal (the_places v) e.literal (map the_place c.items-terms.result.now)) (sym c.in_ok-copy.ensures.variables) (subst (HeadMatched c.args.store.now.store c.meet.new.store.store (the_template c.template-template.result.now) c.args.place.literal (the_places c.in-Some.variables) e.literal) (sym (goal-terms P c.args.matrix.now base d p c.args.store.now.store c.args.self.now.tree.steps.items c.args.self.now.tree.goals.items c.args.goal g (the_atom c.atom-signed.result.now) (map the_place c.items-terms.result.now) h c.atom-signed.ensures c.items-terms.ensures)) (c.in_ok-found.ensures.met c.in-Some.variables c.in-Some.is P base d p g (the_template c.template-template.result.now) h e c.template-template.ensures))) (goal-terms P c.args.matrix.now base d p c.args.store.now.store c.args.self.now.tree.steps.items c.args.self.now.tree.goals.items c.args.goal g (the_atom c.atom-signed.result.now) (map the_place c.items-terms.result.now) h c.atom-signed.ensures c.items-terms.ensures) (c.in_ok-atom.ensures.atom ∙ ap (λ q. met_atom q (map the_place c.items-terms.result.now) c.in_ok-label.label) (same-some (slice_get c.template-template.result.now.literals c.args.place.literal) (the_pattern_atom c.index-items-at.result) e.literal (literal-there the_pattern_atom c.items.result.now c.template-template.result.now.literals c.args.place.literal c.index-items-at.result c.items.ensures (literal-within c.args.matrix.now d g (place_of c.args.place.clause.0 c.args.place.literal) (the_template c.template-template.result.now) e c.template-template.ensures) c.index-items-at.is) (literal-found c.args.matrix.now d g (place_of c.args.place.clause.0 c.args.place.literal) (the_template c.template-template.result.now) e c.template-template.ensures))) (subst (λ v. RestCopied c.meet.new.store.store c.met_atom.new.store.store (the_template c.template-template.result.now) c.args.place.literal (the_places v) e.literal c.in_ok-label.label (the_clause c.in_ok-copy.copy)) (sym c.in_ok-copy.ensures.variables) (subst (λ (z : TermStore). RestCopied c.meet.new.store.store z.store (the_template c.template-template.result.now) c.args.place.literal (the_places c.in-Some.variables) e.literal c.in_ok-label.label (the_clause c.in_ok-copy.copy)) (sym c.in_ok-atom.ensures.store) (rest-copied c.meet.new.store.store c.copy_label.new.self.store c.copy_rest.new.self.store (the_template c.template-template.result.now) c.args.place.literal (the_places c.in-Some.variables) c.in_ok-label.label e.literal (the_clause c.in_ok-copy.copy) (literal-found c.args.matrix.now d g (place_of c.args.place.clause.0 c.args.place.literal) (the_template c.template-template.result.now) e c.template-template.ensures) c.in_ok-label.ensures.copy c.in_ok-label.ensures.sorts c.in_ok-label.ensures.own c.in_ok-label.ensures.adds c.in_ok-label.ensures.within c.in_ok-copy.ensures.copy c.in_ok-copy.ensures.sorts c.in_ok-copy.ensures.own c.in_ok-copy.ensures.adds c.in_ok-copy.ensures.within))) c.mark-after.ensures.well c.in_ok-extend.ensures.tree c.in_ok-extend.ensures.system)

pub returns-clause-deep : goal.returns-clause-deep
returns-clause-deep c = λ t P base d p g cm h e. subst (λ (z : Tree). StandsDeep P c.args.matrix.now base d (p ++ extension_at c.args.matrix.now (place_of c.args.place.clause.0 c.args.place.literal) ∷ []) c.met_atom.new.store.store z.steps.items z.goals.items z.open (length g.path)) (sym c.in_ok-regular.ensures.tree) (extended-deep P c.args.matrix.now base d p c.args.store.now.store c.meet.new.store.store c.met_atom.new.store.store c.args.self.now.tree.steps.items c.extend.new.self.steps.items c.args.self.now.tree.goals.items c.extend.new.self.goals.items c.args.goal c.args.place.literal c.extend.new.self.open g (the_template c.template-template.result.now) (record { clause = c.args.place.clause; copy = c.in_ok-copy.copy }) c.in_ok-atom.atom (map the_place c.items-terms.result.now) c.in_ok-label.label h e (clause-for P c.args.matrix.now c.args.place.clause.0 (the_template c.template-template.result.now) cm (place-clause c.args.matrix.now d g (place_of c.args.place.clause.0 c.args.place.literal) e) c.template-template.ensures) (subst (λ v. HeadMatched c.args.store.now.store c.meet.new.store.store (the_template c.template-template.result.now) c.args.place.literal (the_places v) e.literal (map the_place c.items-terms.result.now)) (sym c.in_ok-copy.ensures.variables) (subst (HeadMatched c.args.store.now.store c.meet.new.store.store (the_template c.template-template.result.now) c.args.place.literal (the_places c.in-Some.variables) e.literal) (sym (goal-terms P c.args.matrix.now base d p c.args.store.now.store c.args.self.now.tree.steps.items c.args.self.now.tree.goals.items c.args.goal g (the_atom c.atom-signed.result.now) (map the_place c.items-terms.result.now) h c.atom-signed.ensures c.items-terms.ensures)) (c.in_ok-found.ensures.met c.in-Some.variables c.in-Some.is P base d p g (the_template c.template-template.result.now) h e c.template-template.ensures))) (goal-terms P c.args.matrix.now base d p c.args.store.now.store c.args.self.now.tree.steps.items c.args.self.now.tree.goals.items c.args.goal g (the_atom c.atom-signed.result.now) (map the_place c.items-terms.result.now) h c.atom-signed.ensures c.items-terms.ensures) (c.in_ok-atom.ensures.atom ∙ ap (λ q. met_atom q (map the_place c.items-terms.result.now) c.in_ok-label.label) (same-some (slice_get c.template-template.result.now.literals c.args.place.literal) (the_pattern_atom c.index-items-at.result) e.literal (literal-there the_pattern_atom c.items.result.now c.template-template.result.now.literals c.args.place.literal c.index-items-at.result c.items.ensures (literal-within c.args.matrix.now d g (place_of c.args.place.clause.0 c.args.place.literal) (the_template c.template-template.result.now) e c.template-template.ensures) c.index-items-at.is) (literal-found c.args.matrix.now d g (place_of c.args.place.clause.0 c.args.place.literal) (the_template c.template-template.result.now) e c.template-template.ensures))) (subst (λ v. RestCopied c.meet.new.store.store c.met_atom.new.store.store (the_template c.template-template.result.now) c.args.place.literal (the_places v) e.literal c.in_ok-label.label (the_clause c.in_ok-copy.copy)) (sym c.in_ok-copy.ensures.variables) (subst (λ (z : TermStore). RestCopied c.meet.new.store.store z.store (the_template c.template-template.result.now) c.args.place.literal (the_places c.in-Some.variables) e.literal c.in_ok-label.label (the_clause c.in_ok-copy.copy)) (sym c.in_ok-atom.ensures.store) (rest-copied c.meet.new.store.store c.copy_label.new.self.store c.copy_rest.new.self.store (the_template c.template-template.result.now) c.args.place.literal (the_places c.in-Some.variables) c.in_ok-label.label e.literal (the_clause c.in_ok-copy.copy) (literal-found c.args.matrix.now d g (place_of c.args.place.clause.0 c.args.place.literal) (the_template c.template-template.result.now) e c.template-template.ensures) c.in_ok-label.ensures.copy c.in_ok-label.ensures.sorts c.in_ok-label.ensures.own c.in_ok-label.ensures.adds c.in_ok-label.ensures.within c.in_ok-copy.ensures.copy c.in_ok-copy.ensures.sorts c.in_ok-copy.ensures.own c.in_ok-copy.ensures.adds c.in_ok-copy.ensures.within))) c.mark-after.ensures.well c.in_ok-extend.ensures.tree c.in_ok-extend.ensures.system)

pub returns-clause-refused : goal.returns-clause-refused
returns-clause-refused c = λ f P base d p g cm h e looks. inl (c.in_ok-regular.ensures.repeated f P c.args.matrix.now base d (p ++ extension_at c.args.matrix.now (place_of c.args.place.clause.0 c.args.place.literal) ∷ []) (at-extended P c.args.matrix.now base d p c.args.store.now.store c.meet.new.store.store c.met_atom.new.store.store c.args.self.now.tree.steps.items c.extend.new.self.steps.items c.args.self.now.tree.goals.items c.extend.new.self.goals.items c.args.goal c.args.place.literal c.extend.new.self.open g (the_template c.template-template.result.now) (record { clause = c.args.place.clause; copy = c.in_ok-copy.copy }) c.in_ok-atom.atom (map the_place c.items-terms.result.now) c.in_ok-label.label h e (clause-for P c.args.matrix.now c.args.place.clause.0 (the_template c.template-template.result.now) cm (place-clause c.args.matrix.now d g (place_of c.args.place.clause.0 c.args.place.literal) e) c.template-template.ensures) (subst (λ v. HeadMatched c.args.store.now.store c.meet.new.store.store (the_template c.template-template.result.now) c.args.place.literal (the_places v) e.literal (map the_place c.items-terms.result.now)) (sym c.in_ok-copy.ensures.variables) (subst (HeadMatched c.args.store.now.store c.meet.new.store.store (the_template c.template-template.result.now) c.args.place.literal (the_places c.in-Some.variables) e.literal) (sym (goal-terms P c.args.matrix.now base d p c.args.store.now.store c.args.self.now.tree.steps.items c.args.self.now.tree.goals.items c.args.goal g (the_atom c.atom-signed.result.now) (map the_place c.items-terms.result.now) h c.atom-signed.ensures c.items-terms.ensures)) (c.in_ok-found.ensures.met c.in-Some.variables c.in-Some.is P base d p g (the_template c.template-template.result.now) h e c.template-template.ensures))) (goal-terms P c.args.matrix.now base d p c.args.store.now.store c.args.self.now.tree.steps.items c.args.self.now.tree.goals.items c.args.goal g (the_atom c.atom-signed.result.now) (map the_place c.items-terms.result.now) h c.atom-signed.ensures c.items-terms.ensures) (c.in_ok-atom.ensures.atom ∙ ap (λ q. met_atom q (map the_place c.items-terms.result.now) c.in_ok-label.label) (same-some (slice_get c.template-template.result.now.literals c.args.place.literal) (the_pattern_atom c.index-items-at.result) e.literal (literal-there the_pattern_atom c.items.result.now c.template-template.result.now.literals c.args.place.literal c.index-items-at.result c.items.ensures (literal-within c.args.matrix.now d g (place_of c.args.place.clause.0 c.args.place.literal) (the_template c.template-template.result.now) e c.template-template.ensures) c.index-items-at.is) (literal-found c.args.matrix.now d g (place_of c.args.place.clause.0 c.args.place.literal) (the_template c.template-template.result.now) e c.template-template.ensures))) (subst (λ v. RestCopied c.meet.new.store.store c.met_atom.new.store.store (the_template c.template-template.result.now) c.args.place.literal (the_places v) e.literal c.in_ok-label.label (the_clause c.in_ok-copy.copy)) (sym c.in_ok-copy.ensures.variables) (subst (λ (z : TermStore). RestCopied c.meet.new.store.store z.store (the_template c.template-template.result.now) c.args.place.literal (the_places c.in-Some.variables) e.literal c.in_ok-label.label (the_clause c.in_ok-copy.copy)) (sym c.in_ok-atom.ensures.store) (rest-copied c.meet.new.store.store c.copy_label.new.self.store c.copy_rest.new.self.store (the_template c.template-template.result.now) c.args.place.literal (the_places c.in-Some.variables) c.in_ok-label.label e.literal (the_clause c.in_ok-copy.copy) (literal-found c.args.matrix.now d g (place_of c.args.place.clause.0 c.args.place.literal) (the_template c.template-template.result.now) e c.template-template.ensures) c.in_ok-label.ensures.copy c.in_ok-label.ensures.sorts c.in_ok-label.ensures.own c.in_ok-label.ensures.adds c.in_ok-label.ensures.within c.in_ok-copy.ensures.copy c.in_ok-copy.ensures.sorts c.in_ok-copy.ensures.own c.in_ok-copy.ensures.adds c.in_ok-copy.ensures.within))) c.mark-after.ensures.well c.in_ok-extend.ensures.tree c.in_ok-extend.ensures.system))

pub returns-clause-given_up : goal.returns-clause-given_up
returns-clause-given_up c = λ f P base d p g cm h e looks.
    let stands = (at-extended P c.args.matrix.now base d p c.args.store.now.store c.meet.new.store.store c.met_atom.new.store.store c.args.self.now.tree.steps.items c.extend.new.self.steps.items c.args.self.now.tree.goals.items c.extend.new.self.goals.items c.args.goal c.args.place.literal c.extend.new.self.open g (the_template c.template-template.result.now) (record { clause = c.args.place.clause; copy = c.in_ok-copy.copy }) c.in_ok-atom.atom (map the_place c.items-terms.result.now) c.in_ok-label.label h e (clause-for P c.args.matrix.now c.args.place.clause.0 (the_template c.template-template.result.now) cm (place-clause c.args.matrix.now d g (place_of c.args.place.clause.0 c.args.place.literal) e) c.template-template.ensures) (subst (λ v. HeadMatched c.args.store.now.store c.meet.new.store.store (the_template c.template-template.result.now) c.args.place.literal (the_places v) e.literal (map the_place c.items-terms.result.now)) (sym c.in_ok-copy.ensures.variables) (subst (HeadMatched c.args.store.now.store c.meet.new.store.store (the_template c.template-template.result.now) c.args.place.literal (the_places c.in-Some.variables) e.literal) (sym (goal-terms P c.args.matrix.now base d p c.args.store.now.store c.args.self.now.tree.steps.items c.args.self.now.tree.goals.items c.args.goal g (the_atom c.atom-signed.result.now) (map the_place c.items-terms.result.now) h c.atom-signed.ensures c.items-terms.ensures)) (c.in_ok-found.ensures.met c.in-Some.variables c.in-Some.is P base d p g (the_template c.template-template.result.now) h e c.template-template.ensures))) (goal-terms P c.args.matrix.now base d p c.args.store.now.store c.args.self.now.tree.steps.items c.args.self.now.tree.goals.items c.args.goal g (the_atom c.atom-signed.result.now) (map the_place c.items-terms.result.now) h c.atom-signed.ensures c.items-terms.ensures) (c.in_ok-atom.ensures.atom ∙ ap (λ q. met_atom q (map the_place c.items-terms.result.now) c.in_ok-label.label) (same-some (slice_get c.template-template.result.now.literals c.args.place.literal) (the_pattern_atom c.index-items-at.result) e.literal (literal-there the_pattern_atom c.items.result.now c.template-template.result.now.literals c.args.place.literal c.index-items-at.result c.items.ensures (literal-within c.args.matrix.now d g (place_of c.args.place.clause.0 c.args.place.literal) (the_template c.template-template.result.now) e c.template-template.ensures) c.index-items-at.is) (literal-found c.args.matrix.now d g (place_of c.args.place.clause.0 c.args.place.literal) (the_template c.template-template.result.now) e c.template-template.ensures))) (subst (λ v. RestCopied c.meet.new.store.store c.met_atom.new.store.store (the_template c.template-template.result.now) c.args.place.literal (the_places v) e.literal c.in_ok-label.label (the_clause c.in_ok-copy.copy)) (sym c.in_ok-copy.ensures.variables) (subst (λ (z : TermStore). RestCopied c.meet.new.store.store z.store (the_template c.template-template.result.now) c.args.place.literal (the_places c.in-Some.variables) e.literal c.in_ok-label.label (the_clause c.in_ok-copy.copy)) (sym c.in_ok-atom.ensures.store) (rest-copied c.meet.new.store.store c.copy_label.new.self.store c.copy_rest.new.self.store (the_template c.template-template.result.now) c.args.place.literal (the_places c.in-Some.variables) c.in_ok-label.label e.literal (the_clause c.in_ok-copy.copy) (literal-found c.args.matrix.now d g (place_of c.args.place.clause.0 c.args.place.literal) (the_template c.template-template.result.now) e c.template-template.ensures) c.in_ok-label.ensures.copy c.in_ok-label.ensures.sorts c.in_ok-label.ensures.own c.in_ok-label.ensures.adds c.in_ok-label.ensures.within c.in_ok-copy.ensures.copy c.in_ok-copy.ensures.sorts c.in_ok-copy.ensures.own c.in_ok-copy.ensures.adds c.in_ok-copy.ensures.within))) c.mark-after.ensures.well c.in_ok-extend.ensures.tree c.in_ok-extend.ensures.system) in
    let e = c.len-first.ensures in
    let n = c.args.self.now.tree.goals.ok.0 in
    let same : c.len-first.result ≡ length c.args.self.now.tree.goals.items = omega (arith, e, n) in
    given-up P c.args.matrix.now base d (p ++ extension_at c.args.matrix.now (place_of c.args.place.clause.0 c.args.place.literal) ∷ []) (length c.args.self.now.tree.goals.items) c.met_atom.new.store c.extend.new.self _ c.in_ok-regular.ensures.tree stands (subst (λ n. HasLost P d (p ++ extension_at c.args.matrix.now (place_of c.args.place.clause.0 c.args.place.literal) ∷ []) n c.extend.new.self.open) same (c.in_ok-regular.ensures.lost f P c.args.matrix.now base d (p ++ extension_at c.args.matrix.now (place_of c.args.place.clause.0 c.args.place.literal) ∷ []) stands))

pub returns-in_err-label-clause-marks : goal.returns-in_err-label-clause-marks
returns-in_err-label-clause-marks c = (KeepsMarks-both c.args.store.now.store c.meet.new.store.store c.copy_label.new.self.store c.meet.ensures.marks (KeepsMarks-built c.meet.new.store.store c.copy_label.new.self.store c.in_err-label.ensures.adds.built))

pub returns-in_err-copy-clause-marks : goal.returns-in_err-copy-clause-marks
returns-in_err-copy-clause-marks c = KeepsMarks-both c.args.store.now.store c.copy_label.new.self.store c.copy_rest.new.self.store (KeepsMarks-both c.args.store.now.store c.meet.new.store.store c.copy_label.new.self.store c.meet.ensures.marks (KeepsMarks-built c.meet.new.store.store c.copy_label.new.self.store c.in_ok-label.ensures.adds.built)) c.in_err-copy.ensures.marks

pub returns-in_err-atom-clause-marks : goal.returns-in_err-atom-clause-marks
returns-in_err-atom-clause-marks c = subst (λ (z : TermStore). KeepsMarks c.args.store.now.store z.store) (sym c.in_err-atom.ensures.store) (KeepsMarks-both c.args.store.now.store c.copy_label.new.self.store c.copy_rest.new.self.store (KeepsMarks-both c.args.store.now.store c.meet.new.store.store c.copy_label.new.self.store c.meet.ensures.marks (KeepsMarks-built c.meet.new.store.store c.copy_label.new.self.store c.in_ok-label.ensures.adds.built)) c.in_ok-copy.ensures.marks)

pub returns-in_err-extend-clause-marks : goal.returns-in_err-extend-clause-marks
returns-in_err-extend-clause-marks c = subst (λ (z : TermStore). KeepsMarks c.args.store.now.store z.store) (sym c.in_ok-atom.ensures.store) (KeepsMarks-both c.args.store.now.store c.copy_label.new.self.store c.copy_rest.new.self.store (KeepsMarks-both c.args.store.now.store c.meet.new.store.store c.copy_label.new.self.store c.meet.ensures.marks (KeepsMarks-built c.meet.new.store.store c.copy_label.new.self.store c.in_ok-label.ensures.adds.built)) c.in_ok-copy.ensures.marks)

pub returns-in_err-regular-clause-marks : goal.returns-in_err-regular-clause-marks
returns-in_err-regular-clause-marks c = subst (λ (z : TermStore). KeepsMarks c.args.store.now.store z.store) (sym c.in_ok-atom.ensures.store) (KeepsMarks-both c.args.store.now.store c.copy_label.new.self.store c.copy_rest.new.self.store (KeepsMarks-both c.args.store.now.store c.meet.new.store.store c.copy_label.new.self.store c.meet.ensures.marks (KeepsMarks-built c.meet.new.store.store c.copy_label.new.self.store c.in_ok-label.ensures.adds.built)) c.in_ok-copy.ensures.marks)

pub returns-clause-marks : goal.returns-clause-marks
returns-clause-marks c = subst (λ (z : TermStore). KeepsMarks c.args.store.now.store z.store) (sym c.in_ok-atom.ensures.store) (KeepsMarks-both c.args.store.now.store c.copy_label.new.self.store c.copy_rest.new.self.store (KeepsMarks-both c.args.store.now.store c.meet.new.store.store c.copy_label.new.self.store c.meet.ensures.marks (KeepsMarks-built c.meet.new.store.store c.copy_label.new.self.store c.in_ok-label.ensures.adds.built)) c.in_ok-copy.ensures.marks)

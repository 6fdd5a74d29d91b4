use Rattle.std.proofs.Common.{◌∙◌, IsTrue, length, map, subst, sym, false, true}
use Rattle.calculus.specs.declared.sort.Sort.TheVariants.{MarkSort, TermSort}
use Rattle.store_theory.specs.Stores.{names_below}
use Rattle.term_store.specs.ClauseView.{the_atom, the_pattern_atom}
use Rattle.term_store.specs.RefView.{the_place, the_places}
use Rattle.search_tree.proofs.AheadLaws.{terms-below}
use Rattle.search_tree.proofs.HeadLaws.{parts-sorted}
use Rattle.search_tree.proofs.SamenessLaws.{label-below}
use Rattle.search_tree.proofs.LookingOver.{args-fit, label-fits, same-literal}
use Rattle.search_tree.proofs.uncopied.is_same.Goals as goal

pub have_clash_over-requires-clause-cells : goal.have_clash_over-requires-clause-cells
have_clash_over-requires-clause-cells c = terms-below (length c.args.store.now.store.cells) (the_atom c.args.atom.now) (map the_place c.items.result.now) c.items.ensures c.requires.atom

pub have_clash_over-requires-clause-fits : goal.have_clash_over-requires-clause-fits
have_clash_over-requires-clause-fits c = args-fit c.args.store.now.store (the_places c.args.variables) (the_pattern_atom c.args.literal.now) c.requires.literal

pub are_matched-requires-clause-cells : goal.are_matched-requires-clause-cells
are_matched-requires-clause-cells c = terms-below (length c.args.store.now.store.cells) (the_atom c.args.atom.now) (map the_place c.items-2.result.now) c.items-2.ensures c.requires.atom

pub are_matched-requires-clause-fits : goal.are_matched-requires-clause-fits
are_matched-requires-clause-fits c = parts-sorted c.args.store.now.store (the_places c.args.variables) TermSort false c.args.literal.now.args (args-fit c.args.store.now.store (the_places c.args.variables) (the_pattern_atom c.args.literal.now) c.requires.literal)

pub are_matched-requires-2-clause-cells : goal.are_matched-requires-2-clause-cells
are_matched-requires-2-clause-cells c = subst (λ xs. IsTrue (names_below (length c.args.store.now.store.cells) xs)) (sym c.items-3.ensures) (label-below (length c.args.store.now.store.cells) (the_atom c.args.atom.now) c.requires.atom)

pub are_matched-requires-2-clause-fits : goal.are_matched-requires-2-clause-fits
are_matched-requires-2-clause-fits c = parts-sorted c.args.store.now.store (the_places c.args.variables) MarkSort true c.args.literal.now.label (label-fits c.args.store.now.store (the_places c.args.variables) (the_pattern_atom c.args.literal.now) c.requires.literal)

pub returns : goal.returns
returns c = λ t. same-literal c.args.store.now.store (the_places c.args.variables) (the_pattern_atom c.args.literal.now) (the_atom c.args.atom.now) (map the_place c.items-2.result.now) (map the_place c.items-3.result.now) (sym c.are_same_sign.ensures ∙ c.if-not-are_same_sign.false) c.if-literal-atom.false c.items-2.ensures c.items-3.ensures (c.in_ok-are_matched.ensures.matched c.if-not-branch.false) (c.in_ok-same.ensures.matched t)

use Rattle.std.proofs.Common.{◌∙◌, length, map, sym}
use Rattle.search_theory.specs.Uncopied.{by_sign}
use Rattle.term_store.specs.ClauseView.{the_atom, the_pattern_atom}
use Rattle.term_store.specs.RefView.{the_place, the_places}
use Rattle.search_tree.proofs.AheadLaws.{terms-below}
use Rattle.search_tree.proofs.LookingOver.{apart-by_terms, args-fit}
use Rattle.search_tree.proofs.uncopied.may_meet.Goals as goal

pub returns-then-are_same_sign : goal.returns-then-are_same_sign
returns-then-are_same_sign c = λ f. by_sign (sym c.are_same_sign.ensures ∙ c.if-are_same_sign.true)

pub have_clash_over-requires-clause-cells : goal.have_clash_over-requires-clause-cells
have_clash_over-requires-clause-cells c = terms-below (length c.args.store.now.store.cells) (the_atom c.args.atom.now) (map the_place c.items-terms.result.now) c.items-terms.ensures c.requires.atom

pub have_clash_over-requires-clause-fits : goal.have_clash_over-requires-clause-fits
have_clash_over-requires-clause-fits c = args-fit c.args.store.now.store (the_places c.args.variables) (the_pattern_atom c.args.literal.now) c.requires.literal

pub returns-then-have_clash_over : goal.returns-then-have_clash_over
returns-then-have_clash_over c = λ f. apart-by_terms c.args.store.now.store (the_places c.args.variables) (the_pattern_atom c.args.literal.now) (the_atom c.args.atom.now) (map the_place c.items-terms.result.now) c.items-terms.ensures (c.have_clash_over.ensures c.if-have_clash_over.true)

use Rattle.std.proofs.Common.{◌∷◌, inr, map}
use Rattle.term_store.specs.ClauseView.{the_pattern_atom}
use Rattle.term_store.specs.RefView.{the_places}
use Rattle.term_store.specs.TemplateView.{the_template}
use Rattle.search_tree.proofs.LookingOver.{aside-by, literal-fits}
use Rattle.search_tree.proofs.uncopied.has_lost.Goals as goal

pub is_lost-requires-clause-literal : goal.is_lost-requires-clause-literal
is_lost-requires-clause-literal c = literal-fits c.args.store.now.store (the_places c.args.variables) c.args.template.now.literals (map the_pattern_atom c.items-literals.result.now) c.loop-i.i (the_pattern_atom c.literal_at-literal.result.now) c.items-literals.ensures c.requires.literals c.literal_at-literal.ensures

pub returns-then-is_lost : goal.returns-then-is_lost
returns-then-is_lost c = λ t x ahead g e. aside-by c.args.matrix.now c.args.store.now.store (the_template c.args.template.now) c.args.at (the_places c.args.variables) (x.literal ∷ x.path) ahead (map the_pattern_atom c.items-literals.result.now) c.loop-i.i (the_pattern_atom c.literal_at-literal.result.now) c.items-literals.ensures c.literal_at-literal.ensures c.if-i-at.true (inr (c.args.limit, e, c.is_lost.ensures c.if-is_lost.true x g))

use Rattle.std.proofs.Common.{◌∷◌, inl, map}
use Rattle.term_store.specs.ClauseView.{the_pattern_atom}
use Rattle.term_store.specs.RefView.{the_places}
use Rattle.term_store.specs.TemplateView.{the_template}
use Rattle.search_tree.proofs.LookingOver.{aside-by, literal-fits}
use Rattle.search_tree.proofs.uncopied.has_repeated.Goals as goal

pub is_repeated-requires-clause-literal : goal.is_repeated-requires-clause-literal
is_repeated-requires-clause-literal c = literal-fits c.args.store.now.store (the_places c.args.variables) c.args.template.now.literals (map the_pattern_atom c.items-literals.result.now) c.loop-i.i (the_pattern_atom c.literal_at-literal.result.now) c.items-literals.ensures c.requires.literals c.literal_at-literal.ensures

pub returns-then-branch : goal.returns-then-branch
returns-then-branch c = λ t x g. aside-by c.args.matrix.now c.args.store.now.store (the_template c.args.template.now) c.args.at (the_places c.args.variables) (x.literal ∷ x.path) c.args.ahead (map the_pattern_atom c.items-literals.result.now) c.loop-i.i (the_pattern_atom c.literal_at-literal.result.now) c.items-literals.ensures c.literal_at-literal.ensures c.if-i-at.true (inl (c.in_ok-is_repeated.ensures c.if-branch.true x g))

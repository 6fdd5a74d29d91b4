use Rattle.std.proofs.Common.{[], ◌∷◌, ◌++◌, length, refl}
use Rattle.term_store.specs.ClauseView.{the_atom}
use Rattle.search_tree.specs.GoalKeys.{variables_in, waiting_in}
use Rattle.search_tree.specs.declared.goal_key.KeyPart.TheVariants.{Literal}
use Rattle.search_tree.proofs.KeyLaws.{reading-in, reading-literal}
use Rattle.search_tree.proofs.goal_key.GoalKey.read_literal.Goals as goal

pub read_cells-requires : goal.read_cells-requires
read_cells-requires c = let (x, rest, h) = c.requires in (x, rest, reading-in c.args.store.now.store x (the_atom c.args.atom.now).args (waiting_in c.add_literal.new.self) (variables_in c.args.self.now) (variables_in c.add_literal.new.self) (c.args.self.now.parts.items ++ Literal c.args.atom.now.sign c.args.atom.now.symbol (length (the_atom c.args.atom.now).args) ∷ []) c.add_literal.new.self.parts.items rest c.in_ok-add_literal.ensures.waiting c.in_ok-add_literal.ensures.variables c.in_ok-add_literal.ensures.parts (reading-literal c.args.store.now.store x (variables_in c.args.self.now) c.args.self.now.parts.items (the_atom c.args.atom.now) c.args.atom.now.symbol rest h refl (c.is_plain.ensures c.if-not-is_plain.false)))

pub returns : goal.returns
returns c = λ t x rest h. c.in_ok-read.ensures t x rest (reading-in c.args.store.now.store x (the_atom c.args.atom.now).args (waiting_in c.add_literal.new.self) (variables_in c.args.self.now) (variables_in c.add_literal.new.self) (c.args.self.now.parts.items ++ Literal c.args.atom.now.sign c.args.atom.now.symbol (length (the_atom c.args.atom.now).args) ∷ []) c.add_literal.new.self.parts.items rest c.in_ok-add_literal.ensures.waiting c.in_ok-add_literal.ensures.variables c.in_ok-add_literal.ensures.parts (reading-literal c.args.store.now.store x (variables_in c.args.self.now) c.args.self.now.parts.items (the_atom c.args.atom.now) c.args.atom.now.symbol rest h refl (c.is_plain.ensures c.if-not-is_plain.false)))

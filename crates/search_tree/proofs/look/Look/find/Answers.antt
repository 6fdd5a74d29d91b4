use Rattle.std.proofs.Common.{ap, length, map}
use Rattle.term_store.specs.RefView.{the_place}
use Rattle.search_tree.specs.Looking.{bound_in, waiting_in}
use Rattle.search_tree.proofs.LookingLaws.{below-nothing, lists-bound}
use Rattle.search_tree.proofs.look.Look.find.Goals as goal

pub visit_all-requires : goal.visit_all-requires
visit_all-requires c = (c.in_ok-add_path.ensures c.requires.0 c.requires.1).below (length c.args.store.now.store.cells) c.requires.2 (below-nothing (length c.args.store.now.store.cells) (map the_place c.clear.new.self.items) (ap (map the_place) c.clear.ensures.items))

pub returns : goal.returns
returns c = λ e x g. lists-bound c.args.store.now.store x (bound_in c.add_path.new.self) (map the_place c.clear.new.self.items) (waiting_in c.add_path.new.self) (bound_in c.visit_all.new.self) (c.in_ok-add_path.ensures x g) (c.in_ok-all.ensures e)

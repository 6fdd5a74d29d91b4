use Rattle.std.proofs.Common.{◌∙◌, map, sym}
use Rattle.std.proofs.lemmas.Bool.{false≢true}
use Rattle.term_store.specs.RefView.{the_place}
use Rattle.prefix_split.proofs.GrowingLaws.{asked-begin}
use Rattle.prefix_split.proofs.growing.ask_begin.Goals as goal

pub reach_first-requires-clause-named : goal.reach_first-requires-clause-named
reach_first-requires-clause-named c = λ e. absurd (false≢true (sym c.requires.long ∙ e))

pub reach-requires-clause-tree : goal.reach-requires-clause-tree
reach-requires-clause-tree c = c.in_ok-left.ensures.tree

pub reach-requires-clause-named : goal.reach-requires-clause-named
reach-requires-clause-named c = λ e. absurd (false≢true (sym c.requires.long ∙ e))

pub returns : goal.returns
returns c = asked-begin c.args.store.now.store c.args.logic c.args.system.now.strings (map the_place c.args.begin.now) (map the_place c.args.whole.now) c.args.shown c.args.nodes.now.items c.reach_first.new.nodes.items c.reach.new.nodes.items c.in_ok-left.left c.in_ok-right.right c.args.pairs.now.items c.push.new.self.items c.in_ok-left.ensures c.in_ok-right.ensures c.in_ok-push.ensures.items

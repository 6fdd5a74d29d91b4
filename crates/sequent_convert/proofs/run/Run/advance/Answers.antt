use Rattle.std.proofs.Common.{map, subst}
use Rattle.sequent_convert.specs.ByNumber.NodeView.{the_node}
use Rattle.sequent_convert.specs.ByNumber.RunView.{IsSeen, the_lists, the_run, the_source}
use Rattle.sequent_convert.proofs.StateLaws.{some-ahead}
use Rattle.sequent_convert.proofs.run.Run.advance.Goals as goal

pub close-requires-clause-pair : goal.close-requires-clause-pair
close-requires-clause-pair c = subst (IsSeen (map (the_node (the_lists c.args.source.now)) c.args.self.now.branch.nodes.items)) c.in-Some.is c.requires.seen

pub lead-requires-clause-some : goal.lead-requires-clause-some
lead-requires-clause-some c = some-ahead (the_source c.args.source.now) (the_run c.args.source.now c.args.self.now) c.requires.run

use Rattle.std.proofs.Common.{refl}
use Rattle.sequent_convert.specs.ByNumber.RunView.{the_lists, the_source}
use Rattle.sequent_convert.proofs.ByNumber.TurnsAt.{find-some-by, find-none-by}
use Rattle.sequent_convert.proofs.turns.find_node.Goals as goal

pub returns-in-None : goal.returns-in-None
returns-in-None c = find-none-by (the_lists c.args.source.now) c.table.result.now c.table.ensures (the_source c.args.source.now) c.agenda-agenda.result.now c.agenda-agenda.ensures.turns c.args.turn c.requires.within c.args.branch.now.nodes.items c.as_slice-nodes.result.now _ _ c.as_slice-nodes.ensures.value refl c.in-None.ensures

pub returns-in-Some : goal.returns-in-Some
returns-in-Some c = find-some-by (the_lists c.args.source.now) c.table.result.now c.table.ensures (the_source c.args.source.now) c.agenda-agenda.result.now c.agenda-agenda.ensures.turns c.args.turn c.requires.within c.args.branch.now.nodes.items c.as_slice-nodes.result.now c.in-Some.place _ _ c.as_slice-nodes.ensures.value refl c.in-Some.ensures

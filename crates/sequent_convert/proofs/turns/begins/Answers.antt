use Rattle.std.proofs.Common.{length, refl, arith}
use Rattle.sequent_convert.specs.ByNumber.RunView.{the_lists, the_source}
use Rattle.sequent_convert.proofs.ByNumber.NodeLaws.{head-in}
use Rattle.sequent_convert.proofs.ByNumber.TurnsAt.{begins-by}
use Rattle.sequent_convert.proofs.turns.begins.Goals as goal

pub returns-then-place-nodes : goal.returns-then-place-nodes
returns-then-place-nodes c =
    let within = head-in c.args.turns.now (length c.args.source.now.named.now.agenda) c.in-Some.turn.now c.requires.within c.in-Some.ensures.value in
    λ yes. begins-by (the_lists c.args.source.now) c.table.result.now c.table.ensures (the_source c.args.source.now) c.agenda-agenda.result.now c.agenda-agenda.ensures.turns c.in-Some.turn.now within c.args.branch.now.nodes.items c.as_slice-nodes.result.now c.args.turns.now c.hint-place.result _ _ c.index-nodes-place.result c.as_slice-nodes.ensures.value c.in-Some.ensures.value refl (omega arith) c.index-nodes-place.is (c.works_on.ensures.0 yes)

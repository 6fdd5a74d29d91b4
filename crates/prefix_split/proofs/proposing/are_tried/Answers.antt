use Rattle.std.proofs.Common.{◌+◌, ◌∙◌, ap, arith, length, sym}
use Rattle.std.proofs.lemmas.List.{length-map}
use Rattle.term_store.specs.RefView.{the_place}
use Rattle.term_store.specs.SystemView.{the_system}
use Rattle.prefix_split.proofs.TriedLaws.{tried-all, tried-next, tried-start}
use Rattle.prefix_split.proofs.proposing.are_tried.Goals as goal

pub loop-i-init : goal.loop-i-init
loop-i-init c = tried-start c.args.logic (length c.items-count.result.now + c.args.system.now.pis) c.args.lengths.now

pub loop-i-preserved : goal.loop-i-preserved
loop-i-preserved c = tried-next c.args.logic (length c.items-count.result.now + c.args.system.now.pis) c.args.lengths.now c.loop-i.i c.length_at.result c.loop-i.invariant c.length_at.ensures (c.is_tried.ensures c.if-not-is_tried.false)

pub returns : goal.returns
returns c = λ e. tried-all c.args.logic (the_system c.args.system.now) c.args.lengths.now (length c.items-count.result.now) c.loop-i.i (omega arith) (sym (length-map c.items-count.result.now the_place) ∙ ap length c.items-count.ensures) c.loop-i.invariant (omega arith)

use Rattle.std.proofs.Common.{◌∙◌}
use Rattle.trim_marks.proofs.CountLaws.{room}
use Rattle.trim_marks.proofs.counts.make_room.Goals as goal

pub loop-counts-preserved : goal.loop-counts-preserved
loop-counts-preserved c = room c.loop-counts.counts.items c.push.new.self.items c.in_ok-push.ensures.items ∙ c.loop-counts.invariant

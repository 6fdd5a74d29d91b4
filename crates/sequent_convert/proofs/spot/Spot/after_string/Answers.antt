use Rattle.sequent_convert.proofs.ByNumber.SpotLaws.{nu-spot}
use Rattle.sequent_convert.proofs.spot.Spot.after_string.Goals as goal

pub returns-clause-spot : goal.returns-clause-spot
returns-clause-spot c = λ ls. nu-spot ls c.args.logic c.args.self.now c.in_ok-spot.spot c.args.string.now c.in_ok-label.label.value.items c.args.taken c.in_ok-label.ensures (c.in_ok-spot.ensures.spot ls)

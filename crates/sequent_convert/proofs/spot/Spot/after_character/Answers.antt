use Rattle.std.proofs.Common.{refl}
use Rattle.sequent_convert.proofs.ByNumber.SpotLaws.{pi-spot}
use Rattle.sequent_convert.proofs.spot.Spot.after_character.Goals as goal

pub returns-clause-spot : goal.returns-clause-spot
returns-clause-spot c = λ ls. pi-spot ls c.args.logic c.args.self.now c.in_ok-spot.spot _ c.in_ok-label.label.value.items c.args.taken refl c.in_ok-label.ensures (c.in_ok-spot.ensures.spot ls)

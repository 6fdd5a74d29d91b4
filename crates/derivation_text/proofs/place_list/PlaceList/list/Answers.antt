use Rattle.std.proofs.Common.{sym, subst, arith}
use Rattle.derivation_text.specs.Listing.{AreNumbers}
use Rattle.derivation_text.proofs.PlaceLaws.{numbers-listed}
use Rattle.derivation_text.proofs.place_list.PlaceList.list.Goals as goal

pub invariant_of-self-2 : goal.invariant_of-self-2
invariant_of-self-2 c =
    subst (λ l. AreNumbers l c.set_first.new.numbers.items) (sym c.in_ok-push.ensures.items)
    (numbers-listed c.self.inside.places.items c.self.inside.numbers.items c.reach.new.numbers.items c.set_first.new.numbers.items c.args.place c.in_ok-number.number c.self.invariant c.in_ok-reach.ensures.same c.in_ok-reach.ensures.reached
    (omega (arith, c.in_ok-number.ensures)) (omega arith) c.set_first.ensures.kept c.set_first.ensures.put)

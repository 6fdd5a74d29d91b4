use Rattle.std.proofs.Common.{◌-◌, None, arith, length}
use Rattle.derivation_check.proofs.ArgumentLaws.{spare-among}
use Rattle.derivation_check.proofs.homes.add_spares.Goals as goal

pub place_of_home-requires : goal.place_of_home-requires
place_of_home-requires c = spare-among (length c.args.places.now) c.args.names.now (c.loop-left.left - 1) (0, None) c.requires.among (omega (arith, c.loop-left.invariant.within, c.loop-left-test.true))

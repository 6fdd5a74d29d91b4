use Rattle.std.proofs.Common.{◌-◌, arith, length}
use Rattle.derivation_check.proofs.ArgumentLaws.{eigen-among}
use Rattle.derivation_check.proofs.homes.add_eigens.Goals as goal

pub place_at-requires : goal.place_at-requires
place_at-requires c = eigen-among (length c.args.places.now) c.args.names.now (c.loop-left.left - 1) (0, 0) c.requires.among (omega (arith, c.loop-left.invariant.within, c.loop-left-test.true))

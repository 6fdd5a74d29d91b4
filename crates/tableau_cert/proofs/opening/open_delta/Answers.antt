use Rattle.std.proofs.Common.{refl}
use Rattle.tableau_cert.proofs.OpeningLaws.{opened-delta}
use Rattle.tableau_cert.specs.WayView.{the_way}
use Rattle.tableau_cert.proofs.opening.open_delta.Goals as goal

pub returns : goal.returns
returns c P l given v = opened-delta P l given c.args.table.now c.inside_delta.new.table (the_way c.args.way.now) (the_way c.inside_delta.new.way) c.args.a c.args.position c.args.supply _ refl v c.requires.fits c.in_ok-inside_delta.ensures

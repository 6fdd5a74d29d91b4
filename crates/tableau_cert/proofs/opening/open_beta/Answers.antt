use Rattle.tableau_cert.proofs.OpeningLaws.{opened-beta}
use Rattle.tableau_cert.specs.WayView.{the_way}
use Rattle.tableau_cert.proofs.opening.open_beta.Goals as goal

pub returns : goal.returns
returns c P l given y = opened-beta c.args.table.now c.label_in.new.table (the_way c.args.way.now) (the_way c.label_in.new.self) c.in_ok-_shared._shared c.requires.way c.in_ok-_shared.ensures P l given c.args.a c.args.b c.args.position c.size-further.result c.args.supply y c.size-further.ensures c.requires.fits

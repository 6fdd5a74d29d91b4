use Rattle.tableau_cert.proofs.EnteringLaws.{entered-pi}
use Rattle.tableau_cert.specs.WayView.{the_way}
use Rattle.tableau_cert.proofs.entering.enter_pi.Goals as goal

pub returns : goal.returns
returns c given v = entered-pi c.args.logic given c.args.table.now c.after_mark.new.table (the_way c.args.way.now) (the_way c.after_mark.new.way) c.args.position c.args.supply v c.in_ok-after_mark.ensures

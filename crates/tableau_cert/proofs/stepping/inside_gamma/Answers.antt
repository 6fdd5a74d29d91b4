use Rattle.tableau_cert.proofs.SteppingLaws.{gamma-way}
use Rattle.tableau_cert.specs.WayView.{the_way}
use Rattle.tableau_cert.proofs.stepping.inside_gamma.Goals as goal

pub returns : goal.returns
returns c ls position g n t = gamma-way ls (the_way c.args.way.now) n g c.args.term position c.push.new.self.items c.push-2.new.self.items t c.in_ok-push.ensures.items c.in_ok-push-2.ensures.items

use Rattle.std.proofs.Common.{refl}
use Rattle.tableau_cert.proofs.OpeningLaws.{opened-gamma, opened-no_term, term-normal}
use Rattle.tableau_cert.proofs.SteppingLaws.{grown-none}
use Rattle.tableau_cert.specs.WayView.{the_way}
use Rattle.tableau_cert.proofs.opening.open_gamma.Goals as goal

pub returns-in-None : goal.returns-in-None
returns-in-None c l = opened-no_term c.args.problem.now l c.args.given.now c.args.table.now (the_way c.args.way.now) (the_way c.args.way.now) c.args.a c.args.supply c.requires.grown c.in-None.ensures

pub returns-in_ok-inside_gamma-in-Some : goal.returns-in_ok-inside_gamma-in-Some
returns-in_ok-inside_gamma-in-Some c l = let ls = c.args.table.now in
    opened-gamma c.args.problem.now l c.args.given.now ls (the_way c.args.way.now) (the_way c.inside_gamma.new.way) c.args.a c.args.supply c.requires.grown c.in-Some.next.term _ c.in_ok-allowed-in-Some.allowed _ refl c.requires.values refl c.in-Some.ensures c.in_ok-allowed-in-Some.ensures c.requires.fits
    (c.in_ok-inside_gamma-in-Some.ensures ls c.args.a.position (grown-none ls c.requires.grown.most) c.requires.way (term-normal c.args.given.now ls c.args.supply.values.now c.in-Some.next.after.now c.in-Some.next.term c.requires.grown c.in-Some.ensures c.requires.values))

use Rattle.std.proofs.Common.{◌+◌, arith, refl}
use Rattle.formula_core.specs.FormulaView.{the_formula}
use Rattle.tableau_cert.proofs.GatheringLaws.{one}
use Rattle.tableau_cert.proofs.SteppingLaws.{grown-none, longer-same}
use Rattle.tableau_cert.specs.Gathering.{the_supply}
use Rattle.tableau_cert.specs.WayView.{the_spot}
use Rattle.tableau_cert.proofs.opening.open_one.Goals as goal

pub returns : goal.returns
returns c P l given ls w v n g = let fits = c.requires in record {
  same = λ x h. one P l c.args.part.sign (the_formula c.args.part.formula.now) (the_spot ls w c.args.position) (the_spot ls w (c.args.position + 1)) x (the_supply given c.args.supply) h refl;
  step = record { way = n; longer = longer-same w; parts = omega (arith, fits); values = v; smaller = omega arith };
  grown = grown-none ls g.most;
}

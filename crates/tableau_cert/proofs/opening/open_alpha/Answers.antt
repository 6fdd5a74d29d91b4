use Rattle.std.proofs.Common.{◌+◌, ◌∷◌, ap, arith, map, refl, ◌∙◌}
use Rattle.calculus.specs.ComputedInstances.{part_of}
use Rattle.calculus.specs.Positions.{size}
use Rattle.formula_core.specs.FormulaView.{the_formula}
use Rattle.formula_core.specs.GroundLists.{the_value}
use Rattle.tableau_cert.proofs.GatheringLaws.{left-side, no-side, right-side}
use Rattle.tableau_cert.proofs.SteppingLaws.{grown-none, longer-same}
use Rattle.tableau_cert.specs.WayView.{the_spot}
use Rattle.tableau_cert.proofs.opening.open_alpha.Goals as goal

pub returns-in-None : goal.returns-in-None
returns-in-None c P l given ls w v n g = record {
  same = λ x h. no-side P l (size (the_formula c.args.a.formula.now)) (part_of l (the_formula c.args.a.formula.now) c.args.a.sign) (part_of l (the_formula c.args.b.formula.now) c.args.b.sign) (the_spot ls w c.args.position) x (map (the_value given) c.args.supply.values.now) (h ∙ ap (λ ss. record { sides = ss; values = map (the_value given) c.args.supply.values.now }) c.in-None.ensures);
  step = tt;
  grown = grown-none ls g.most;
}

pub returns-in-Left : goal.returns-in-Left
returns-in-Left c P l given ls w v n g = let fits = c.requires in record {
  same = λ x h. left-side P l (size (the_formula c.args.a.formula.now)) c.args.a.sign (the_formula c.args.a.formula.now) (part_of l (the_formula c.args.b.formula.now) c.args.b.sign) (the_spot ls w c.args.position) (the_spot ls w (c.args.position + 1)) x c.in-Some.next.after.now (map (the_value given) c.args.supply.values.now) (h ∙ ap (λ ss. record { sides = ss; values = map (the_value given) c.args.supply.values.now }) (c.in-Some.ensures ∙ ap (λ d. d ∷ c.in-Some.next.after.now) c.in-Left.is)) refl;
  step = record { way = n; longer = longer-same w; parts = omega (arith, fits); values = v; smaller = omega arith };
  grown = grown-none ls g.most;
}

pub returns-in-Right : goal.returns-in-Right
returns-in-Right c P l given ls w v n g = let m = c.size-further.ensures in let fits = c.requires in record {
  same = λ x h. right-side P l (size (the_formula c.args.a.formula.now)) c.size-further.result (part_of l (the_formula c.args.a.formula.now) c.args.a.sign) c.args.b.sign (the_formula c.args.b.formula.now) (the_spot ls w c.args.position) (the_spot ls w (c.args.position + (c.size-further.result + 1))) x c.in-Some.next.after.now (map (the_value given) c.args.supply.values.now) (h ∙ ap (λ ss. record { sides = ss; values = map (the_value given) c.args.supply.values.now }) (c.in-Some.ensures ∙ ap (λ d. d ∷ c.in-Some.next.after.now) c.in-Right.is)) m refl;
  step = record { way = n; longer = longer-same w; parts = omega (arith, fits, m); values = v; smaller = omega arith };
  grown = grown-none ls g.most;
}

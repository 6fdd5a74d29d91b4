use Rattle.std.proofs.Common.{ap, sym, ◌∙◌, map}
use Rattle.calculus.specs.Positions.{size}
use Rattle.formula_core.specs.GroundLists.{the_value}
use Rattle.tableau_core.specs.Fitting.{is_made}
use Rattle.tableau_core.proofs.FittingLaws.{none-made, way-outside}
use Rattle.tableau_core.proofs.way.is_made.Goals as goal

pub returns-then-p-size : goal.returns-then-p-size
returns-then-p-size c = let P = c.args.problem.now in let l = P.setting.logic in let vs = map (the_value c.args.table.now) c.args.values.now in
    sym (ap (λ ns. is_made c.args.maker l ns vs) (way-outside P c.args.p.0 c.size.result (c.size.ensures ∙ ap size c.whole-whole.ensures.formula) c.if-p-size.true) ∙ none-made c.args.maker l vs)

use Rattle.std.proofs.Common.{◌∙◌, ap, map, sym}
use Rattle.formula_core.specs.GroundLists.{the_value}
use Rattle.calculus.specs.Skolem.{after_shape}
use Rattle.tableau_core.specs.Reaching.{reach}
use Rattle.tableau_core.proofs.home.past_shape.Goals as goal

pub returns-in-Gamma-clause-found : goal.returns-in-Gamma-clause-found
returns-in-Gamma-clause-found c w = c.past_term.ensures.found w ∙ sym (ap (λ h. after_shape h (reach w (map (the_value c.args.table.now) c.args.values.now) c.args.place)) c.in-Gamma.is)

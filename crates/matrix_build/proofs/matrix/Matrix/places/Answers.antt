use Rattle.std.proofs.Common.{◌∙◌}
use Rattle.matrix_build.proofs.matrix.Matrix.places.Goals as goal

pub returns : goal.returns
returns c = rw (← c.self.view_is) (c.places.ensures ∙ c.self.invariant.0.exact c.args.symbol.0 c.args.sign)

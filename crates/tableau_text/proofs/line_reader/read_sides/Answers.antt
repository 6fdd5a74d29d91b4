use Rattle.std.proofs.Common.{subst, sym}
use Rattle.tableau_text.specs.Sides.{AreSidesOn}
use Rattle.tableau_text.proofs.line_reader.read_sides.Goals as goal

pub returns-in-Some-clause-ok : goal.returns-in-Some-clause-ok
returns-in-Some-clause-ok c = subst (λ ss. AreSidesOn c.args.text.now ss c.in-Some.rest.now) (sym c.new.ensures) c.in-Some.ensures.some

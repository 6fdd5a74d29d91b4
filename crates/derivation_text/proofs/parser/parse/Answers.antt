use Rattle.std.proofs.Common.{sym, subst}
use Rattle.calculus.specs.Versions.{IsTextIn}
use Rattle.derivation_text.proofs.parser.parse.Goals as goal

pub returns-clause-text : goal.returns-clause-text
returns-clause-text c = subst (λ d. IsTextIn c.in_ok-version.version c.args.problem.now d c.args.bytes.now) (sym c.in_ok-d.ensures) c.in_ok-version.ensures.text

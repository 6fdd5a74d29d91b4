use Rattle.derivation_check.specs.ArgumentView.{the_argument}
use Rattle.derivation_check.proofs.HomesLaws.{known-told}
use Rattle.derivation_check.proofs.allowed.is_known.Goals as goal

pub returns : goal.returns
returns c = λ names table h. known-told names table c.args.homes.now h (the_argument c.args.term) c.is_known_at.result c.is_known_at.ensures

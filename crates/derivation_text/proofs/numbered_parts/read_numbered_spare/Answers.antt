use Rattle.std.proofs.Common.{refl}
use Rattle.calculus.specs.Versions.{numbered_home_text}
use Rattle.derivation_text.proofs.NumberedArgs.{no-spare, spare-space}
use Rattle.derivation_text.proofs.numbered_parts.read_numbered_spare.Goals as goal

pub returns-in_err-rest-clause-none : goal.returns-in_err-rest-clause-none
returns-in_err-rest-clause-none c = λ _ n h k. c.in_err-rest.ensures.none refl (numbered_home_text h) (spare-space c.args.text.now _ _ c.in_ok-number.ensures.some n h k)

pub returns-in_err-home-clause-none : goal.returns-in_err-home-clause-none
returns-in_err-home-clause-none c = λ _. no-spare c.args.text.now _ _ _ c.in_ok-number.ensures.some c.in_ok-rest.ensures.some (c.in_err-home.ensures.none refl)

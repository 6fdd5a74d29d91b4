-- What a step brings is new in the sequent that the program's entries stand for.
use Rattle.std.proofs.Common.{◌≡◌, subst, Ok}
use Rattle.calculus.specs.Syntax.{Problem}
use Rattle.calculus.specs.Derivations.{Sequent, Names, Step}
use Rattle.calculus.specs.Calculus.{Children, apply}
use Rattle.calculus.specs.StepFacts.{IsFresh}
use Rattle.calculus.proofs.SequentLaws.{step-fresh}

pub fresh-at : (P : Problem) (names : Names) (s t : Sequent) (x : Step) (c : Children) → t ≡ s → apply P names t x ≡ Ok c → IsFresh names s x
fresh-at P names s t x c e h = subst (λ r. IsFresh names r x) e (step-fresh P names t x c h)

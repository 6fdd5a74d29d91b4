use Rattle.calculus.specs.Equality.{term_eq}
use Rattle.calculus.specs.Syntax.{spare}
use Rattle.calculus.specs.Versions.{numbered}
use Rattle.calculus.proofs.EqualityLaws.{term_eq-tells}
use Rattle.derivation_text.proofs.RenumberingLaws.{new-among}
use Rattle.derivation_text.proofs.renumbering.new_arg.Goals as goal

pub returns-in_ok-number-in-Term-clause-among : goal.returns-in_ok-number-in-Term-clause-among
returns-in_ok-number-in-Term-clause-among c = new-among term_eq term_eq-tells c.new_term.new.to.terms (numbered c.args.d.now.terms c.in-Term.old (spare 0)) c.in_ok-number-in-Term.number c.in_ok-number-in-Term.ensures.number

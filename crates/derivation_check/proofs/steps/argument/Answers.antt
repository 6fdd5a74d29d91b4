use Rattle.std.proofs.Common.{◌-◌, IsTrue, length, refl, subst}
use Rattle.derivation_text.specs.Listed.{is_arg_listed}
use Rattle.derivation_text.specs.NumbersView.{the_numbered_arg}
use Rattle.derivation_check.proofs.NamesLaws.{argument-named}
use Rattle.derivation_check.proofs.PutLaws.{argument-put}
use Rattle.derivation_check.proofs.steps.argument.Goals as goal

pub returns-in-Term-clause-named : goal.returns-in-Term-clause-named
returns-in-Term-clause-named c = λ homes told h.
    let terms = c.args.terms.now in
    argument-named homes terms told c.row.result.now c.in-Term.number (c.in-Term.number - 1) h (subst (λ y. IsTrue (is_arg_listed (length terms) (the_numbered_arg y))) c.in-Term.is c.requires.listed) refl c.row.ensures

pub returns-in-Term-clause-put : goal.returns-in-Term-clause-put
returns-in-Term-clause-put c = λ table h.
    let terms = c.args.terms.now in
    let among = subst (λ y. IsTrue (is_arg_listed (length terms) (the_numbered_arg y))) c.in-Term.is c.requires.listed in
    argument-put table terms c.args.put.now c.row.result.now c.in-Term.number (c.in-Term.number - 1) _ h among refl c.row.ensures refl

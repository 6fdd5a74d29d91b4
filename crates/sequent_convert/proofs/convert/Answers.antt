use Rattle.std.proofs.Common.{◌∙◌, ap, subst, sym}
use Rattle.conversion_theory.specs.Numbering.{name_lines_of, number_of}
use Rattle.calculus.specs.Syntax.{Problem}
use Rattle.sequent_calc.specs.DerivationView.{the_derivation, the_names}
use Rattle.sequent_convert.specs.Atoms.{atoms_of}
use Rattle.sequent_convert.specs.ByNumber.RunView.{the_named}
use Rattle.sequent_convert.specs.Conversion.{IsConverted}
use Rattle.sequent_convert.specs.State.{IsBasis}
use Rattle.sequent_convert.proofs.Converted.{basis-of}
use Rattle.tableau_core.specs.Numbered.TableauView.{the_tableau}
use Rattle.sequent_convert.proofs.convert.Goals as goal

pub name-requires : goal.name-requires
name-requires c = record { closed = (c.args.limit, c.requires.closed) }

pub derivation_by-requires-clause-basis : goal.derivation_by-requires-clause-basis
derivation_by-requires-clause-basis c =
    let named = c.in_ok-named.ensures in
    let same = c.in_ok-sized.ensures in
    subst (λ (P : Problem). IsBasis (record { problem = P; tableau = the_tableau c.args.t.now; limit = c.args.limit; named = the_named c.in_ok-named.named; lines = the_names c.in_ok-names.names; atoms = c.as_slice.result.now; sizes = c.as_slice-2.result.now })) (sym same)
    (basis-of _ _ _ _ _ _ _ c.requires.closed c.formula.ensures.well named.numbering c.name_lines.ensures.few named.agenda named.order named.parents named.waits
    (c.in_ok-names.ensures.lines ∙ ap (λ (P : Problem). name_lines_of (number_of c.in_ok-named.named.names) P c.in_ok-named.named.names) same)
    (c.as_slice.ensures.value ∙ c.in_ok-atoms.ensures ∙ ap atoms_of c.formula.ensures.formula)
    (c.as_slice-2.ensures.value ∙ c.in_ok-sizes.ensures))

pub returns-clause-converted : goal.returns-clause-converted
returns-clause-converted c = subst (λ (P : Problem). IsConverted P c.args.limit (the_derivation c.in_ok-derivation.derivation)) c.in_ok-sized.ensures c.in_ok-derivation.ensures.converted

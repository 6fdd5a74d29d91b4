use Rattle.std.proofs.Common.{sym, ◌∙◌, ap, subst, IsTrue}
use Rattle.calculus.specs.DerivationText.{is_printable}
use Rattle.calculus.specs.declared.version.Version.TheVariants.{Two}
use Rattle.calculus.specs.Versions.{IsTextIn, numbering, stated}
use Rattle.calculus.proofs.VersionLaws.{stated-numbering}
use Rattle.sequent_calc.specs.DerivationView.{the_derivation}
use Rattle.derivation_text.proofs.writer.write_numbered.Goals as goal

pub write-requires : goal.write-requires
write-requires c =
    let same = ap stated c.in_ok-numbered.ensures ∙ stated-numbering (the_derivation c.args.d.now) in
    record {
      printable = subst (λ d. IsTrue (is_printable c.args.problem.now d)) (sym same) c.requires;
      numbers = c.in_ok-numbered.ensures ∙ ap numbering (sym same);
    }

pub returns : goal.returns
returns c =
    let same = ap stated c.in_ok-numbered.ensures ∙ stated-numbering (the_derivation c.args.d.now) in
    subst (λ d. IsTextIn Two c.args.problem.now d c.in_ok-text.text.items) same c.in_ok-text.ensures.text

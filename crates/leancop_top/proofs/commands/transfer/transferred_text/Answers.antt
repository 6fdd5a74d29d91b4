use Rattle.std.proofs.Common.{Err, IsTrue, ap, arith, subst, sym}
use Rattle.calculus.specs.Calculus.{Derives}
use Rattle.calculus.specs.declared.version.Version.TheVariants.{One}
use Rattle.calculus.specs.DerivationText.{is_printable}
use Rattle.derivation_check.proofs.Accepting.{accepted-in}
use Rattle.sequent_calc.specs.DerivationView.{the_derivation}
use Rattle.leancop_top.proofs.Theorems.{derived-theorem}
use Rattle.leancop_top.proofs.commands.transfer.transferred_text.Goals as goal

pub print-requires : goal.print-requires
print-requires c =
    subst (λ P. IsTrue (is_printable P (the_derivation c.in-Ok.transferred))) (sym c.requires.translated.same) c.in-Ok.ensures.printable

pub returns-in_ok-text-in-Ok : goal.returns-in_ok-text-in-Ok
returns-in_ok-text-in-Ok c =
    let P = c.args.translated.now in
    let d = the_derivation c.in-Ok.transferred in
    let derives = subst (λ Q. Derives Q d) (sym c.requires.translated.same) c.in-Ok.ensures.derives in
    let text = c.in_ok-text-in-Ok.ensures.text in
    let well = c.symbols-symbols.ensures.well in
    record {
      derivation = d;
      carries = c.in-Ok.ensures.limit;
      derives = derives;
      text = text;
      judged = accepted-in P well One d c.in_ok-text-in-Ok.text.items text derives;
      theorem = derived-theorem P well d text.printable derives;
    }

pub unreachable-requires : goal.unreachable-requires
unreachable-requires c =
    let h = c.in-Err-NestingTooDeep.ensures.deep.0 (ap Err c.in-Err-NestingTooDeep.field-0-is) in
    absurd (omega (arith, h, c.requires.translated.translatable.nests))

pub unreachable-requires-in-Err-FormulaTooLarge : goal.unreachable-requires-in-Err-FormulaTooLarge
unreachable-requires-in-Err-FormulaTooLarge c =
    let h = c.in-Err-FormulaTooLarge.ensures.large.0 (ap Err c.in-Err-FormulaTooLarge.field-0-is) in
    absurd (omega (arith, h.1, c.requires.translated.translatable.nodes))

-- What is refused for the size of a translation.
use Rattle.std.proofs.Common.{◌≡◌, ◌↔◌, ◌<◌, ◌≤◌, Option, Some, Result, Err, sym, ◌∙◌, ap, subst}
use Rattle.calculus.specs.Measures.{nesting, node_count}
use Rattle.calculus.specs.Syntax.{Formula}
use Rattle.calculus.specs.Translation.{translation_of}
use Rattle.godel_transfer.specs.declared.fault.TransferFault.{TransferFault}
use Rattle.godel_transfer.specs.declared.fault.TransferFault.TheVariants.{FormulaTooLarge, NestingTooDeep}

refused : {A P : Type 0} (o : Option TransferFault) (r : Result A TransferFault) (g f : TransferFault) → r ≡ Err g → o ≡ Some g → (o ≡ Some f) ↔ P → (r ≡ Err f) ↔ P
refused {A} {P} o r g f at is told = (λ e. told.0 (is ∙ ap Some (same e)), λ p. at ∙ ap Err (inner (sym is ∙ told.1 p)))
  where
    same : r ≡ Err f → g ≡ f
    same e = cc

    inner : Some g ≡ Some f → g ≡ f
    inner e = cc

pub deep-refused : {A : Type 0} (o : Option TransferFault) (r : Result A TransferFault) (g : TransferFault) (a b : Formula) → a ≡ b → r ≡ Err g → o ≡ Some g → (o ≡ Some NestingTooDeep) ↔ (1000 < nesting (translation_of a)) → (r ≡ Err NestingTooDeep) ↔ (1000 < nesting (translation_of b))
deep-refused o r g a b e at is told = refused o r g NestingTooDeep at is (subst (λ (f : Formula). (o ≡ Some NestingTooDeep) ↔ (1000 < nesting (translation_of f))) e told)

pub large-refused : {A : Type 0} (o : Option TransferFault) (r : Result A TransferFault) (g : TransferFault) (a b : Formula) → a ≡ b → r ≡ Err g → o ≡ Some g → (o ≡ Some FormulaTooLarge) ↔ ((nesting (translation_of a) ≤ 1000) × (4000000 < node_count (translation_of a))) → (r ≡ Err FormulaTooLarge) ↔ ((nesting (translation_of b) ≤ 1000) × (4000000 < node_count (translation_of b)))
large-refused o r g a b e at is told = refused o r g FormulaTooLarge at is (subst (λ (f : Formula). (o ≡ Some FormulaTooLarge) ↔ ((nesting (translation_of f) ≤ 1000) × (4000000 < node_count (translation_of f)))) e told)

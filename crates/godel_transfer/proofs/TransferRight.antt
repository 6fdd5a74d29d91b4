-- What the code makes of a derivation keeps the promise, and each way of refusing does.
use Rattle.std.proofs.Common.{◌≡◌, ℕ, ◌+◌, ◌*◌, ◌^◌, ◌<◌, length, IsTrue, sym, ◌∙◌, ap, subst}
use Rattle.calculus.specs.declared.setting.Logic.TheVariants.{Intuitionistic}
use Rattle.calculus.specs.Syntax.{Problem}
use Rattle.calculus.specs.Derivations.{Derivation}
use Rattle.calculus.specs.Calculus.{Derives}
use Rattle.calculus.specs.DerivationText.{is_printable}
use Rattle.calculus.specs.Problems.{is_problem}
use Rattle.calculus.specs.Translation.{translated_problem}
use Rattle.godel_transfer.specs.Sketch.{sketched}
use Rattle.godel_transfer.proofs.SketchLaws.{sketched-same}
use Rattle.godel_transfer.proofs.TransferLaws.{intuitionistic-setting, transfer-derives}
use Rattle.godel_transfer.proofs.TransferWritten.{transfer-printable}

pub record IsRight (P : Problem) (d r : Derivation) : Type 0 where
  pub derives : Derives (translated_problem P) r
  pub printable : IsTrue (is_printable (translated_problem P) r)
  pub limit : r.limit ≡ d.limit

pub sketched-right : (P : Problem) (d r : Derivation) → IsTrue (is_problem P) → P.setting.logic ≡ Intuitionistic → IsTrue (is_printable P d) → Derives P d → 3 * length d.steps + 1 < 2 ^ 32 → r ≡ sketched P d → IsRight P d r
sketched-right P d r is logic printable derives few same =
    let whole = same ∙ sketched-same P d (intuitionistic-setting P is logic) derives in
    record {
      derives = subst (Derives (translated_problem P)) (sym whole) (transfer-derives P d is logic derives);
      printable = subst (λ (x : Derivation). IsTrue (is_printable (translated_problem P) x)) (sym whole) (transfer-printable P d printable few);
      limit = ap (λ (x : Derivation). x.limit) whole;
    }

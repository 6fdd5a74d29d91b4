-- What has a derivation, or is accepted as having one, is a theorem.
use Rattle.std.proofs.Common.{ℕ, List, IsTrue}
use Rattle.calculus.proofs.SoundnessLaws.{derived-true}
use Rattle.calculus.proofs.TautologyLaws.{tautology}
use Rattle.calculus.specs.Calculus.{Derives}
use Rattle.calculus.specs.DerivationText.{is_printable}
use Rattle.calculus.specs.Derivations.{Derivation}
use Rattle.calculus.specs.Judgement.{accepted}
use Rattle.calculus.specs.Problems.{is_problem}
use Rattle.calculus.specs.Soundness.{IsTrueInStructures}
use Rattle.calculus.specs.Syntax.{Problem}
use Rattle.calculus.specs.VersionJudgement.{IsVersionJudgement}
use Rattle.derivation_theory.proofs.DerivedLaws.{accepted-closes, derived-closes}
use Rattle.leancop_top.specs.Derived.{HasTableau, IsTheorem}

by-truth : (P : Problem) → IsTrue (is_problem P) → IsTrueInStructures P → HasTableau P → IsTheorem P
by-truth P well true_in closed = record { true_in_structures = true_in; tautology = λ h. tautology P well h true_in; closed = closed }

pub derived-theorem : (P : Problem) → IsTrue (is_problem P) → (d : Derivation) → IsTrue (is_printable P d) → Derives P d → IsTheorem P
derived-theorem P well d printable derives = by-truth P well (derived-true P well d printable derives) (derived-closes P well d printable derives)

pub accepted-theorem : (P : Problem) → IsTrue (is_problem P) → IsTrueInStructures P → (bytes : List ℕ) → IsVersionJudgement P bytes accepted → IsTheorem P
accepted-theorem P well true_in bytes judged = by-truth P well true_in (accepted-closes P well bytes judged)

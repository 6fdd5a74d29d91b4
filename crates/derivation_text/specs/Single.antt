-- Bytes are the text of at most one derivation, in one version, and have at most one first wrong line: clauses of the reader.
use Rattle.std.specs.Prelude.{◌≡◌, ℕ, List, IsTrue}
use Rattle.calculus.specs.declared.setting.Logic.{Logic}
use Rattle.calculus.specs.declared.fault.TextCause.{TextCause}
use Rattle.calculus.specs.declared.version.Version.{Version}
use Rattle.calculus.specs.Syntax.{Formula, Problem}
use Rattle.calculus.specs.Problems.{formula_fits}
use Rattle.calculus.specs.Derivations.{Derivation}
use Rattle.calculus.specs.Versions.{IsTextIn}
use Rattle.calculus.specs.VersionJudgement.{IsTextFault}

abbrev pub AtMostOneInVersion : Problem → List ℕ → Type 0
AtMostOneInVersion P bytes = (v w : Version) (d e : Derivation) → IsTextIn v P d bytes → IsTextIn w P e bytes → (v ≡ w) × (d ≡ e)

abbrev pub AtMostOneTextFault : Problem → List ℕ → Type 0
AtMostOneTextFault P bytes = (m n : ℕ) (why other : TextCause) → IsTextFault P bytes m why → IsTextFault P bytes n other → (m ≡ n) × (why ≡ other)

-- what is the text of a derivation of the problem is that of no derivation of another formula that fits the symbols
abbrev pub AtMostOneFormula : Problem → List ℕ → Type 0
AtMostOneFormula P bytes = (l : Logic) (f : Formula) (v w : Version) (d e : Derivation) → IsTrue (formula_fits l P.symbols 0 f) → IsTextIn v P d bytes → IsTextIn w (record P { formula = f }) e bytes → f ≡ P.formula

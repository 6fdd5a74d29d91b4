-- At one place of a text there is at most one value, and different values have different texts: clauses of the readers and the writers.
use Rattle.std.specs.Prelude.{◌≡◌, ◌≤◌, ℕ, List, IsTrue}
use Rattle.calculus.specs.declared.setting.Logic.{Logic}
use Rattle.calculus.specs.Measures.{nesting}
use Rattle.calculus.specs.Syntax.{Symbol, Term, Formula}
use Rattle.calculus.specs.Problems.{are_distinct, formula_fits, greatest_nesting}
use Rattle.calculus.specs.Derivations.{Label}
use Rattle.calculus.specs.DerivationText.{IsTermAt, IsLabelAt, IsNameAt, label_is_written, term_is_written}
use Rattle.calculus.specs.Text.{formula_text, label_text, name_text, term_text}

abbrev pub AtMostOneName : Type 0
AtMostOneName = (bytes : List ℕ) (from to then : ℕ) (a b : List ℕ) → IsNameAt bytes from to a → IsNameAt bytes from then b → (a ≡ b) × (to ≡ then)

abbrev pub AtMostOneLabel : Type 0
AtMostOneLabel = (bytes : List ℕ) (from to then : ℕ) (w v : Label) → IsLabelAt bytes from to w → IsLabelAt bytes from then v → (w ≡ v) × (to ≡ then)

abbrev pub AtMostOneTerm : List Symbol → Type 0
AtMostOneTerm symbols = IsTrue (are_distinct symbols) → (bytes : List ℕ) (from to then : ℕ) (t u : Term) → IsTermAt symbols bytes from to t → IsTermAt symbols bytes from then u → (t ≡ u) × (to ≡ then)

-- ---- one text for one value

abbrev pub NameTextsDiffer : Type 0
NameTextsDiffer = (a b : List ℕ) → name_text a ≡ name_text b → a ≡ b

abbrev pub LabelTextsDiffer : Type 0
LabelTextsDiffer = (w v : Label) → IsTrue (label_is_written w) → IsTrue (label_is_written v) → label_text w ≡ label_text v → w ≡ v

abbrev pub TermTextsDiffer : List Symbol → Type 0
TermTextsDiffer symbols = IsTrue (are_distinct symbols) → (t u : Term) → IsTrue (term_is_written symbols t) → IsTrue (term_is_written symbols u) → term_text symbols 0 t ≡ term_text symbols 0 u → t ≡ u

-- a text with which one formula is written is that of no other
abbrev pub FormulaTextsDiffer : List Symbol → Type 0
FormulaTextsDiffer symbols = IsTrue (are_distinct symbols) → (l m : Logic) (f g : Formula) → IsTrue (formula_fits l symbols 0 f) → IsTrue (formula_fits m symbols 0 g) → nesting f ≤ greatest_nesting → formula_text symbols 0 f ≡ formula_text symbols 0 g → f ≡ g

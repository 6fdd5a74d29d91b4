-- Formulas with variables in place of their closed terms: these name elements, which stand behind those that are bound.
use Rattle.std.specs.Prelude.{◌≡◌, ℕ, ◌<◌, ◌≤◌, List, ◌++◌, length, min, true, slice_index}
use Rattle.calculus.specs.declared.setting.Logic.{Logic}
use Rattle.calculus.specs.Lists.{terms_tree}
use Rattle.calculus.specs.Measures.{nesting, term_nesting, terms_nesting}
use Rattle.calculus.specs.Structures.{Structure, place_of, term_value, term_values}
use Rattle.calculus.specs.StructureTruth.{told_at}
use Rattle.calculus.specs.Syntax.{Term, Formula}
use Rattle.formula_core.specs.TermView.{the_term}
use Rattle.finite_model.specs.declared.shortening.Short.{Short}
use Rattle.finite_model.specs.declared.shortening.Short.TheVariants.{Known, Open}
use Rattle.finite_model.specs.declared.shortening.ShortArgs.{ShortArgs}

-- each number of a byte at its place
abbrev pub AreElements : List ℕ → Type 0
AreElements els = (v : ℕ) → v < 256 → slice_index els v ≡ v

-- the term inside d quantifiers names what the other one does, where the elements stand behind those that are bound
pub record IsShortTerm (S : Structure) (d : ℕ) (t u : Term) : Type 0 where
  pub same : (els : List ℕ) → AreElements els → (env : List ℕ) → length env ≡ d → term_value S (env ++ els) u ≡ term_value S env t
  pub nests : term_nesting u ≤ term_nesting t

-- it names one element, whatever is bound
pub record IsKnown (S : Structure) (d : ℕ) (t : Term) (v : ℕ) : Type 0 where
  pub same : (env : List ℕ) → length env ≡ d → term_value S env t ≡ v
  pub byte : v < 256

abbrev pub IsShort : Structure → ℕ → Term → Short → Type 0
IsShort S d t (Known v) = IsKnown S d t v
IsShort S d t (Open u) = IsShortTerm S d t (the_term u)

pub record AreShort (S : Structure) (d : ℕ) (ts : List Term) (a : ShortArgs) : Type 0 where
  pub same : (els : List ℕ) → AreElements els → (env : List ℕ) → length env ≡ d → term_values S (env ++ els) (terms_tree a.terms) ≡ term_values S env (terms_tree ts)
  pub nests : terms_nesting (terms_tree a.terms) ≤ terms_nesting (terms_tree ts)
  pub known : a.is_known ≡ true → (env : List ℕ) → length env ≡ d → a.place ≡ min (place_of S (term_values S env (terms_tree ts))) 18446744073709551615

pub record IsShortFormula (S : Structure) (d : ℕ) (f g : Formula) : Type 0 where
  pub same : (l : Logic) (els : List ℕ) → AreElements els → (env : List ℕ) → length env ≡ d → (w : ℕ) → told_at l S g (env ++ els) w ≡ told_at l S f env w
  pub nests : nesting g ≤ nesting f

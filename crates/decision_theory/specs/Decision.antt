-- The propositions of a formula, each once, and truth values at which a problem's formula is false.
use Rattle.std.specs.Prelude.{◌≡◌, ℕ, List, [], ◌∷◌, length, Bool, false, IsTrue, if◌then◌else◌}
use Rattle.calculus.specs.Syntax.{Formula, atom, neg, conj, disj, imp, all, ex, box, dia, Problem}
use Rattle.calculus.specs.Equality.{contains}
use Rattle.calculus.specs.Propositional.{truth_value}
use Rattle.calculus.specs.Structures.{Structure, is_structure, is_true}

-- the list with this number, unless it has it
abbrev pub with_one : ℕ → List ℕ → List ℕ
with_one x ys = if contains ys x then ys else x ∷ ys

abbrev pub with_all : List ℕ → List ℕ → List ℕ
with_all [] ys = ys
with_all (x ∷ xs) ys = with_one x (with_all xs ys)

-- the predicate symbols of the formula, each once
abbrev pub propositions : Formula → List ℕ
propositions (atom p ts) = p ∷ []
propositions (neg a) = propositions a
propositions (conj a b) = with_all (propositions a) (propositions b)
propositions (disj a b) = with_all (propositions a) (propositions b)
propositions (imp a b) = with_all (propositions a) (propositions b)
propositions (all a) = propositions a
propositions (ex a) = propositions a
propositions (box a) = propositions a
propositions (dia a) = propositions a

abbrev pub proposition_count : Formula → ℕ
proposition_count f = length (propositions f)

-- truth values at which the formula is false
pub record IsRefuted (P : Problem) : Type 0 where
  pub values : ℕ → Bool
  pub false_there : truth_value values P.formula ≡ false

-- a finite structure of the problem's setting at whose root the formula is false
pub record HasCounterexample (P : Problem) : Type 0 where
  pub structure : Structure
  pub fits : IsTrue (is_structure P structure)
  pub false_there : is_true P structure ≡ false

-- An infinite structure: the worlds are the natural numbers in their order, the domain of w has the
-- numbers up to w, functions have the value 0 and atoms are true. So the conditions on structures
-- of any size are met by one that is not finite, and it refutes a formula.
use Rattle.std.proofs.Common.{◌≡◌, ℕ, [], ◌∷◌, Bool, true, false, not, ◌&&◌, ◌||◌, refl, IsTrue, arith, nat_le}
use Rattle.std.specs.Prelude.{codes}
use Rattle.std.proofs.lemmas.Bool.{and_from, leb-true, le-leb}
use Rattle.calculus.specs.declared.symbol.SymbolClass.TheVariants.{Predicate}
use Rattle.calculus.specs.declared.setting.Logic.{Logic}
use Rattle.calculus.specs.declared.setting.Logic.TheVariants.{Intuitionistic, S4}
use Rattle.calculus.specs.declared.setting.Domains.TheVariants.{Cumulative}
use Rattle.calculus.specs.Syntax.{no_terms, Formula, atom, neg, conj, disj, imp, all, ex, box, dia, setting_of, Problem}
use Rattle.calculus.specs.Models.{Model, ForAll, ForSome, FromHere, EachElement, HasTruth, IsModel}
use Rattle.calculus.specs.Soundness.{HasNoDerivation}
use Rattle.calculus.proofs.SoundnessLaws.{false-underived}

-- the truth value of a formula, which is the same at each world and with all elements
abbrev uniform : Formula → Bool
uniform (atom p ts) = true
uniform (neg a) = not (uniform a)
uniform (conj a b) = uniform a && uniform b
uniform (disj a b) = uniform a || uniform b
uniform (imp a b) = not (uniform a) || uniform b
uniform (all a) = uniform a
uniform (ex a) = uniform a
uniform (box a) = uniform a
uniform (dia a) = uniform a

abbrev line : Model ℕ ℕ
line = record {
  is_world = λ w. true;
  root = 0;
  reaches = λ w v. nat_le w v;
  is_in = λ w x. nat_le x w;
  element = 0;
  value = λ f xs. 0;
  holds = λ p w xs. true;
  truth = λ names a env w. uniform a;
}

all-uniform : {A : Type 0} (kind : A → Bool) (x : A) → IsTrue (kind x) → (b : Bool) → ForAll kind (λ y. b) b
all-uniform kind x k true = λ y m. refl
all-uniform kind x k false = (x, k, refl)

some-uniform : {A : Type 0} (kind : A → Bool) (x : A) → IsTrue (kind x) → (b : Bool) → ForSome kind (λ y. b) b
some-uniform kind x k true = (x, k, refl)
some-uniform kind x k false = λ y m. refl

itself : (w : ℕ) → nat_le w w ≡ true
itself w = le-leb w w (omega arith)

least : (w : ℕ) → nat_le 0 w ≡ true
least w = le-leb 0 w (omega arith)

from_here-uniform : (l : Logic) (w : ℕ) (b : Bool) → FromHere l line w (λ v. b) b
from_here-uniform Intuitionistic w b = all-uniform (nat_le w) w (itself w) b
from_here-uniform _ w b = refl

each_element-uniform : (l : Logic) (w : ℕ) (b : Bool) → EachElement l line w (λ v x. b) b
each_element-uniform Intuitionistic w b = all-uniform {A = ℕ × ℕ} (λ p. nat_le w p.0 && nat_le p.1 p.0) (w, 0) (and_from (nat_le w w) (nat_le 0 w) (itself w) (least w)) b
each_element-uniform _ w b = all-uniform (λ x. nat_le x w) 0 (least w) b

line-truth : (l : Logic) → HasTruth l line
line-truth l names (atom p ts) env w = from_here-uniform l w true
line-truth l names (neg a) env w = from_here-uniform l w (not (uniform a))
line-truth l names (conj a b) env w = refl
line-truth l names (disj a b) env w = refl
line-truth l names (imp a b) env w = from_here-uniform l w (not (uniform a) || uniform b)
line-truth l names (all a) env w = each_element-uniform l w (uniform a)
line-truth l names (ex a) env w = some-uniform (λ x. nat_le x w) 0 (least w) (uniform a)
line-truth l names (box a) env w = all-uniform (nat_le w) w (itself w) (uniform a)
line-truth l names (dia a) env w = some-uniform (nat_le w) w (itself w) (uniform a)

on : (w v u : ℕ) → nat_le w v ≡ true → nat_le v u ≡ true → nat_le w u ≡ true
on w v u a b =
    let first = leb-true w v a in
    let second = leb-true v u b in
    le-leb w u (omega (arith, first, second))

-- `~ #box: p` in S4, where domains grow
problem : Problem
problem = record { setting = setting_of S4 Cumulative; formula = neg (box (atom 0 no_terms)); symbols = record { name = codes "p"; class = Predicate; arity = 0 } ∷ [] }

line-model : IsModel problem line
unfolding problem
line-model = record {
  root = refl;
  successors = λ w v world reached. refl;
  inhabited = λ w world. (0, least w);
  relation = (λ w world. itself w, λ w v u world first second. on w v u first second);
  domains = λ w v x world step inside. on x w v inside step;
  functions = λ f xs h w world inside. least w;
  truth = line-truth S4;
}

underived : HasNoDerivation problem
unfolding problem
underived = false-underived problem refl line line-model (λ t. 0) refl

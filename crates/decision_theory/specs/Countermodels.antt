-- A structure of one world whose elements are the ground terms of a list, and finite countermodels.
use Rattle.std.specs.Prelude.{◌≡◌, ℕ, List, [], ◌∷◌, Bool, true, false, not, ◌&&◌, ◌||◌, get_or}
use Rattle.std.specs.List.{list_all, list_any}
use Rattle.calculus.specs.Syntax.{Term, Terms, var, fun, eigen, spare, no_terms, more_terms, Formula, atom, neg, conj, disj, imp, all, ex, box, dia, Problem}
use Rattle.calculus.specs.Ground.{GroundTerm, GroundTerms, g_fun, common, no_g_terms, more_g_terms}
use Rattle.calculus.specs.Equality.{ground_eq}
use Rattle.calculus.specs.Models.{Model, IsModel}
use Rattle.decision_theory.specs.Finite.{terms_of}

abbrev pub tree : List GroundTerm → GroundTerms
tree [] = no_g_terms
tree (t ∷ ts) = more_g_terms t (tree ts)

-- terms and truth with terms for names
abbrev mutual
  pub named_of : (Term → GroundTerm) → List GroundTerm → Term → GroundTerm
  named_of names env (var k) = get_or env k (common 0)
  named_of names env (fun f ts) = g_fun f (nameds_of names env ts)
  named_of names env (eigen n) = names (eigen n)
  named_of names env (spare n) = names (spare n)

  pub nameds_of : (Term → GroundTerm) → List GroundTerm → Terms → GroundTerms
  nameds_of names env no_terms = no_g_terms
  nameds_of names env (more_terms t ts) = more_g_terms (named_of names env t) (nameds_of names env ts)

abbrev pub truth_named : List GroundTerm → (ℕ → GroundTerms → Bool) → (Term → GroundTerm) → List GroundTerm → Formula → Bool
truth_named U v names env (atom p ts) = v p (nameds_of names env ts)
truth_named U v names env (neg a) = not (truth_named U v names env a)
truth_named U v names env (conj a b) = truth_named U v names env a && truth_named U v names env b
truth_named U v names env (disj a b) = truth_named U v names env a || truth_named U v names env b
truth_named U v names env (imp a b) = not (truth_named U v names env a) || truth_named U v names env b
truth_named U v names env (all a) = list_all (λ t. truth_named U v names (t ∷ env) a) U
truth_named U v names env (ex a) = list_any (λ t. truth_named U v names (t ∷ env) a) U
truth_named U v names env (box a) = truth_named U v names env a
truth_named U v names env (dia a) = truth_named U v names env a

abbrev pub is_one_of : List GroundTerm → GroundTerm → Bool
is_one_of U x = list_any (ground_eq x) U

-- one world, and these terms as elements
abbrev pub structure_over : List GroundTerm → (ℕ → GroundTerms → Bool) → Model (Unit {0}) GroundTerm
structure_over U v = record {
  is_world = λ w. true;
  root = tt;
  reaches = λ w u. true;
  is_in = λ w x. is_one_of U x;
  element = common 0;
  value = λ f xs. g_fun f (tree xs);
  holds = λ p w xs. v p (tree xs);
  truth = λ names a env w. truth_named U v names env a;
}

-- a structure of the problem's setting at whose root the formula is false, with finitely many elements: those of the list
pub record HasFiniteCountermodel (P : Problem) : Type 0 where
  pub values : ℕ → GroundTerms → Bool
  pub fits : IsModel P (structure_over (terms_of P) values)
  pub false_there : (structure_over (terms_of P) values).truth (λ t. common 0) P.formula [] tt ≡ false

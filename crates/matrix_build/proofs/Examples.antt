-- A worked problem of each logic: what its selections give.
use Rattle.std.specs.Prelude.{◌≡◌, [], ◌∷◌, Some, codes, refl}
use Rattle.calculus.specs.declared.sign.Sign.TheVariants.{T, F}
use Rattle.calculus.specs.declared.sign.Side.TheVariants.{Left, Right}
use Rattle.calculus.specs.declared.sort.Sort.TheVariants.{TermSort, StringSort}
use Rattle.calculus.specs.declared.symbol.SymbolClass.TheVariants.{Predicate}
use Rattle.calculus.specs.declared.setting.Logic.{Logic}
use Rattle.calculus.specs.declared.setting.Logic.TheVariants.{Classical, Intuitionistic, D, T as LogicT, S4, S5}
use Rattle.calculus.specs.declared.setting.Domains.TheVariants.{Constant}
use Rattle.calculus.specs.Clauses.{selections}
use Rattle.calculus.specs.Syntax.{Problem, Formula, atom, imp, all, ex, box, dia, var, no_terms, more_terms}
use Rattle.store_theory.specs.Patterns.{Pattern, p_var, p_eigen, p_new, no_patterns, more_patterns}
use Rattle.search_theory.specs.TemplateOf.{template_of}

abbrev problem : Logic → Formula → Problem
problem l f = record { setting = record { logic = l; domains = Constant }; formula = f; symbols = record { name = codes "p"; class = Predicate; arity = 1 } ∷ [] }

abbrev first : Pattern
first = p_var 0

abbrev mark : Pattern
mark = p_new 0 no_patterns

-- ?[X]:![Y]:(p(X) => p(Y)): the second clause has the eigenvariable of the inner quantifier by the value of the outer one
drinker-selections : selections (ex (all (imp (atom 0 (more_terms (var 1) no_terms)) (atom 0 (more_terms (var 0) no_terms))))) F ≡ (Left ∷ []) ∷ (Right ∷ []) ∷ []
drinker-selections = refl

drinker : template_of (problem Classical (ex (all (imp (atom 0 (more_terms (var 1) no_terms)) (atom 0 (more_terms (var 0) no_terms)))))) (Right ∷ []) ≡ Some (record {
  literals = record { sign = F; symbol = 0; args = p_eigen 1 (more_patterns first no_patterns) ∷ []; label = [] } ∷ [];
  strings = [];
  pis = 0;
  gammas = record { term = first; label = [] } ∷ [];
  sorts = TermSort ∷ [];
})
drinker = refl

abbrev p : Formula
p = atom 0 (more_terms (var 0) no_terms)

-- ![X]:p(X) => ?[X]:p(X) in intuitionistic logic: the implication, the universal quantifier and both atoms are steps
given : template_of (problem Intuitionistic (imp (all p) (ex p))) (Left ∷ []) ≡ Some (record {
  literals = record { sign = T; symbol = 0; args = p_var 1 ∷ []; label = mark ∷ first ∷ p_var 2 ∷ [] } ∷ [];
  strings = first ∷ p_var 2 ∷ [];
  pis = 1;
  gammas = record { term = p_var 1; label = mark ∷ first ∷ [] } ∷ [];
  sorts = StringSort ∷ TermSort ∷ StringSort ∷ [];
})
given = refl

shown : template_of (problem Intuitionistic (imp (all p) (ex p))) (Right ∷ []) ≡ Some (record {
  literals = record { sign = F; symbol = 0; args = first ∷ []; label = mark ∷ p_new 4 (more_patterns first no_patterns) ∷ [] } ∷ [];
  strings = [];
  pis = 2;
  gammas = record { term = first; label = mark ∷ [] } ∷ [];
  sorts = TermSort ∷ [];
})
shown = refl

abbrev q : Formula
q = atom 0 no_terms

-- box q => dia q in D: either part is reached by a string
seriality : template_of (problem D (imp (box q) (dia q))) (Right ∷ []) ≡ Some (record {
  literals = record { sign = F; symbol = 0; args = []; label = first ∷ [] } ∷ [];
  strings = first ∷ [];
  pis = 0;
  gammas = [];
  sorts = StringSort ∷ [];
})
seriality = refl

-- box q => q in T: the second part stands at the root
reflexivity : template_of (problem LogicT (imp (box q) q)) (Right ∷ []) ≡ Some (record {
  literals = record { sign = F; symbol = 0; args = []; label = [] } ∷ [];
  strings = [];
  pis = 0;
  gammas = [];
  sorts = [];
})
reflexivity = refl

-- box q => box box q in S4: a label keeps all its marks, in S5 the last one alone
transitivity : template_of (problem S4 (imp (box q) (box (box q)))) (Right ∷ []) ≡ Some (record {
  literals = record { sign = F; symbol = 0; args = []; label = p_new 3 no_patterns ∷ p_new 4 no_patterns ∷ [] } ∷ [];
  strings = [];
  pis = 2;
  gammas = [];
  sorts = [];
})
transitivity = refl

one-mark : template_of (problem S5 (imp (box q) (box (box q)))) (Right ∷ []) ≡ Some (record {
  literals = record { sign = F; symbol = 0; args = []; label = p_new 4 no_patterns ∷ [] } ∷ [];
  strings = [];
  pis = 2;
  gammas = [];
  sorts = [];
})
one-mark = refl

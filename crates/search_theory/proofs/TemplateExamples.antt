-- Templates that compute.
use Rattle.std.specs.Prelude.{◌≡◌, [], ◌∷◌, Some, codes, refl}
use Rattle.calculus.specs.declared.sign.Sign.TheVariants.{T, F}
use Rattle.calculus.specs.declared.sign.Side.TheVariants.{Left, Right}
use Rattle.calculus.specs.declared.sort.Sort.TheVariants.{TermSort, StringSort}
use Rattle.calculus.specs.declared.symbol.SymbolClass.TheVariants.{Predicate}
use Rattle.calculus.specs.declared.setting.Logic.{Logic}
use Rattle.calculus.specs.declared.setting.Logic.TheVariants.{Classical, S4}
use Rattle.calculus.specs.declared.setting.Domains.TheVariants.{Constant}
use Rattle.calculus.specs.Syntax.{Problem, Formula, atom, imp, all, ex, box, var, no_terms, more_terms}
use Rattle.store_theory.specs.Patterns.{p_var, p_eigen, p_new, no_patterns, more_patterns}
use Rattle.search_theory.specs.TemplateOf.{template_of}

abbrev problem : Logic → Formula → Problem
problem l f = record { setting = record { logic = l; domains = Constant }; formula = f; symbols = record { name = codes "d"; class = Predicate; arity = 1 } ∷ [] }

-- ?[X]:![Y]:(d(X) => d(Y))
abbrev drinker : Formula
drinker = ex (all (imp (atom 0 (more_terms (var 1) no_terms)) (atom 0 (more_terms (var 0) no_terms))))

drinker-right : template_of (problem Classical drinker) (Right ∷ []) ≡ Some (record {
  literals = record { sign = F; symbol = 0; args = p_eigen 1 (more_patterns (p_var 0) no_patterns) ∷ []; label = [] } ∷ [];
  strings = [];
  pis = 0;
  gammas = record { term = p_var 0; label = [] } ∷ [];
  sorts = TermSort ∷ [];
})
drinker-right = refl

-- box p => box p, with p for an atom without arguments
abbrev boxes : Formula
boxes = imp (box (atom 0 no_terms)) (box (atom 0 no_terms))

boxes-left : template_of (problem S4 boxes) (Left ∷ []) ≡ Some (record {
  literals = record { sign = T; symbol = 0; args = []; label = p_var 0 ∷ [] } ∷ [];
  strings = p_var 0 ∷ [];
  pis = 0;
  gammas = [];
  sorts = StringSort ∷ [];
})
boxes-left = refl

boxes-right : template_of (problem S4 boxes) (Right ∷ []) ≡ Some (record {
  literals = record { sign = F; symbol = 0; args = []; label = p_new 3 no_patterns ∷ [] } ∷ [];
  strings = [];
  pis = 1;
  gammas = [];
  sorts = [];
})
boxes-right = refl

-- The definitions at small formulas.
use Rattle.std.proofs.Common.{◌≡◌, List, [], ◌∷◌, true, false, refl}
use Rattle.calculus.specs.declared.sign.Sign.TheVariants.{F}
use Rattle.calculus.specs.declared.symbol.SymbolClass.TheVariants.{Function, Predicate}
use Rattle.calculus.specs.declared.setting.Logic.TheVariants.{Classical}
use Rattle.calculus.specs.declared.setting.Domains.TheVariants.{Constant}
use Rattle.calculus.specs.Syntax.{Symbol, var, no_terms, more_terms, Formula, atom, conj, imp, disj, neg, all, ex, setting_of, Problem}
use Rattle.calculus.specs.Ground.{g_fun, g_eigen, common, no_g_terms, no_values}
use Rattle.decision_theory.specs.Ranging.{instances_over}
use Rattle.decision_theory.specs.Atoms.{atom_count}
use Rattle.decision_theory.specs.Decision.{propositions, proposition_count}
use Rattle.decision_theory.specs.Finite.{is_flat, terms_of, has_constants_only}

abbrev p : Formula
p = atom 0 no_terms

abbrev q : Formula
q = atom 1 no_terms

-- p, p => q give q: two propositions
two : proposition_count (imp (conj p (imp p q)) q) ≡ 2
two = refl

some : propositions (disj p (neg p)) ≡ 0 ∷ []
some = refl

abbrev of_variable : Formula
of_variable = atom 0 (more_terms (var 0) no_terms)

-- from sign F the first quantifier is delta, the inner one gamma; and the other way round
delta_first : is_flat F (all (ex of_variable)) ≡ true
delta_first = refl

gamma_first : is_flat F (ex (all of_variable)) ≡ false
gamma_first = refl

abbrev symbols : List Symbol
symbols = record { name = 112 ∷ []; class = Predicate; arity = 1 } ∷ record { name = 99 ∷ []; class = Function; arity = 0 } ∷ []

-- p(X) for each X gives p(Y) for each Y, and a constant c
abbrev everywhere : Problem
everywhere = record { setting = setting_of Classical Constant; formula = imp (all of_variable) (all of_variable); symbols = symbols }

is-flat : is_flat F everywhere.formula ≡ true
is-flat = refl

constants-only : has_constants_only everywhere.symbols ≡ true
constants-only = refl

-- a spare constant, c, and the eigenvariable of position 3
its-terms : terms_of everywhere ≡ common 0 ∷ g_fun 1 no_g_terms ∷ g_eigen 3 no_values ∷ []
its-terms = refl

-- three atoms, over the three terms
its-atoms : atom_count (instances_over (terms_of everywhere) everywhere) ≡ 3
its-atoms = refl

-- Formulas without a derivation in one logic, each by a finite structure that makes it false.
use Rattle.std.proofs.Common.{ℕ, List, [], ◌∷◌, Bool, true, false, refl}
use Rattle.std.specs.Prelude.{codes}
use Rattle.calculus.specs.declared.symbol.SymbolClass.TheVariants.{Predicate}
use Rattle.calculus.specs.declared.setting.Logic.{Logic}
use Rattle.calculus.specs.declared.setting.Logic.TheVariants.{Classical, Intuitionistic, D, T as LogicT, S4, S5}
use Rattle.calculus.specs.declared.setting.Domains.{Domains}
use Rattle.calculus.specs.declared.setting.Domains.TheVariants.{Constant, Cumulative, Varying}
use Rattle.calculus.specs.Syntax.{var, no_terms, more_terms, Formula, atom, neg, disj, imp, all, box, dia, setting_of, Problem}
use Rattle.calculus.specs.Structures.{Structure, truth_tables}
use Rattle.calculus.specs.Soundness.{HasNoDerivation}
use Rattle.calculus.proofs.SoundnessLaws.{refuted-underived}

abbrev problem : Logic → Domains → ℕ → Formula → Problem
problem l d arity f = record { setting = setting_of l d; formula = f; symbols = record { name = codes "p"; class = Predicate; arity = arity } ∷ [] }

abbrev p : Formula
p = atom 0 no_terms

abbrev p_of_x : Formula
p_of_x = atom 0 (more_terms (var 0) no_terms)

-- one element, and p true at these worlds
abbrev propositional : List (List ℕ) → List (List ℕ) → List (List Bool) → Structure
propositional successors domains rows = record { elements = 1; successors = successors; domains = domains; meanings = truth_tables rows ∷ [] }

-- two elements, and p true of these at each world
abbrev with_two_elements : List (List ℕ) → List (List ℕ) → List (List Bool) → Structure
with_two_elements successors domains rows = record { elements = 2; successors = successors; domains = domains; meanings = truth_tables rows ∷ [] }

atom_classical : HasNoDerivation (problem Classical Constant 0 p)
atom_classical = refuted-underived _ refl (propositional ((0 ∷ []) ∷ []) ((0 ∷ []) ∷ []) ((false ∷ []) ∷ [])) refl refl

double_negation_intuitionistic : HasNoDerivation (problem Intuitionistic Cumulative 0 (imp (neg (neg p)) p))
double_negation_intuitionistic = refuted-underived _ refl (propositional ((0 ∷ 1 ∷ []) ∷ (1 ∷ []) ∷ []) ((0 ∷ []) ∷ (0 ∷ []) ∷ []) ((false ∷ []) ∷ (true ∷ []) ∷ [])) refl refl

excluded_middle_intuitionistic : HasNoDerivation (problem Intuitionistic Cumulative 0 (disj p (neg p)))
excluded_middle_intuitionistic = refuted-underived _ refl (propositional ((0 ∷ 1 ∷ []) ∷ (1 ∷ []) ∷ []) ((0 ∷ []) ∷ (0 ∷ []) ∷ []) ((false ∷ []) ∷ (true ∷ []) ∷ [])) refl refl

reflexive_d : HasNoDerivation (problem D Constant 0 (imp (box p) p))
reflexive_d = refuted-underived _ refl (propositional ((1 ∷ []) ∷ (1 ∷ []) ∷ []) ((0 ∷ []) ∷ (0 ∷ []) ∷ []) ((false ∷ []) ∷ (true ∷ []) ∷ [])) refl refl

transitive_t : HasNoDerivation (problem LogicT Constant 0 (imp (box p) (box (box p))))
transitive_t = refuted-underived _ refl (propositional ((0 ∷ 1 ∷ []) ∷ (1 ∷ 2 ∷ []) ∷ (2 ∷ []) ∷ []) ((0 ∷ []) ∷ (0 ∷ []) ∷ (0 ∷ []) ∷ []) ((true ∷ []) ∷ (true ∷ []) ∷ (false ∷ []) ∷ [])) refl refl

euclidean_s4 : HasNoDerivation (problem S4 Constant 0 (imp (dia p) (box (dia p))))
euclidean_s4 = refuted-underived _ refl (propositional ((0 ∷ 1 ∷ 2 ∷ []) ∷ (1 ∷ []) ∷ (2 ∷ []) ∷ []) ((0 ∷ []) ∷ (0 ∷ []) ∷ (0 ∷ []) ∷ []) ((false ∷ []) ∷ (true ∷ []) ∷ (false ∷ []) ∷ [])) refl refl

possible_s5 : HasNoDerivation (problem S5 Constant 0 (imp (dia p) (box p)))
possible_s5 = refuted-underived _ refl (propositional ((0 ∷ 1 ∷ []) ∷ (0 ∷ 1 ∷ []) ∷ []) ((0 ∷ []) ∷ (0 ∷ []) ∷ []) ((true ∷ []) ∷ (false ∷ []) ∷ [])) refl refl

-- Barcan's formula where domains grow and where they vary, and its converse where they vary
barcan_cumulative : HasNoDerivation (problem LogicT Cumulative 1 (imp (all (box p_of_x)) (box (all p_of_x))))
barcan_cumulative = refuted-underived _ refl (with_two_elements ((0 ∷ 1 ∷ []) ∷ (1 ∷ []) ∷ []) ((0 ∷ []) ∷ (0 ∷ 1 ∷ []) ∷ []) ((true ∷ true ∷ []) ∷ (true ∷ false ∷ []) ∷ [])) refl refl

barcan_varying : HasNoDerivation (problem S4 Varying 1 (imp (all (box p_of_x)) (box (all p_of_x))))
barcan_varying = refuted-underived _ refl (with_two_elements ((0 ∷ 1 ∷ []) ∷ (1 ∷ []) ∷ []) ((0 ∷ []) ∷ (1 ∷ []) ∷ []) ((true ∷ false ∷ []) ∷ (true ∷ false ∷ []) ∷ [])) refl refl

converse_varying : HasNoDerivation (problem S5 Varying 1 (imp (box (all p_of_x)) (all (box p_of_x))))
converse_varying = refuted-underived _ refl (with_two_elements ((0 ∷ 1 ∷ []) ∷ (0 ∷ 1 ∷ []) ∷ []) ((0 ∷ []) ∷ (1 ∷ []) ∷ []) ((true ∷ false ∷ []) ∷ (false ∷ true ∷ []) ∷ [])) refl refl

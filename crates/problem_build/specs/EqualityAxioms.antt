-- The axioms of equality over the symbols of a problem.
use Rattle.std.specs.Prelude.{ℕ, zero, suc, ◌+◌, List, [], ◌∷◌, ◌++◌}
use Rattle.calculus.specs.declared.symbol.SymbolClass.{SymbolClass}
use Rattle.calculus.specs.declared.symbol.SymbolClass.TheVariants.{Function, Predicate}
use Rattle.calculus.specs.Syntax.{Symbol, Term, var, fun, Formula, atom, conj, imp, all}
use Rattle.calculus.specs.Lists.{terms_tree}
use Rattle.tptp_reader.specs.declared.source.ChainKind.TheVariants.{And}
use Rattle.problem_build.specs.Expansion.{equality_atom, joined_chain}

abbrev pub for_all_times : ℕ → Formula → Formula
for_all_times zero a = a
for_all_times (suc n) a = all (for_all_times n a)

-- n variables of neighbouring quantifiers, the outermost first; k quantifiers stand inside of these
abbrev pub variables : ℕ → ℕ → List Term
variables k zero = []
variables k (suc n) = var (k + n) ∷ variables k n

-- the equations between the terms of two lists
abbrev pub equations : List Symbol → List Term → List Term → List Formula
equations symbols (s ∷ ss) (t ∷ ts) = equality_atom symbols s t ∷ equations symbols ss ts
equations symbols _ _ = []

-- the conjunction of these; the empty one does not come
abbrev pub conjoined : List Symbol → List Formula → Formula
conjoined symbols equations = joined_chain And symbols equations

-- ![X1]:(X1 = X1)
abbrev pub reflexivity : List Symbol → Formula
reflexivity symbols = for_all_times 1 (equality_atom symbols (var 0) (var 0))

-- ![X1]:![X2]:((X1 = X2) => (X2 = X1))
abbrev pub symmetry : List Symbol → Formula
symmetry symbols = for_all_times 2 (imp (equality_atom symbols (var 1) (var 0)) (equality_atom symbols (var 0) (var 1)))

-- ![X1]:![X2]:![X3]:(((X1 = X2) & (X2 = X3)) => (X1 = X3))
abbrev pub transitivity : List Symbol → Formula
transitivity symbols =
    for_all_times 3 (imp (conj (equality_atom symbols (var 2) (var 1)) (equality_atom symbols (var 1) (var 0))) (equality_atom symbols (var 2) (var 0)))

-- X1 to Xn and Xn+1 to X2n, inside of 2n quantifiers
abbrev pub left_variables : ℕ → List Term
left_variables n = variables n n

abbrev pub right_variables : ℕ → List Term
right_variables n = variables 0 n

-- Xi = Xn+i, for i from 1 to n
abbrev pub equal_arguments : List Symbol → ℕ → Formula
equal_arguments symbols n = conjoined symbols (equations symbols (left_variables n) (right_variables n))

-- for the function symbol of this number with n arguments: equal arguments give equal values
abbrev pub function_axiom : List Symbol → ℕ → ℕ → Formula
function_axiom symbols f n =
    for_all_times (n + n) (imp (equal_arguments symbols n)
    (equality_atom symbols (fun f (terms_tree (left_variables n))) (fun f (terms_tree (right_variables n)))))

-- for a predicate symbol: what holds of arguments holds of equal ones
abbrev pub predicate_axiom : List Symbol → ℕ → ℕ → Formula
predicate_axiom symbols p n =
    for_all_times (n + n) (imp (conj (equal_arguments symbols n) (atom p (terms_tree (left_variables n))))
    (atom p (terms_tree (right_variables n))))

-- symbols without arguments have no axiom
abbrev pub congruence_of_function : List Symbol → ℕ → SymbolClass → ℕ → List Formula
congruence_of_function symbols k Function (suc n) = function_axiom symbols k (suc n) ∷ []
congruence_of_function symbols k _ _ = []

abbrev pub congruence_of_predicate : List Symbol → ℕ → SymbolClass → ℕ → List Formula
congruence_of_predicate symbols k Predicate (suc n) = predicate_axiom symbols k (suc n) ∷ []
congruence_of_predicate symbols k _ _ = []

-- one after the other for these symbols, the first of which has the number k
abbrev pub for_each : (ℕ → SymbolClass → ℕ → List Formula) → ℕ → List Symbol → List Formula
for_each axioms k [] = []
for_each axioms k (s ∷ ss) = axioms k s.class s.arity ++ for_each axioms (suc k) ss

abbrev pub equality_axioms : List Symbol → List Formula
equality_axioms symbols =
    reflexivity symbols ∷ symmetry symbols ∷ transitivity symbols
    ∷ (for_each (congruence_of_function symbols) 0 symbols ++ for_each (congruence_of_predicate symbols) 0 symbols)

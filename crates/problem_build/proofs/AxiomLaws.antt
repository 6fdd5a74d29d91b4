-- The axioms of equality are closed and fit the symbols.
use Rattle.std.proofs.Common.{◌≡◌, ℕ, zero, suc, ◌+◌, ◌<◌, ◌≤◌, Bool, true, false, ◌&&◌, ◌==◌, List, [], ◌∷◌, ◌++◌, Some, length, slice_get, IsTrue, refl, sym, ◌∙◌, ap, arith, subst, append_assoc}
use Rattle.std.specs.Prelude.{nat_lt}
use Rattle.std.specs.List.{list_all, list_any}
use Rattle.std.specs.Option.{option_map_or}
use Rattle.std.proofs.lemmas.Bool.{and_from, lt-ltb}
use Rattle.std.proofs.lemmas.List.{length-append}
use Rattle.std.proofs.lemmas.List.Folds.{list_all-append}
use Rattle.calculus.specs.declared.symbol.SymbolClass.{SymbolClass}
use Rattle.calculus.specs.declared.symbol.SymbolClass.TheVariants.{Function, Predicate, Equality, Truth}
use Rattle.calculus.specs.declared.setting.Logic.{Logic}
use Rattle.calculus.specs.Equality.{symbol_eq}
use Rattle.calculus.specs.Lists.{terms_tree}
use Rattle.calculus.specs.Problems.{formula_fits, has_predicate, is_atom_class, term_fits_in, terms_fit_in}
use Rattle.calculus.specs.Skolem.{has_function, is_function}
use Rattle.calculus.specs.Syntax.{Symbol, var, fun, Formula, atom, arity_of}
use Rattle.tptp_reader.specs.declared.source.ChainKind.TheVariants.{And}
use Rattle.problem_build.specs.Expansion.{equality_atom, equality_symbol}
use Rattle.problem_build.specs.EqualityAxioms.{congruence_of_function, congruence_of_predicate, equal_arguments, equations, for_all_times, for_each, function_axiom, left_variables, predicate_axiom, right_variables, variables}
use Rattle.problem_build.proofs.ExpansionLaws.{equality-fits, joined-fits, same-number}

variables-arity : (k n : ℕ) → arity_of (terms_tree (variables k n)) ≡ n
variables-arity k zero = refl
variables-arity k (suc n) = ap suc (variables-arity k n)

variable-fits : (symbols : List Symbol) (d k : ℕ) → k < d → IsTrue (term_fits_in symbols d (var k))
variable-fits symbols d k h = lt-ltb k d h

variables-fit : (symbols : List Symbol) (d k n : ℕ) → k + n ≤ d → IsTrue (terms_fit_in symbols d (terms_tree (variables k n)))
variables-fit symbols d k zero h = refl
variables-fit symbols d k (suc n) h =
    and_from (nat_lt (k + n) d) (terms_fit_in symbols d (terms_tree (variables k n))) (variable-fits symbols d (k + n) (omega arith)) (variables-fit symbols d k n (omega arith))

all-times-fits : (l : Logic) (symbols : List Symbol) (n d : ℕ) (f : Formula) → formula_fits l symbols d (for_all_times n f) ≡ formula_fits l symbols (n + d) f
all-times-fits l symbols zero d f = let z : d ≡ 0 + d = omega arith in ap (λ m. formula_fits l symbols m f) z
all-times-fits l symbols (suc n) d f = all-times-fits l symbols n (suc d) f ∙ ap (λ m. formula_fits l symbols m f) (later n d)
  where
    later : (n d : ℕ) → n + suc d ≡ suc n + d
    later n d = omega arith

equations-fit : (l : Logic) (symbols : List Symbol) (d j k n : ℕ) → IsTrue (list_any (symbol_eq equality_symbol) symbols) → j + n ≤ d → k + n ≤ d
    → IsTrue (list_all (formula_fits l symbols d) (equations symbols (variables j n) (variables k n)))
equations-fit l symbols d j k zero e h i = refl
equations-fit l symbols d j k (suc n) e h i =
    and_from (formula_fits l symbols d (equality_atom symbols (var (j + n)) (var (k + n)))) (list_all (formula_fits l symbols d) (equations symbols (variables j n) (variables k n)))
    (equality-fits l symbols d (var (j + n)) (var (k + n)) e (variable-fits symbols d (j + n) (omega arith)) (variable-fits symbols d (k + n) (omega arith)))
    (equations-fit l symbols d j k n e (omega arith) (omega arith))

equal_arguments-fit : (l : Logic) (symbols : List Symbol) (d n : ℕ) → IsTrue (list_any (symbol_eq equality_symbol) symbols) → suc n + suc n ≤ d
    → IsTrue (formula_fits l symbols d (equal_arguments symbols (suc n)))
equal_arguments-fit l symbols d n e h =
    joined-fits And l symbols d (equality_atom symbols (var (suc n + n)) (var (0 + n))) (equations symbols (variables (suc n) n) (variables 0 n))
    (equations-fit l symbols d (suc n) 0 (suc n) e h (omega arith))

function_axiom-fits : (l : Logic) (symbols : List Symbol) (f n : ℕ) → IsTrue (list_any (symbol_eq equality_symbol) symbols) → IsTrue (has_function symbols f (suc n))
    → IsTrue (formula_fits l symbols 0 (function_axiom symbols f (suc n)))
function_axiom-fits l symbols f n e h =
    all-times-fits l symbols (suc n + suc n) 0 _
    ∙ and_from (formula_fits l symbols ((suc n + suc n) + 0) (equal_arguments symbols (suc n))) (formula_fits l symbols ((suc n + suc n) + 0) (equality_atom symbols (fun f (terms_tree (left_variables (suc n)))) (fun f (terms_tree (right_variables (suc n))))))
    (equal_arguments-fit l symbols ((suc n + suc n) + 0) n e (omega arith))
    (equality-fits l symbols ((suc n + suc n) + 0) (fun f (terms_tree (left_variables (suc n)))) (fun f (terms_tree (right_variables (suc n)))) e
    (value (suc n) (omega arith)) (value 0 (omega arith)))
  where
    value : (k : ℕ) → k + suc n ≤ (suc n + suc n) + 0 → IsTrue (term_fits_in symbols ((suc n + suc n) + 0) (fun f (terms_tree (variables k (suc n)))))
    value k w = and_from (has_function symbols f (arity_of (terms_tree (variables k (suc n))))) (terms_fit_in symbols ((suc n + suc n) + 0) (terms_tree (variables k (suc n))))
        (ap (has_function symbols f) (variables-arity k (suc n)) ∙ h) (variables-fit symbols ((suc n + suc n) + 0) k (suc n) w)

predicate_axiom-fits : (l : Logic) (symbols : List Symbol) (p n : ℕ) → IsTrue (list_any (symbol_eq equality_symbol) symbols) → IsTrue (has_predicate symbols p (suc n))
    → IsTrue (formula_fits l symbols 0 (predicate_axiom symbols p (suc n)))
predicate_axiom-fits l symbols p n e h =
    all-times-fits l symbols (suc n + suc n) 0 _
    ∙ and_from (formula_fits l symbols ((suc n + suc n) + 0) (equal_arguments symbols (suc n)) && formula_fits l symbols ((suc n + suc n) + 0) (atom p (terms_tree (left_variables (suc n)))))
    (formula_fits l symbols ((suc n + suc n) + 0) (atom p (terms_tree (right_variables (suc n)))))
    (and_from (formula_fits l symbols ((suc n + suc n) + 0) (equal_arguments symbols (suc n))) (formula_fits l symbols ((suc n + suc n) + 0) (atom p (terms_tree (left_variables (suc n)))))
    (equal_arguments-fit l symbols ((suc n + suc n) + 0) n e (omega arith)) (value (suc n) (omega arith)))
    (value 0 (omega arith))
  where
    value : (k : ℕ) → k + suc n ≤ (suc n + suc n) + 0 → IsTrue (formula_fits l symbols ((suc n + suc n) + 0) (atom p (terms_tree (variables k (suc n)))))
    value k w = and_from (has_predicate symbols p (arity_of (terms_tree (variables k (suc n))))) (terms_fit_in symbols ((suc n + suc n) + 0) (terms_tree (variables k (suc n))))
        (ap (has_predicate symbols p) (variables-arity k (suc n)) ∙ h) (variables-fit symbols ((suc n + suc n) + 0) k (suc n) w)

-- ---- all of them

pub for_each-fits : (test : Formula → Bool) (axioms : ℕ → SymbolClass → ℕ → List Formula) (symbols front ss : List Symbol) → symbols ≡ front ++ ss
    → ((k : ℕ) (s : Symbol) → slice_get symbols k ≡ Some s → IsTrue (list_all test (axioms k s.class s.arity))) → IsTrue (list_all test (for_each axioms (length front) ss))
for_each-fits test axioms symbols front [] e h = refl
for_each-fits test axioms symbols front (s ∷ ss) e h =
    list_all-append test (axioms (length front) s.class s.arity) (for_each axioms (suc (length front)) ss)
    ∙ and_from (list_all test (axioms (length front) s.class s.arity)) (list_all test (for_each axioms (suc (length front)) ss))
    (h (length front) s (ap (λ zs. slice_get zs (length front)) e ∙ at_end front s ss))
    (subst (λ k. IsTrue (list_all test (for_each axioms k ss))) (longer front s) (for_each-fits test axioms symbols (front ++ s ∷ []) ss (e ∙ sym (append_assoc front (s ∷ []) ss)) h))
  where
    at_end : (front : List Symbol) (s : Symbol) (ss : List Symbol) → slice_get (front ++ s ∷ ss) (length front) ≡ Some s
    at_end [] s ss = refl
    at_end (x ∷ xs) s ss = at_end xs s ss

    longer : (front : List Symbol) (s : Symbol) → length (front ++ s ∷ []) ≡ suc (length front)
    longer front s = omega (arith, length-append front (s ∷ []))

pub functions-fit : (l : Logic) (symbols : List Symbol) → IsTrue (list_any (symbol_eq equality_symbol) symbols) → (k : ℕ) (s : Symbol) → slice_get symbols k ≡ Some s
    → IsTrue (list_all (formula_fits l symbols 0) (congruence_of_function symbols k s.class s.arity))
functions-fit l symbols e k s h = by s.class s.arity refl refl
  where
    by : (c : SymbolClass) (n : ℕ) → s.class ≡ c → s.arity ≡ n → IsTrue (list_all (formula_fits l symbols 0) (congruence_of_function symbols k c n))
    by Function zero p q = refl
    by Function (suc n) p q =
        and_from (formula_fits l symbols 0 (function_axiom symbols k (suc n))) true
        (function_axiom-fits l symbols k n e (ap (λ o. option_map_or (λ (s : Symbol). is_function s.class && s.arity == suc n) o false) h ∙ and_from (is_function s.class) (s.arity == suc n) (ap is_function p) (ap (λ m. m == suc n) q ∙ same-number (suc n)))) refl
    by Predicate n p q = refl
    by Equality n p q = refl
    by Truth n p q = refl

pub predicates-fit : (l : Logic) (symbols : List Symbol) → IsTrue (list_any (symbol_eq equality_symbol) symbols) → (k : ℕ) (s : Symbol) → slice_get symbols k ≡ Some s
    → IsTrue (list_all (formula_fits l symbols 0) (congruence_of_predicate symbols k s.class s.arity))
predicates-fit l symbols e k s h = by s.class s.arity refl refl
  where
    by : (c : SymbolClass) (n : ℕ) → s.class ≡ c → s.arity ≡ n → IsTrue (list_all (formula_fits l symbols 0) (congruence_of_predicate symbols k c n))
    by Predicate zero p q = refl
    by Predicate (suc n) p q =
        and_from (formula_fits l symbols 0 (predicate_axiom symbols k (suc n))) true
        (predicate_axiom-fits l symbols k n e (ap (λ o. option_map_or (λ (s : Symbol). is_atom_class s.class && s.arity == suc n) o false) h ∙ and_from (is_atom_class s.class) (s.arity == suc n) (ap is_atom_class p) (ap (λ m. m == suc n) q ∙ same-number (suc n)))) refl
    by Function n p q = refl
    by Equality n p q = refl
    by Truth n p q = refl

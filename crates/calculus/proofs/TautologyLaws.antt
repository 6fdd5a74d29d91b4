-- A propositional problem that is true in each structure is a tautology: truth values of its propositions make a structure with one
-- world and one element.
use Rattle.std.proofs.Common.{◌≡◌, ℕ, zero, suc, ◌+◌, ◌^◌, List, [], ◌∷◌, Bool, true, false, not, ◌&&◌, ◌||◌, ◌==◌, IsTrue, refl, sym, ◌∙◌, ap, subst, arith, eq-eqb, slice_get, if◌then◌else◌}
use Rattle.std.specs.List.{list_all}
use Rattle.std.specs.Option.{option_map_or}
use Rattle.std.proofs.lemmas.Bool.{false≢true, and_parts, and_from}
use Rattle.plain_laws.proofs.Numbers.{one-power}
use Rattle.calculus.specs.Equality.{contains}
use Rattle.calculus.specs.declared.symbol.SymbolClass.{SymbolClass}
use Rattle.calculus.specs.declared.symbol.SymbolClass.TheVariants.{Function, Predicate, Equality, Truth}
use Rattle.calculus.specs.declared.setting.Logic.TheVariants.{Classical}
use Rattle.calculus.specs.declared.setting.Domains.{Domains}
use Rattle.calculus.specs.declared.setting.Domains.TheVariants.{Constant, Cumulative, Varying}
use Rattle.calculus.specs.Syntax.{Symbol, no_terms, more_terms, Formula, atom, neg, conj, disj, imp, Problem}
use Rattle.calculus.specs.Problems.{is_atom_class, has_predicate, formula_fits, is_problem}
use Rattle.calculus.specs.Propositional.{is_propositional, IsPropositional, truth_value, IsTautology}
use Rattle.calculus.specs.Skolem.{is_function}
use Rattle.calculus.specs.Structures.{Meaning, value_table, truth_tables, Structure, value_in, truth_in, function_value, place_of, tuples, is_table, are_tables, functions_fit, keeps_domains, domains_fit, is_structure, is_true_at}
use Rattle.calculus.specs.Soundness.{IsTrueInStructures}
use Rattle.calculus.proofs.SoundnessLaws.{fits-problem}

-- ---- the structure

abbrev pub meaning_by : Bool → SymbolClass → Meaning
meaning_by b Function = value_table (0 ∷ [])
meaning_by b _ = truth_tables ((b ∷ []) ∷ [])

abbrev pub meanings_by : (ℕ → Bool) → ℕ → List Symbol → List Meaning
meanings_by v k [] = []
meanings_by v k (s ∷ ss) = meaning_by (v k) s.class ∷ meanings_by v (suc k) ss

abbrev pub structure_by : (ℕ → Bool) → Problem → Structure
structure_by v P = record { elements = 1; successors = (0 ∷ []) ∷ []; domains = (0 ∷ []) ∷ []; meanings = meanings_by v 0 P.symbols }

-- ---- it is one of the setting

table-by : (v : ℕ → Bool) (P : Problem) (b : Bool) (s : Symbol) → is_table (structure_by v P) s (meaning_by b s.class) ≡ true
table-by v P b s = by s.class refl
  where
    sized : 1 == 1 ^ s.arity ≡ true
    sized = eq-eqb 1 (1 ^ s.arity) (sym (one-power s.arity))

    by : (c : SymbolClass) → s.class ≡ c → is_table (structure_by v P) s (meaning_by b s.class) ≡ true
    by Function e = rw (e, sized) refl
    by Predicate e = rw (e, sized) refl
    by Equality e = rw (e, sized) refl
    by Truth e = rw (e, sized) refl

tables-by : (v : ℕ → Bool) (P : Problem) (k : ℕ) (ss : List Symbol) → are_tables (structure_by v P) ss (meanings_by v k ss) ≡ true
tables-by v P k [] = refl
tables-by v P k (s ∷ ss) = and_from (is_table (structure_by v P) s (meaning_by (v k) s.class)) (are_tables (structure_by v P) ss (meanings_by v (suc k) ss)) (table-by v P (v k) s) (tables-by v P (suc k) ss)

-- each function has the value 0
value-zero : (b : Bool) (c : SymbolClass) (place : ℕ) → value_in place (meaning_by b c) ≡ 0
value-zero b Function zero = refl
value-zero b Function (suc n) = refl
value-zero b _ place = refl

function-zero : (v : ℕ → Bool) (k : ℕ) (ss : List Symbol) (f place : ℕ) → option_map_or (value_in place) (slice_get (meanings_by v k ss) f) 0 ≡ 0
function-zero v k [] f place = refl
function-zero v k (s ∷ ss) zero place = value-zero (v k) s.class place
function-zero v k (s ∷ ss) (suc f) place = function-zero v (suc k) ss f place

all-pass : {A : Type 0} (p : A → Bool) → ((x : A) → p x ≡ true) → (xs : List A) → list_all p xs ≡ true
all-pass p h [] = refl
all-pass p h (x ∷ xs) = and_from (p x) (list_all p xs) (h x) (all-pass p h xs)

keeps-by : (v : ℕ → Bool) (P : Problem) (f n : ℕ) → keeps_domains (structure_by v P) f n ≡ true
keeps-by v P f n =
    let S = structure_by v P in
    and_from (list_all (λ xs. contains (0 ∷ []) (function_value S f xs)) (tuples n (0 ∷ []))) true (all-pass (λ xs. contains (0 ∷ []) (function_value S f xs)) (λ xs. ap (contains (0 ∷ [])) (function-zero v 0 P.symbols f (place_of S xs))) (tuples n (0 ∷ []))) refl

functions-by : (v : ℕ → Bool) (P : Problem) (k : ℕ) (ss : List Symbol) → functions_fit (structure_by v P) k ss ≡ true
functions-by v P k [] = refl
functions-by v P k (s ∷ ss) =
    let S = structure_by v P in
    and_from (if is_function s.class then keeps_domains S k s.arity else true) (functions_fit S (suc k) ss) (by (is_function s.class)) (functions-by v P (suc k) ss)
  where
    by : (b : Bool) → (if b then keeps_domains (structure_by v P) k s.arity else true) ≡ true
    by true = keeps-by v P k s.arity
    by false = refl

domains-by : (v : ℕ → Bool) (P : Problem) (d : Domains) → domains_fit d (structure_by v P) ≡ true
domains-by v P Constant = refl
domains-by v P Cumulative = refl
domains-by v P Varying = refl

pub structure-by : (v : ℕ → Bool) (P : Problem) → P.setting.logic ≡ Classical → is_structure P (structure_by v P) ≡ true
structure-by v P classical =
    let S = structure_by v P in
    rw (classical, tables-by v P 0 P.symbols, domains-by v P P.setting.domains, functions-by v P 0 P.symbols) refl

-- ---- truth there

symbol-truth : (v : ℕ → Bool) (k : ℕ) (ss : List Symbol) (p : ℕ) → has_predicate ss p 0 ≡ true → option_map_or (truth_in 0 0) (slice_get (meanings_by v k ss) p) false ≡ v (k + p)
symbol-truth v k [] p h = absurd (false≢true h)
symbol-truth v k (s ∷ ss) zero h =
    let place : k ≡ k + 0 = omega arith in
    by s.class (and_parts (is_atom_class s.class) (s.arity == 0) h).0 ∙ ap v place
  where
    by : (c : SymbolClass) → is_atom_class c ≡ true → truth_in 0 0 (meaning_by (v k) c) ≡ v k
    by Function e = absurd (false≢true e)
    by _ e = refl
symbol-truth v k (s ∷ ss) (suc p) h =
    let place : suc k + p ≡ k + suc p = omega arith in
    symbol-truth v (suc k) ss p h ∙ ap v place

pub truth-by : (v : ℕ → Bool) (P : Problem) (a : Formula) → is_propositional a ≡ true → formula_fits Classical P.symbols 0 a ≡ true → is_true_at Classical (structure_by v P) a [] 0 ≡ truth_value v a
truth-by v P (atom p no_terms) h fits =
    let place : 0 + p ≡ p = omega arith in
    symbol-truth v 0 P.symbols p (and_parts (has_predicate P.symbols p 0) true fits).0 ∙ ap v place
truth-by v P (atom p (more_terms t ts)) h fits = absurd (false≢true h)
truth-by v P (neg a) h fits = ap not (truth-by v P a h fits)
truth-by v P (conj a b) h fits =
    let parts = and_parts (is_propositional a) (is_propositional b) h in
    let fit = and_parts (formula_fits Classical P.symbols 0 a) (formula_fits Classical P.symbols 0 b) fits in
    λ i. truth-by v P a parts.0 fit.0 i && truth-by v P b parts.1 fit.1 i
truth-by v P (disj a b) h fits =
    let parts = and_parts (is_propositional a) (is_propositional b) h in
    let fit = and_parts (formula_fits Classical P.symbols 0 a) (formula_fits Classical P.symbols 0 b) fits in
    λ i. truth-by v P a parts.0 fit.0 i || truth-by v P b parts.1 fit.1 i
truth-by v P (imp a b) h fits =
    let parts = and_parts (is_propositional a) (is_propositional b) h in
    let fit = and_parts (formula_fits Classical P.symbols 0 a) (formula_fits Classical P.symbols 0 b) fits in
    λ i. not (truth-by v P a parts.0 fit.0 i) || truth-by v P b parts.1 fit.1 i
truth-by v P _ h fits = absurd (false≢true h)

pub tautology : (P : Problem) → IsTrue (is_problem P) → IsPropositional P → IsTrueInStructures P → IsTautology P
tautology P problem propositional true_in = record { at_each = at }
  where
    at : (v : ℕ → Bool) → IsTrue (truth_value v P.formula)
    at v =
        let S = structure_by v P in
        let fits : formula_fits Classical P.symbols 0 P.formula ≡ true = subst (λ l. formula_fits l P.symbols 0 P.formula ≡ true) propositional.classical (fits-problem P problem) in
        let here : is_true_at Classical S P.formula [] 0 ≡ true = subst (λ l. is_true_at l S P.formula [] 0 ≡ true) propositional.classical (true_in.at_root S (structure-by v P propositional.classical)) in
        sym (truth-by v P P.formula propositional.formula fits) ∙ here

-- The problem of the formulas that pass, where their symbols and their bodies are known.
use Rattle.std.proofs.Common.{◌≡◌, ℕ, Bool, ◌&&◌, List, ◌++◌, Option, None, Some, map, IsTrue, ◌∙◌, ap, sym, length, ◌<◌, ◌≤◌}
use Rattle.std.specs.Prelude.{IfSome, Result, Ok, Err, not}
use Rattle.std.specs.List.{list_all, list_any}
use Rattle.calculus.specs.Equality.{symbol_eq}
use Rattle.calculus.specs.Problems.{are_distinct, formula_fits, is_modal, is_problem, setting_fits, symbol_fits}
use Rattle.calculus.specs.Syntax.{Symbol, Formula, Setting, Problem}
use Rattle.problem_build.specs.Answers.{refused}
use Rattle.tptp_reader.specs.Sources.{Source}
use Rattle.problem_build.specs.Building.{axioms_of, conjectures, formulas_of, limited, premises, premises_of, problem_formula, problem_of, symbols_of}
use Rattle.problem_build.specs.EqualityAxioms.{equality_axioms}
use Rattle.problem_build.specs.Expansion.{closed, equality_symbol}
use Rattle.problem_build.specs.Measuring.{bodies, both_nodes, first_measured, listed_if, measured}
use Rattle.problem_build.specs.NameCount.{is_narrow, is_short}
use Rattle.problem_build.specs.Passing.{AreRead}
use Rattle.problem_build.specs.Refusals.{Refusal, formula_too_large, nesting_too_deep, too_many_symbols}
use Rattle.problem_build.specs.Walk.{Passed}
use Rattle.problem_build.proofs.FittingLaws.{conjectures-fit, premises-fit, symbols-fit}
use Rattle.problem_build.proofs.ItemLaws.{bodies-formulas}
use Rattle.problem_build.proofs.LimitLaws.{deep-part, large-formula, many-symbols, no-formula, problem-fits_all, problem_with, whole-problem}
use Rattle.problem_build.proofs.MeasuringLaws.{measured-append}
use Rattle.problem_build.proofs.NameCountLaws.{all-short, kept-short, symbols-narrow}

-- the axioms are there where they are asked for
abbrev pub Asked : Setting → List Symbol → Bool → Type 0
Asked s symbols b = b ≡ (not (is_modal s.logic) && list_any (symbol_eq equality_symbol) symbols)

-- what is measured, and what is made
abbrev pub Nodes : List Symbol → (ps cs : List Source) → Bool → Option ℕ → Type 0
Nodes symbols ps cs b n =
    n ≡ both_nodes (both_nodes (measured (listed_if b (equality_axioms symbols))) (measured (map (closed symbols) ps))) (first_measured (map (closed symbols) cs))

abbrev pub Makes : List Symbol → (ps cs : List Source) → Bool → Option Formula → Type 0
Makes symbols ps cs b f = f ≡ problem_formula (listed_if b (equality_axioms symbols) ++ map (closed symbols) ps) (map (closed symbols) cs)

abbrev pub all_premises : Setting → List Symbol → List Source → List Formula
all_premises s symbols ps = axioms_of s symbols ++ map (closed symbols) ps

nodes-over : (s : Setting) (symbols : List Symbol) (ps cs : List Source) (b : Bool) (n : Option ℕ) → Asked s symbols b → Nodes symbols ps cs b n
    → n ≡ both_nodes (measured (all_premises s symbols ps)) (first_measured (map (closed symbols) cs))
nodes-over s symbols ps cs b n e k =
    k ∙ ap (λ d. both_nodes (both_nodes (measured (listed_if d (equality_axioms symbols))) (measured (map (closed symbols) ps))) (first_measured (map (closed symbols) cs))) e
    ∙ ap (λ m. both_nodes m (first_measured (map (closed symbols) cs))) (sym (measured-append (axioms_of s symbols) (map (closed symbols) ps)))

formula-over : (s : Setting) (symbols : List Symbol) (ps cs : List Source) (b : Bool) (f : Option Formula) → Asked s symbols b → Makes symbols ps cs b f
    → f ≡ problem_formula (all_premises s symbols ps) (map (closed symbols) cs)
formula-over s symbols ps cs b f e k =
    k ∙ ap (λ d. problem_formula (listed_if d (equality_axioms symbols) ++ map (closed symbols) ps) (map (closed symbols) cs)) e

pub over-deep : (e : Refusal) (s : Setting) (symbols : List Symbol) (ps cs : List Source) (b : Bool) (n : Option ℕ) → length symbols ≤ 65536 → Asked s symbols b → Nodes symbols ps cs b n
    → n ≡ None → Err nesting_too_deep ≡ limited e s symbols (all_premises s symbols ps) (map (closed symbols) cs)
over-deep e s symbols ps cs b n few a k z =
    deep-part e s symbols (all_premises s symbols ps) (map (closed symbols) cs) few (sym z ∙ nodes-over s symbols ps cs b n a k)

pub over-large : (e : Refusal) (s : Setting) (symbols : List Symbol) (ps cs : List Source) (b : Bool) (n : Option ℕ) (m : ℕ) → length symbols ≤ 65536 → Asked s symbols b → Nodes symbols ps cs b n
    → n ≡ Some m → 4000000 < m → Err formula_too_large ≡ limited e s symbols (all_premises s symbols ps) (map (closed symbols) cs)
over-large e s symbols ps cs b n m few a k z h =
    large-formula e s symbols (all_premises s symbols ps) (map (closed symbols) cs) m few (sym z ∙ nodes-over s symbols ps cs b n a k) h

pub over-empty : (e : Refusal) (s : Setting) (symbols : List Symbol) (ps cs : List Source) (b : Bool) (n : Option ℕ) (m : ℕ) (f : Option Formula) → length symbols ≤ 65536 → Asked s symbols b
    → Nodes symbols ps cs b n → n ≡ Some m → Makes symbols ps cs b f → f ≡ None → Err e ≡ limited e s symbols (all_premises s symbols ps) (map (closed symbols) cs)
over-empty e s symbols ps cs b n m f few a k z l y =
    no-formula e s symbols (all_premises s symbols ps) (map (closed symbols) cs) m few (sym z ∙ nodes-over s symbols ps cs b n a k) (sym y ∙ formula-over s symbols ps cs b f a l)

pub over-whole : (e : Refusal) (s : Setting) (symbols : List Symbol) (ps cs : List Source) (b : Bool) (n : Option ℕ) (m : ℕ) (f : Option Formula) (g : Formula) → length symbols ≤ 65536
    → Asked s symbols b → Nodes symbols ps cs b n → n ≡ Some m → m ≤ 4000000 → Makes symbols ps cs b f → f ≡ Some g
    → Ok (problem_with s g symbols) ≡ limited e s symbols (all_premises s symbols ps) (map (closed symbols) cs)
over-whole e s symbols ps cs b n m f g few a k z h l y =
    whole-problem e s symbols (all_premises s symbols ps) (map (closed symbols) cs) m g few (sym z ∙ nodes-over s symbols ps cs b n a k) h (sym y ∙ formula-over s symbols ps cs b f a l)

pub over-fits : (s : Setting) (symbols : List Symbol) (ps cs : List Source) (b : Bool) (n : Option ℕ) (m : ℕ) (f : Option Formula) (g : Formula) → length symbols ≤ 65536
    → Asked s symbols b → Nodes symbols ps cs b n → n ≡ Some m → m ≤ 4000000 → Makes symbols ps cs b f → f ≡ Some g
    → IsTrue (setting_fits s.logic s.domains) → IsTrue (are_distinct symbols) → IsTrue (list_all symbol_fits symbols)
    → IsTrue (list_all (formula_fits s.logic symbols 0) (all_premises s symbols ps)) → IsTrue (list_all (formula_fits s.logic symbols 0) (map (closed symbols) cs))
    → IsTrue (is_problem (problem_with s g symbols))
over-fits s symbols ps cs b n m f g few a k z h l y fits apart names p q =
    problem-fits_all s symbols (all_premises s symbols ps) (map (closed symbols) cs) m g fits few apart names p q
    (sym z ∙ nodes-over s symbols ps cs b n a k) h (sym y ∙ formula-over s symbols ps cs b f a l)

-- a refusal that is told, or there was no memory for its name
pub told-refusal : (o : Option Refusal) (e : Refusal) (whole : Result Problem Refusal) → IfSome o (λ r. r ≡ e) → Err e ≡ whole → IfSome (refused o) (λ r. r ≡ whole)
told-refusal None e whole h k = tt
told-refusal (Some r) e whole h k = ap Err h ∙ k

-- ---- over the symbols of all formulas

pub over-is : (e : Refusal) (s : Setting) (items : List Passed) (symbols : List Symbol) (ps cs : List Source) → symbols ≡ symbols_of items → ps ≡ bodies (premises items) → cs ≡ bodies (conjectures items)
    → limited e s symbols (axioms_of s symbols ++ map (closed symbols) ps) (map (closed symbols) cs) ≡ problem_of e s items
over-is e s items symbols ps cs p q r =
    (λ i. limited e s (p i) (axioms_of s (p i) ++ map (closed (p i)) (q i)) (map (closed (p i)) (r i)))
    ∙ (λ i. limited e s (symbols_of items) (axioms_of s (symbols_of items) ++ bodies-formulas (symbols_of items) (premises items) i) (bodies-formulas (symbols_of items) (conjectures items) i))

pub over-premises : (s : Setting) (items : List Passed) (symbols : List Symbol) (ps : List Source) → symbols ≡ symbols_of items → ps ≡ bodies (premises items) → AreRead (is_modal s.logic) items
    → IsTrue (list_all (formula_fits s.logic symbols 0) (axioms_of s symbols ++ map (closed symbols) ps))
over-premises s items symbols ps p q h = (λ i. list_all (formula_fits s.logic (p i) 0) (axioms_of s (p i) ++ map (closed (p i)) (q i))) ∙ premises-fit s items h

pub over-conjectures : (s : Setting) (items : List Passed) (symbols : List Symbol) (cs : List Source) → symbols ≡ symbols_of items → cs ≡ bodies (conjectures items) → AreRead (is_modal s.logic) items
    → IsTrue (list_all (formula_fits s.logic symbols 0) (map (closed symbols) cs))
over-conjectures s items symbols cs p q h = (λ i. list_all (formula_fits s.logic (p i) 0) (map (closed (p i)) (q i))) ∙ conjectures-fit s.logic items h

pub over-names : (modal : Bool) (items : List Passed) (symbols : List Symbol) → symbols ≡ symbols_of items → AreRead modal items → IsTrue (list_all symbol_fits symbols)
over-names modal items symbols p h = ap (list_all symbol_fits) p ∙ symbols-fit modal items h

pub over-arities : (modal : Bool) (items : List Passed) (symbols : List Symbol) → symbols ≡ symbols_of items → AreRead modal items → IsTrue (list_all is_narrow symbols)
over-arities modal items symbols p h = ap (list_all is_narrow) p ∙ symbols-narrow items (all-short modal items h)

pub over-short_premises : (modal : Bool) (items : List Passed) (ps : List Source) → ps ≡ bodies (premises items) → AreRead modal items → IsTrue (list_all is_short ps)
over-short_premises modal items ps q h = ap (list_all is_short) q ∙ kept-short (λ (p : Passed). not p.is_conjecture) items (all-short modal items h)

pub over-short_conjectures : (modal : Bool) (items : List Passed) (cs : List Source) → cs ≡ bodies (conjectures items) → AreRead modal items → IsTrue (list_all is_short cs)
over-short_conjectures modal items cs q h = ap (list_all is_short) q ∙ kept-short (λ (p : Passed). p.is_conjecture) items (all-short modal items h)

pub full-problem : (e : Refusal) (s : Setting) (items : List Passed) → 65536 < length (symbols_of items) → Err too_many_symbols ≡ problem_of e s items
full-problem e s items h = many-symbols e s (symbols_of items) (premises_of s (symbols_of items) items) (formulas_of (symbols_of items) (conjectures items)) h

pub problem-over : (e : Refusal) (s : Setting) (items : List Passed) (symbols : List Symbol) (ps cs : List Source) (o : Option (Result Problem Refusal)) → symbols ≡ symbols_of items
    → ps ≡ bodies (premises items) → cs ≡ bodies (conjectures items)
    → IfSome o (λ r. r ≡ limited e s symbols (all_premises s symbols ps) (map (closed symbols) cs)) → IfSome o (λ r. r ≡ problem_of e s items)
problem-over e s items symbols ps cs None p q t h = tt
problem-over e s items symbols ps cs (Some r) p q t h = h ∙ over-is e s items symbols ps cs p q t

-- The problem that files hold, or why they hold none.
use Rattle.std.specs.Prelude.{◌≡◌, ℕ, List, [], ◌∷◌, ◌++◌, length, map, Bool, not, ◌&&◌, Option, None, Some, Result, Ok, Err, nat_lt, nat_le, if◌then◌else◌}
use Rattle.std.specs.List.{filter, flat_map, list_all, list_any}
use Rattle.std.specs.Option.{option_map_or}
use Rattle.std.specs.Str.{bytes_eq}
use Rattle.calculus.specs.Equality.{symbol_eq}
use Rattle.calculus.specs.Measures.{nesting, node_count}
use Rattle.calculus.specs.Problems.{is_modal, greatest_nodes, greatest_symbols}
use Rattle.calculus.specs.Syntax.{Symbol, Formula, neg, conj, imp, Setting, Problem}
use Rattle.cop_base.specs.Outside.{Files, file_in}
use Rattle.tptp_reader.specs.Sources.{Name}
use Rattle.tptp_reader.specs.Reading.{IsReading}
use Rattle.problem_build.specs.declared.fault.Cause.TheVariants.{NoFormula}
use Rattle.problem_build.specs.Refusals.{Refusal, missing, nesting_too_deep, formula_too_large, too_many_symbols, bad}
use Rattle.problem_build.specs.Walk.{Passed, Reader, go_on, walk}
use Rattle.problem_build.specs.Balance.{balanced}
use Rattle.problem_build.specs.Expansion.{closed, equality_symbol, first_seen, symbols_in}
use Rattle.problem_build.specs.EqualityAxioms.{equality_axioms}

-- ---- the formula

-- the symbols of the formulas, numbered by their first places in the expanded formulas
abbrev pub symbols_of : List Passed → List Symbol
symbols_of items = first_seen symbol_eq [] (flat_map (λ (p : Passed). symbols_in p.body) items)

-- no axioms of equality in modal problems, and where no equation stands
abbrev pub axioms_of : Setting → List Symbol → List Formula
axioms_of setting symbols =
    if not (is_modal setting.logic) && list_any (symbol_eq equality_symbol) symbols then equality_axioms symbols else []

abbrev pub premises : List Passed → List Passed
premises items = filter (λ (p : Passed). not p.is_conjecture) items

abbrev pub conjectures : List Passed → List Passed
conjectures items = filter (λ (p : Passed). p.is_conjecture) items

abbrev pub formulas_of : List Symbol → List Passed → List Formula
formulas_of symbols items = map (λ (p : Passed). closed symbols p.body) items

-- those of the equality axioms come first
abbrev pub premises_of : Setting → List Symbol → List Passed → List Formula
premises_of setting symbols items = axioms_of setting symbols ++ formulas_of symbols (premises items)

-- premises and conjectures, of which there is at most one, and one formula in all
abbrev pub problem_formula : (premises conjectures : List Formula) → Option Formula
problem_formula [] [] = None
problem_formula [] (c ∷ cs) = Some c
problem_formula (a ∷ bs) [] = Some (neg (balanced conj a bs))
problem_formula (a ∷ bs) (c ∷ cs) = Some (imp (balanced conj a bs) c)

-- ---- limits

-- of an item or an axiom of equality
abbrev pub greatest_item_nesting : ℕ
greatest_item_nesting = 1000

abbrev pub are_flat : List Formula → Bool
are_flat fs = list_all (λ f. nat_le (nesting f) greatest_item_nesting) fs

-- ---- problems

-- `empty` is the refusal where there is no formula
abbrev pub sized : Refusal → Setting → List Symbol → Option Formula → Result Problem Refusal
sized empty setting symbols None = Err empty
sized empty setting symbols (Some f) =
    if nat_lt greatest_nodes (node_count f) then Err formula_too_large
    else Ok (record { setting = setting; formula = f; symbols = symbols })

abbrev pub limited : Refusal → Setting → List Symbol → (premises conjectures : List Formula)
    → Result Problem Refusal
limited empty setting symbols premises conjectures =
    if nat_lt greatest_symbols (length symbols) then Err too_many_symbols
    else (if are_flat (premises ++ conjectures)
    then sized empty setting symbols (problem_formula premises conjectures) else Err nesting_too_deep)

-- the problem of the formulas that pass
abbrev pub problem_of : Refusal → Setting → List Passed → Result Problem Refusal
problem_of empty setting items =
    limited empty setting (symbols_of items) (premises_of setting (symbols_of items) items)
    (formulas_of (symbols_of items) (conjectures items))

-- of the main file
abbrev pub no_formula : Files → Name → Refusal
no_formula files name = bad name (option_map_or length (file_in files name) 0) NoFormula

-- the problem of the files, by the reading of each text
abbrev pub problem_in : Reader → Files → (name root : Name) → Setting → Result Problem Refusal
problem_in read files name root setting = go_on (walk read files name root) (λ w. problem_of (no_formula files name) setting w.progress.passed)

-- each text is read as it is to be read
abbrev pub IsExactReader : Bool → Reader → Type 0
IsExactReader modal read = (text : List ℕ) → IsReading modal text (read text)

-- The files hold this problem, or this is the first refusal.
abbrev pub IsProblemOf : Files → (name root : Name) → Setting → Result Problem Refusal → Type 0
IsProblemOf files name root setting result = (read : Reader) × IsExactReader (is_modal setting.logic) read × (problem_in read files name root setting ≡ result)

-- ---- fetches

abbrev pub without : Name → Files → Files
without name files = filter (λ f. not (bytes_eq f.0 name)) files

-- the walk fetches the file of this name: were it not there, the walk would end at it
abbrev pub WalkFetches : Files → (name root : Name) → Setting → Name → Type 0
WalkFetches files name root setting fetched =
    (read : Reader) × IsExactReader (is_modal setting.logic) read × (walk read (without fetched files) name root ≡ Err (missing fetched))

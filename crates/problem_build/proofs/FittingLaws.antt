-- The formulas of items that were read fit their symbols, and so do the axioms of equality.
use Rattle.std.proofs.Common.{Bool, true, false, ◌&&◌, List, [], ◌∷◌, ◌++◌, map, IsTrue, if◌then◌else◌, refl, sym, ◌∙◌, ap}
use Rattle.std.specs.Prelude.{not}
use Rattle.std.specs.List.{filter, list_all, list_any}
use Rattle.std.proofs.lemmas.Bool.{and_from, and_parts}
use Rattle.std.proofs.lemmas.List.Folds.{list_all-append}
use Rattle.plain_laws.proofs.Every.{all-filter}
use Rattle.calculus.specs.declared.setting.Logic.{Logic}
use Rattle.calculus.specs.Equality.{symbol_eq}
use Rattle.calculus.specs.Problems.{formula_fits, is_modal, symbol_fits}
use Rattle.calculus.specs.Syntax.{Symbol, Setting, var}
use Rattle.tptp_reader.specs.Sources.{Item, formula, include}
use Rattle.problem_build.specs.Building.{axioms_of, conjectures, premises, symbols_of}
use Rattle.problem_build.specs.EqualityAxioms.{congruence_of_function, congruence_of_predicate, equality_axioms, for_each, reflexivity, symmetry, transitivity}
use Rattle.problem_build.specs.Expansion.{closed, equality_atom, equality_symbol, first_seen, symbols_in}
use Rattle.problem_build.specs.Measuring.{bodies}
use Rattle.problem_build.specs.Passing.{AreRead, item_passes}
use Rattle.problem_build.specs.Walk.{Passed}
use Rattle.problem_build.proofs.AxiomLaws.{for_each-fits, functions-fit, predicates-fit}
use Rattle.problem_build.proofs.ExpansionLaws.{all-seen, equality-fits, formulas-fit, is_well}
use Rattle.problem_build.proofs.ItemLaws.{bodies-formulas, listed}
use Rattle.problem_build.proofs.NameLaws.{names_fit, read-names}
use Rattle.problem_build.proofs.ReadingLaws.{is_well_item, read-well}

filter-listed : (test : Symbol → Bool) (keep : Passed → Bool) (items : List Passed) → IsTrue (list_all test (listed items)) → IsTrue (list_all test (listed (filter keep items)))
filter-listed test keep [] h = refl
filter-listed test keep (p ∷ ps) h =
    by (keep p) (and_parts (list_all test (symbols_in p.body)) (list_all test (listed ps)) (sym (list_all-append test (symbols_in p.body) (listed ps)) ∙ h)) (λ k. filter-listed test keep ps k)
  where
    by : (b : Bool) → IsTrue (list_all test (symbols_in p.body)) × IsTrue (list_all test (listed ps)) → (IsTrue (list_all test (listed ps)) → IsTrue (list_all test (listed (filter keep ps))))
        → IsTrue (list_all test (listed (if b then p ∷ filter keep ps else filter keep ps)))
    by true q next = list_all-append test (symbols_in p.body) (listed (filter keep ps)) ∙ and_from (list_all test (symbols_in p.body)) (list_all test (listed (filter keep ps))) q.0 (next q.1)
    by false q next = next q.1

pub seen-all : (test : Symbol → Bool) (known xs : List Symbol) → IsTrue (list_all test xs) → IsTrue (list_all test (first_seen symbol_eq known xs))
seen-all test known [] h = refl
seen-all test known (x ∷ xs) h =
    by (list_any (symbol_eq x) known) (and_parts (test x) (list_all test xs) h) (λ k. seen-all test known xs k) (λ k. seen-all test (known ++ x ∷ []) xs k)
  where
    by : (b : Bool) → IsTrue (test x) × IsTrue (list_all test xs) → (IsTrue (list_all test xs) → IsTrue (list_all test (first_seen symbol_eq known xs)))
        → (IsTrue (list_all test xs) → IsTrue (list_all test (first_seen symbol_eq (known ++ x ∷ []) xs)))
        → IsTrue (list_all test (if b then first_seen symbol_eq known xs else x ∷ first_seen symbol_eq (known ++ x ∷ []) xs))
    by true p old new = old p.1
    by false p old new = and_from (test x) (list_all test (first_seen symbol_eq (known ++ x ∷ []) xs)) p.0 (new p.1)

listed-all : (items : List Passed) → IsTrue (list_all (λ (p : Passed). names_fit p.body) items) → IsTrue (list_all symbol_fits (listed items))
listed-all [] h = refl
listed-all (p ∷ ps) h =
    let q = and_parts (names_fit p.body) (list_all (λ (p : Passed). names_fit p.body) ps) h in
    list_all-append symbol_fits (symbols_in p.body) (listed ps) ∙ and_from (list_all symbol_fits (symbols_in p.body)) (list_all symbol_fits (listed ps)) q.0 (listed-all ps q.1)

-- the symbols of formulas that were read
pub symbols-fit : (modal : Bool) (items : List Passed) → AreRead modal items → IsTrue (list_all symbol_fits (symbols_of items))
symbols-fit modal items h = seen-all symbol_fits [] (listed items) (listed-all items (h names_fit (λ text is l r. read-names modal text is r)))

well-item : (m : Bool) (is : List Item) → IsTrue (list_all (is_well_item m) is) → IsTrue (list_all (item_passes (is_well m)) is)
well-item m [] h = refl
well-item m (formula k n r a b s ∷ is) h =
    let p = and_parts (is_well m b) (list_all (is_well_item m) is) h in and_from (is_well m b) (list_all (item_passes (is_well m)) is) p.0 (well-item m is p.1)
well-item m (include f n s ∷ is) h = well-item m is h

-- the formulas of those that are kept
pub kept-fit : (l : Logic) (keep : Passed → Bool) (items : List Passed) → AreRead (is_modal l) items
    → IsTrue (list_all (formula_fits l (symbols_of items) 0) (map (closed (symbols_of items)) (bodies (filter keep items))))
kept-fit l keep items h =
    ap (list_all (formula_fits l (symbols_of items) 0)) (bodies-formulas (symbols_of items) (filter keep items))
    ∙ formulas-fit l (filter keep items) items
    (all-filter (λ (p : Passed). is_well (is_modal l) p.body) keep items (h (is_well (is_modal l)) (λ text is few r. well-item (is_modal l) is (read-well (is_modal l) text is r))))
    (filter-listed (λ x. list_any (symbol_eq x) (symbols_of items)) keep items (all-seen (listed items)))

equality_axioms-fit : (l : Logic) (symbols : List Symbol) → IsTrue (list_any (symbol_eq equality_symbol) symbols) → IsTrue (list_all (formula_fits l symbols 0) (equality_axioms symbols))
equality_axioms-fit l symbols e =
    and_from (formula_fits l symbols 0 (reflexivity symbols)) _ (equality-fits l symbols 1 (var 0) (var 0) e refl refl)
    (and_from (formula_fits l symbols 0 (symmetry symbols)) _
    (and_from (formula_fits l symbols 2 (equality_atom symbols (var 1) (var 0))) (formula_fits l symbols 2 (equality_atom symbols (var 0) (var 1)))
    (equality-fits l symbols 2 (var 1) (var 0) e refl refl) (equality-fits l symbols 2 (var 0) (var 1) e refl refl))
    (and_from (formula_fits l symbols 0 (transitivity symbols)) _
    (and_from (formula_fits l symbols 3 (equality_atom symbols (var 2) (var 1)) && formula_fits l symbols 3 (equality_atom symbols (var 1) (var 0))) (formula_fits l symbols 3 (equality_atom symbols (var 2) (var 0)))
    (and_from (formula_fits l symbols 3 (equality_atom symbols (var 2) (var 1))) (formula_fits l symbols 3 (equality_atom symbols (var 1) (var 0)))
    (equality-fits l symbols 3 (var 2) (var 1) e refl refl) (equality-fits l symbols 3 (var 1) (var 0) e refl refl))
    (equality-fits l symbols 3 (var 2) (var 0) e refl refl))
    (list_all-append (formula_fits l symbols 0) (for_each (congruence_of_function symbols) 0 symbols) (for_each (congruence_of_predicate symbols) 0 symbols)
    ∙ and_from (list_all (formula_fits l symbols 0) (for_each (congruence_of_function symbols) 0 symbols)) (list_all (formula_fits l symbols 0) (for_each (congruence_of_predicate symbols) 0 symbols))
    (for_each-fits (formula_fits l symbols 0) (congruence_of_function symbols) symbols [] symbols refl (functions-fit l symbols e))
    (for_each-fits (formula_fits l symbols 0) (congruence_of_predicate symbols) symbols [] symbols refl (predicates-fit l symbols e)))))

axioms-fit : (s : Setting) (symbols : List Symbol) → IsTrue (list_all (formula_fits s.logic symbols 0) (axioms_of s symbols))
axioms-fit s symbols = by (not (is_modal s.logic)) (list_any (symbol_eq equality_symbol) symbols) (λ e. equality_axioms-fit s.logic symbols e)
  where
    by : (a b : Bool) → (IsTrue b → IsTrue (list_all (formula_fits s.logic symbols 0) (equality_axioms symbols)))
        → IsTrue (list_all (formula_fits s.logic symbols 0) (if a && b then equality_axioms symbols else []))
    by true true h = h refl
    by true false h = refl
    by false b h = refl

pub premises-fit : (s : Setting) (items : List Passed) → AreRead (is_modal s.logic) items
    → IsTrue (list_all (formula_fits s.logic (symbols_of items) 0) (axioms_of s (symbols_of items) ++ map (closed (symbols_of items)) (bodies (premises items))))
premises-fit s items h =
    list_all-append (formula_fits s.logic (symbols_of items) 0) (axioms_of s (symbols_of items)) (map (closed (symbols_of items)) (bodies (premises items)))
    ∙ and_from (list_all (formula_fits s.logic (symbols_of items) 0) (axioms_of s (symbols_of items))) (list_all (formula_fits s.logic (symbols_of items) 0) (map (closed (symbols_of items)) (bodies (premises items))))
    (axioms-fit s (symbols_of items)) (kept-fit s.logic (λ (p : Passed). not p.is_conjecture) items h)

pub conjectures-fit : (l : Logic) (items : List Passed) → AreRead (is_modal l) items
    → IsTrue (list_all (formula_fits l (symbols_of items) 0) (map (closed (symbols_of items)) (bodies (conjectures items))))
conjectures-fit l items h = kept-fit l (λ (p : Passed). p.is_conjecture) items h

-- Worked examples, computed: problems of items, and the walk over files whose texts are read as given here.
use Rattle.std.proofs.Common.{◌≡◌, ℕ, List, [], ◌∷◌, ◌==◌, refl}
use Rattle.std.specs.Prelude.{codes, Option, None, Some, Result, Ok, Err, if◌then◌else◌}
use Rattle.std.specs.Fmt.{digits}
use Rattle.calculus.specs.declared.setting.Logic.TheVariants.{Classical, T}
use Rattle.calculus.specs.declared.setting.Domains.TheVariants.{Constant}
use Rattle.calculus.specs.Equality.{list_eq}
use Rattle.calculus.specs.Syntax as tree
use Rattle.calculus.specs.Text.{formula_text}
use Rattle.tptp_reader.specs.declared.source.BinaryKind.TheVariants.{Imp}
use Rattle.tptp_reader.specs.declared.item.ItemKind.TheVariants.{Fof}
use Rattle.tptp_reader.specs.Sources.{Name, variable, apply, no_terms, more_terms, Source, atom, equal, binary, for_all, exists, Item, formula, include}
use Rattle.tptp_reader.specs.Reading.{Outcome, reads}
use Rattle.problem_build.specs.declared.fault.Cause.TheVariants.{IncludeTooDeep, IncludeNameAbsent, NoFormula}
use Rattle.problem_build.specs.Refusals.{Refusal, missing, input_too_large, bad}
use Rattle.problem_build.specs.Walk.{Reader, Walked, bytes_walk, walk}
use Rattle.problem_build.specs.Building.{problem_in, without}

abbrev table : List (List ℕ × Outcome (List Item)) → Reader
table [] text = reads []
table (e ∷ es) text = if list_eq ◌==◌ e.0 text then e.1 else table es text

-- the text of the problem's formula
abbrev shown : Result tree.Problem Refusal → Option (List ℕ)
shown (Ok p) = Some (formula_text p.symbols 0 p.formula)
shown (Err r) = None

abbrev p_of : Name → Source
p_of x = atom (codes "p") (more_terms (apply x no_terms) no_terms)

-- ---- ?[X]:![Y]:(d(X) => d(Y))

abbrev drinker_text : List ℕ
drinker_text = codes "fof(c,conjecture,?[X]:![Y]:(d(X) => d(Y))).\n"

abbrev d_of : Name → Source
d_of x = atom (codes "d") (more_terms (variable x) no_terms)

abbrev drinker : List Item
drinker = formula Fof (codes "c") (codes "conjecture") 6 (exists (codes "X" ∷ []) (for_all (codes "Y" ∷ []) (binary Imp (d_of (codes "X")) (d_of (codes "Y"))))) 0 ∷ []

drinker-problem : shown (problem_in (table ((drinker_text, reads drinker) ∷ [])) ((codes "m.p", drinker_text) ∷ []) (codes "m.p") [] (tree.setting_of Classical Constant))
    ≡ Some (codes "?[X1]:![X2]:(d(X1) => d(X2))")
unfolding digits
drinker-problem = refl

-- ---- equality: a = b and p(a) give p(b)

abbrev equality_text : List ℕ
equality_text = codes "fof(e,axiom,a = b).\nfof(f,axiom,p(a)).\nfof(c,conjecture,p(b)).\n"

abbrev equality_items : List Item
equality_items =
    formula Fof (codes "e") (codes "axiom") 6 (equal (apply (codes "a") no_terms) (apply (codes "b") no_terms)) 0
    ∷ formula Fof (codes "f") (codes "axiom") 26 (p_of (codes "a")) 20
    ∷ formula Fof (codes "c") (codes "conjecture") 45 (p_of (codes "b")) 39 ∷ []

equality-problem : shown (problem_in (table ((equality_text, reads equality_items) ∷ [])) ((codes "m.p", equality_text) ∷ []) (codes "m.p") [] (tree.setting_of Classical Constant))
    ≡ Some (codes "((((![X1]:(X1 = X1) & ![X1]:![X2]:((X1 = X2) => (X2 = X1))) & ![X1]:![X2]:![X3]:(((X1 = X2) & (X2 = X3)) => (X1 = X3))) & ((![X1]:![X2]:(((X1 = X2) & p(X1)) => p(X2)) & (a = b)) & p(a))) => p(b))")
unfolding digits
equality-problem = refl

-- no axioms of equality in a modal problem
modal-equality : shown (problem_in (table ((equality_text, reads equality_items) ∷ [])) ((codes "m.p", equality_text) ∷ []) (codes "m.p") [] (tree.setting_of T Constant))
    ≡ Some (codes "(((a = b) & p(a)) => p(b))")
modal-equality = refl

-- ---- includes

abbrev proposition : Name → Source
proposition p = atom p no_terms

abbrev axioms_text : List ℕ
axioms_text = codes "fof(a,axiom,p). fof(b,axiom,p => q).\n"

abbrev axioms : List Item
axioms = formula Fof (codes "a") (codes "axiom") 6 (proposition (codes "p")) 0 ∷ formula Fof (codes "b") (codes "axiom") 22 (binary Imp (proposition (codes "p")) (proposition (codes "q"))) 16 ∷ []

abbrev main_text : List ℕ
main_text = codes "include('ax.p',[b]).\ninclude('ax.p').\nfof(c,conjecture,q).\n"

abbrev main_items : List Item
main_items = include (codes "ax.p") (Some ((codes "b", 16) ∷ [])) 0 ∷ include (codes "ax.p") None 21 ∷ formula Fof (codes "c") (codes "conjecture") 44 (proposition (codes "q")) 38 ∷ []

abbrev files_of : List ℕ → List (List ℕ × List ℕ)
files_of main = (codes "m.p", main) ∷ (codes "ax.p", axioms_text) ∷ []

abbrev reading_of : List ℕ → List Item → Reader
reading_of main its = table ((main, reads its) ∷ (axioms_text, reads axioms) ∷ [])

include-problem : shown (problem_in (reading_of main_text main_items) (files_of main_text) (codes "m.p") [] (tree.setting_of Classical Constant))
    ≡ Some (codes "((((p => q) & p) & (p => q)) => q)")
include-problem = refl

abbrev refused : List ℕ → List Item → Name → Refusal → Type 0
refused main its root r = problem_in (reading_of main its) (files_of main) (codes "m.p") root (tree.setting_of Classical Constant) ≡ Err r

include-missing : refused (codes "include('none.p').") (include (codes "none.p") None 0 ∷ []) [] (missing (codes "none.p"))
include-missing = refl

include-absent : refused (codes "include('ax.p',[z]).") (include (codes "ax.p") (Some ((codes "z", 16) ∷ [])) 0 ∷ []) [] (bad (codes "m.p") 16 IncludeNameAbsent)
include-absent = refl

-- a file that includes itself
include-deep : refused (codes "include('m.p').") (include (codes "m.p") None 0 ∷ []) [] (bad (codes "m.p") 0 IncludeTooDeep)
include-deep = refl

-- with a root
include-root : refused (codes "include('a.p').") (include (codes "a.p") None 0 ∷ []) (codes "lib") (missing (codes "lib/a.p"))
include-root = refl

include-absolute : refused (codes "include('/a.p').") (include (codes "/a.p") None 0 ∷ []) (codes "lib") (missing (codes "/a.p"))
include-absolute = refl

-- nothing at all
no-items : refused [] [] [] (bad (codes "m.p") 0 NoFormula)
no-items = refl

-- ---- bytes: 16,777,216 together are read, one more is too large

abbrev walked_bytes : Result Walked Refusal → Option ℕ
walked_bytes (Ok w) = Some w.progress.bytes
walked_bytes (Err r) = None

most-bytes : walked_bytes (bytes_walk (table []) None [] (codes "m.p") [] (record { bytes = 16777213; passed = [] }) (Some (codes "  \n"))) ≡ Some 16777216
most-bytes = refl

more-bytes : bytes_walk (table []) None [] (codes "m.p") [] (record { bytes = 16777214; passed = [] }) (Some (codes "  \n")) ≡ Err input_too_large
more-bytes = refl

-- a file is fetched where the walk misses it without it
include-fetched : walk (reading_of main_text main_items) (without (codes "ax.p") (files_of main_text)) (codes "m.p") [] ≡ Err (missing (codes "ax.p"))
include-fetched = refl

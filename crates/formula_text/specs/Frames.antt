-- Terms that are open: the text that was read of them, the outermost first.
use Rattle.std.specs.Prelude.{◌≡◌, ℕ, List, [], ◌∷◌, ◌++◌, Bool, true, false, ◌&&◌, IsTrue, Some, slice_get, Contains, drop}
use Rattle.calculus.specs.declared.symbol.SymbolClass.TheVariants.{Function}
use Rattle.calculus.specs.Syntax.{Symbol, Term, var, fun, eigen, spare}
use Rattle.calculus.specs.DerivationText.{term_is_written, terms_are_written}
use Rattle.calculus.specs.Lists.{terms_tree}
use Rattle.calculus.specs.Text.{Ends, name_text, term_text}

-- a term whose arguments are being read: its name, and those that are whole
pub record Frame : Type 0 where
  pub name : List ℕ
  pub args : List Term

-- arguments with a comma after each
abbrev pub args_front : List Symbol → List Term → List ℕ
args_front symbols [] = []
args_front symbols (t ∷ ts) = term_text symbols 0 t ++ 44 ∷ args_front symbols ts

abbrev pub frame_text : List Symbol → Frame → List ℕ
frame_text symbols f = name_text f.name ++ 40 ∷ args_front symbols f.args

abbrev pub stack_text : List Symbol → List Frame → List ℕ
stack_text symbols [] = []
stack_text symbols (f ∷ fs) = frame_text symbols f ++ stack_text symbols fs

abbrev pub frames_are_written : List Symbol → List Frame → Bool
frames_are_written symbols [] = true
frames_are_written symbols (f ∷ fs) = terms_are_written symbols (terms_tree f.args) && frames_are_written symbols fs

-- no term stands at the beginning
abbrev pub NoTerm : List Symbol → List ℕ → Type 0
NoTerm symbols bytes = (t : Term) (r : List ℕ) → IsTrue (term_is_written symbols t) → Ends r → ¬ (bytes ≡ term_text symbols 0 t ++ r)

-- the number is that of the function symbol of this name and number of arguments
abbrev pub IsFunction : List Symbol → ℕ → List ℕ → ℕ → Type 0
IsFunction symbols f name n = slice_get symbols f ≡ Some (record { name = name; class = Function; arity = n })

abbrev pub NoFunction : List Symbol → List ℕ → ℕ → Type 0
NoFunction symbols name n = ¬ Contains symbols (record { name = name; class = Function; arity = n })

-- a term, and what follows it begins with an ending byte
pub record IsWhole (symbols : List Symbol) (bytes after : List ℕ) (t : Term) : Type 0 where
  pub written : IsTrue (term_is_written symbols t)
  pub text : bytes ≡ term_text symbols 0 t ++ after
  pub ends : Ends after

abbrev pub is_made : Term → Bool
is_made (var k) = false
is_made (fun f ts) = false
is_made (eigen n) = true
is_made (spare n) = true

-- an eigenvariable or a spare constant
pub record IsMadeAt (bytes : List ℕ) (from to : ℕ) (t : Term) : Type 0 where
  pub made : IsTrue (is_made t)
  pub whole : IsWhole [] (drop from bytes) (drop to bytes) t

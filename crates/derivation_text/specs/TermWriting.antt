-- How far the text of a term over a table was written.
use Rattle.std.specs.Prelude.{◌≡◌, ◌≤◌, ℕ, suc, List, [], ◌∷◌, ◌++◌, length, get_or, replicate, Bool, true, ◌&&◌, IsTrue, Option, None, Some, codes, decimal}
use Rattle.std.specs.List.{list_all}
use Rattle.calculus.specs.DerivationText.{term_is_written}
use Rattle.calculus.specs.Syntax.{Symbol, Term}
use Rattle.calculus.specs.Text.{symbol_at, term_text}
use Rattle.derivation_text.specs.declared.term_writer.Piece.{Piece}
use Rattle.derivation_text.specs.declared.term_writer.Piece.TheVariants as piece
use Rattle.formula_text.specs.Known.{is_named}
use Rattle.term_table.specs.Table.{the_table_term}
use Rattle.term_table.specs.declared.table.TableTerm.{TableTerm}
use Rattle.term_table.specs.declared.table.TableTerm.TheVariants.{Constant, Fun, Eigen, Spare}

-- a term without its arguments
abbrev pub head_text : List Symbol → TableTerm → List ℕ
head_text S (Constant f) = symbol_at S f.0
head_text S (Fun f k) = symbol_at S f.0
head_text S (Eigen n) = codes "$$e" ++ decimal n
head_text S (Spare n) = codes "$$s" ++ decimal n

abbrev pub head_is_named : List Symbol → TableTerm → Bool
head_is_named S (Constant f) = is_named S f.0
head_is_named S (Fun f k) = is_named S f.0
head_is_named S (Eigen n) = true
head_is_named S (Spare n) = true

abbrev pub args_over : List (List Term) → TableTerm → List Term
args_over ls (Constant f) = []
args_over ls (Fun f k) = get_or ls k []
args_over ls (Eigen n) = []
args_over ls (Spare n) = []

abbrev pub piece_text : List Symbol → List (List Term) → Piece → List ℕ
piece_text S ls (piece.Further x) = 44 ∷ term_text S 0 (the_table_term ls x)
piece_text S ls (piece.Close n) = replicate n 41

abbrev pub piece_is_written : List Symbol → List (List Term) → Piece → Bool
piece_is_written S ls (piece.Further x) = term_is_written S (the_table_term ls x)
piece_is_written S ls (piece.Close n) = true

-- the pieces of a stack, the last one first
abbrev pub pieces_text : List Symbol → List (List Term) → List Piece → List ℕ
pieces_text S ls [] = []
pieces_text S ls (p ∷ ps) = pieces_text S ls ps ++ piece_text S ls p

abbrev pub are_written : List Symbol → List (List Term) → List Piece → Bool
are_written S ls ps = list_all (piece_is_written S ls) ps

-- a text comes before what was on a stack
pub record IsBefore (S : List Symbol) (ls : List (List Term)) (text : List ℕ) (stack left : List Piece) : Type 0 where
  pub before : pieces_text S ls left ≡ text ++ pieces_text S ls stack
  pub written : IsTrue (are_written S ls stack) → IsTrue (are_written S ls left)

-- from the term that comes next on, if one does
abbrev pub next_text : List Symbol → List (List Term) → List Piece → Option TableTerm → List ℕ
next_text S ls stack None = []
next_text S ls stack (Some x) = term_text S 0 (the_table_term ls x) ++ pieces_text S ls stack

abbrev pub next_is_written : List Symbol → List (List Term) → List Piece → Option TableTerm → Bool
next_is_written S ls stack None = true
next_is_written S ls stack (Some x) = term_is_written S (the_table_term ls x) && are_written S ls stack

abbrev pub next_size : List Symbol → List (List Term) → List Piece → Option TableTerm → ℕ
next_size S ls stack None = 0
next_size S ls stack (Some x) = suc (length (next_text S ls stack (Some x)))

-- of a text in front of a stack, what comes before the next term was written
pub record Wrote (S : List Symbol) (ls : List (List Term)) (text out new : List ℕ) (stack left : List Piece) (next : Option TableTerm) : Type 0 where
  pub same : new ++ next_text S ls left next ≡ out ++ (text ++ pieces_text S ls stack)
  pub written : IsTrue (are_written S ls stack) → IsTrue (next_is_written S ls left next)
  pub less : next_size S ls left next ≤ length (text ++ pieces_text S ls stack)

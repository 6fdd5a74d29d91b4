-- Cells and copied clauses that can be read off.
use Rattle.std.specs.Prelude.{ℕ, List, ◌<◌, ◌≤◌, length, nat_lt, Bool, ◌&&◌, IsTrue, ⊤}
use Rattle.std.specs.List.{list_all}
use Rattle.store_theory.specs.Bindings.{IsEnd}
use Rattle.store_theory.specs.Stores.{GammaCell, Store, names_below}
use Rattle.search_theory.specs.Matrix.{MatrixClause}
use Rattle.search_theory.specs.States.{atom_is_below}
use Rattle.term_store.specs.ClauseView.{the_atom}
use Rattle.term_store.specs.RefView.{the_places}
use Rattle.term_store.specs.declared.cell.Ref.{Ref}
use Rattle.term_store.specs.declared.clause.CellAtom as program
use Rattle.tableau_reading.specs.declared.homes.Homes.{Homes}
use Rattle.search_tree.specs.declared.tree.Copied.{Copied}
use Rattle.search_tree.specs.declared.tree.Step.{Step}
use Rattle.search_tree.specs.declared.tree.Step.TheVariants.{Start, Reduce, Extend}

-- bindings end at the cell
abbrev pub IsPlace : Store → Ref → Type 0
IsPlace s r = IsEnd s r.0

-- a gamma term and the items of its label are cells of the store
abbrev pub is_gamma_below : ℕ → GammaCell → Bool
is_gamma_below n g = nat_lt g.term n && names_below n g.label

abbrev pub AreHomesBelow : Store → Homes → Type 0
AreHomesBelow s h = IsTrue (list_all (is_gamma_below (length s.cells)) h.gammas)

-- its clause is one of the matrix, and its variables and literals are cells of the store
pub record IsReadable (s : Store) (m : List MatrixClause) (c : Copied) : Type 0 where
  pub clause : c.clause.0 < length m
  pub variables : IsTrue (names_below (length s.cells) (the_places c.copy.variables))
  pub literals : IsTrue (list_all (atom_is_below (length s.cells)) c.copy.literals)

-- so it is with the choice's clause and its connected literal
pub record IsReadableExtension (s : Store) (m : List MatrixClause) (c : Copied) (place : ℕ) (atom : program.CellAtom) : Type 0 where
  pub readable : IsReadable s m c
  pub place_within : place ≤ length c.copy.literals
  pub atom_below : IsTrue (atom_is_below (length s.cells) (the_atom atom))

abbrev pub IsReadableStep : Store → List MatrixClause → Step → Type 0
IsReadableStep s m (Start c) = IsReadable s m c
IsReadableStep s m (Reduce goal up ancestor) = ⊤
IsReadableStep s m (Extend goal c place atom) = IsReadableExtension s m c place atom

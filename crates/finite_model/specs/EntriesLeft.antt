-- Which slots are left to be read, as the entries are read one after the other.
use Rattle.std.specs.Prelude.{◌≡◌, ℕ, List, ◌++◌, IsTrue}
use Rattle.std.specs.List.{list_all}
use Rattle.calculus.specs.declared.fault.StructureCause.{StructureCause}
use Rattle.calculus.specs.Syntax.{Problem}
use Rattle.calculus.specs.Problems.{symbol_fits}
use Rattle.text_lines.specs.Lines.{AreRead}
use Rattle.finite_model.specs.declared.entries.Entries.{Entries}
use Rattle.finite_model.specs.declared.head.Head.{Head}
use Rattle.finite_model.specs.Reading.{IsFaultOf, IsHeadRead}
use Rattle.finite_model.specs.Slots.{Place, are_entries, entry_lines, head_of, slots}
use Rattle.finite_model.specs.StructureView.{the_lists}

-- behind the head the entries of all slots but these are read
pub record AreLeft (P : Problem) (bytes : List ℕ) (h : Head) (rest : List Place) (e : Entries) : Type 0 where
  pub names : IsTrue (list_all symbol_fits P.symbols)
  pub head : IsHeadRead P bytes h
  pub done : List Place
  pub all : slots P.symbols h.worlds h.elements ≡ done ++ rest
  pub are : IsTrue (are_entries done (the_lists e.lists.items))
  pub lines : AreRead bytes (head_of P h.worlds h.elements ++ entry_lines done (the_lists e.lists.items)) e.place

-- where the first slots are left before, and whatever behind them, the second are left after
pub record Leads (bytes : List ℕ) (ss : List Place) (before : Entries) (ts : List Place) (after : Entries) : Type 0 where
  pub leads : (P : Problem) (h : Head) (rest : List Place) → AreLeft P bytes h (ss ++ rest) before → AreLeft P bytes h (ts ++ rest) after

-- where these slots are left, and whatever behind them, this is the number and the cause of the first wrong line
pub record IsFaultAmong (bytes : List ℕ) (ss : List Place) (before : Entries) (line : ℕ) (why : StructureCause) : Type 0 where
  pub told : (P : Problem) (h : Head) (rest : List Place) → AreLeft P bytes h (ss ++ rest) before → IsFaultOf P bytes line why

-- What copies are made of.
use Rattle.std.specs.Prelude.{◌≡◌, ℕ, List, ◌++◌, IsTrue}
use Rattle.std.specs.List.{list_all}
use Rattle.store_theory.specs.Bindings.{NamesOver}
use Rattle.store_theory.specs.Patterns as tree
use Rattle.store_theory.specs.Patterns.{AreAtomCopies, atom_is_from}
use Rattle.store_theory.specs.Stores.{Store}
use Rattle.store_theory.specs.Systems.{CellAtom, is_cell_atom}
use Rattle.term_store.specs.declared.cell.Name.{Name}
use Rattle.term_store.specs.declared.cell.Name.TheVariants.{Fun, Eigen, New, Marks}

-- the pattern of this name with these parts, where there is one
abbrev pub named_pattern : Name → tree.Patterns → tree.Pattern
named_pattern (Fun f) ps = tree.p_fun f.0 ps
named_pattern (Eigen p) ps = tree.p_eigen p.0 ps
named_pattern (New p) ps = tree.p_new p.0 ps
named_pattern Marks ps = tree.p_fun 0 ps

-- copies of these atoms were appended; the store had n cells
pub record AtomsCopied (s : Store) (variables : List ℕ) (n : ℕ) (before after : List CellAtom) (atoms : List tree.PatternAtom) : Type 0 where
  pub more : List CellAtom
  pub appended : after ≡ before ++ more
  pub copies : AreAtomCopies s variables atoms more
  pub sorts : IsTrue (list_all (is_cell_atom s) more)
  pub own : NamesOver variables n (λ base. list_all (atom_is_from base) more)

-- the template with these literals
abbrev pub with_literals : List tree.PatternAtom → tree.Template → tree.Template
with_literals atoms t = record t { literals = atoms }

-- Pairs of parts of the problem's formula, each under a substitution of the table, that are the same atom.
use Rattle.std.specs.Prelude.{◌≡◌, ⊤, ◌<◌, List, [], ◌∷◌, length, true, ◌&&◌}
use Rattle.calculus.specs.Calculus.{is_atom}
use Rattle.calculus.specs.Equality.{formula_eq}
use Rattle.calculus.specs.Syntax.{Term, Formula}
use Rattle.derivation_branch.specs.EntryView.{formula_under}
use Rattle.derivation_branch.specs.OutlineView.{IsNode}
use Rattle.derivation_branch.specs.declared.same_atoms.Pair.{Pair}

pub record IsSame (table : List (List Term)) (parts : List Formula) (x : Pair) : Type 0 where
  pub given : x.given_under < length table
  pub shown : x.shown_under < length table
  pub same : (f g : Formula) → IsNode parts x.given f → IsNode parts x.shown g → (is_atom (formula_under table x.given_under f) && formula_eq (formula_under table x.given_under f) (formula_under table x.shown_under g)) ≡ true

abbrev pub AreSame : List (List Term) → List Formula → List Pair → Type 0
AreSame table parts [] = ⊤
AreSame table parts (x ∷ xs) = IsSame table parts x × AreSame table parts xs

-- The positions of atoms.
use Rattle.std.specs.Prelude.{List, [], ◌∷◌, ◌++◌, Bool, true, false}
use Rattle.calculus.specs.Syntax.{Formula, atom, neg, conj, disj, imp, all, ex, box, dia}

-- whether there is an atom at each position, in preorder
abbrev pub atoms_of : Formula → List Bool
atoms_of (atom p ts) = true ∷ []
atoms_of (neg a) = false ∷ atoms_of a
atoms_of (conj a b) = false ∷ (atoms_of a ++ atoms_of b)
atoms_of (disj a b) = false ∷ (atoms_of a ++ atoms_of b)
atoms_of (imp a b) = false ∷ (atoms_of a ++ atoms_of b)
atoms_of (all a) = false ∷ atoms_of a
atoms_of (ex a) = false ∷ atoms_of a
atoms_of (box a) = false ∷ atoms_of a
atoms_of (dia a) = false ∷ atoms_of a

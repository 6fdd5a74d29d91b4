-- What holds of a step that applies: its children extend the sequent, and what it brings is new there.
use Rattle.std.specs.Prelude.{◌≡◌, List, ◌++◌, false}
use Rattle.calculus.specs.Derivations.{Entry, Sequent, Names, new_mark, ModalArg, no_modal, to, by_new, TermArg, no_term, by_term, by_name, Step, apply_to, close}
use Rattle.calculus.specs.Calculus.{Children, closed, one, two, character_occurs, eigen_occurs}

-- t is s with entries added at the end
abbrev pub Extends : Sequent → Sequent → Type 0
Extends s t = (new_entries : List Entry) × (t ≡ s ++ new_entries)

abbrev pub ChildrenExtend : Sequent → Children → Type 0
ChildrenExtend s closed = Unit {0}
ChildrenExtend s (one t) = Extends s t
ChildrenExtend s (two t u) = Extends s t × Extends s u

-- the character of a pi step stands in no label of the sequent, and in the home of no name there
abbrev pub IsCharacterFresh : Names → Sequent → ModalArg → Type 0
IsCharacterFresh names s no_modal = Unit {0}
IsCharacterFresh names s (to v) = Unit {0}
IsCharacterFresh names s (by_new n) = character_occurs names (new_mark n) s ≡ false

-- the eigenvariable of a delta step stands in no formula of the sequent
abbrev pub IsEigenFresh : Sequent → TermArg → Type 0
IsEigenFresh s no_term = Unit {0}
IsEigenFresh s (by_term t) = Unit {0}
IsEigenFresh s (by_name n) = eigen_occurs n s ≡ false

-- the character and the eigenvariable that a step brings occur nowhere in the sequent before it
abbrev pub IsFresh : Names → Sequent → Step → Type 0
IsFresh names s (apply_to n m t) = IsCharacterFresh names s m × IsEigenFresh s t
IsFresh names s (close n k) = Unit {0}

-- The way of the code. A sketch of an open branch has for each entry the part of the problem's formula of which it is an instance, and
-- its label in S4: signs, connectives and labels are all that a transfer asks of an entry. A character of a step on an atom is left out.
use Rattle.std.specs.Prelude.{ℕ, suc, List, [], ◌∷◌, ◌++◌, Option, Some, None, Ok}
use Rattle.calculus.specs.declared.sign.Sign.TheVariants.{F}
use Rattle.calculus.specs.Syntax.{Formula, atom, Problem}
use Rattle.calculus.specs.Kinds.{shape_of, components}
use Rattle.calculus.specs.Derivations.{Label, Entry, EigenName, ModalArg, no_modal, to, by_new, TermArg, Step, apply_to, close, Derivation}
use Rattle.calculus.specs.Calculus.{entry_of, with_components}
use Rattle.godel_transfer.specs.Transfer.{label_image, OpenBranch, place_of, axiom_to, branches_by, steps_at, name_at, names_with, new_character}

-- the label in S4 to which a step leads
abbrev pub label_then : OpenBranch → Entry → ModalArg → Label
label_then b e no_modal = e.label
label_then b e (to v) = label_image b.characters v
label_then b e (by_new n) = e.label ++ new_character b e.formula

-- the same entry of S4 stands for that which a step on an atom adds
abbrev pub atom_after : OpenBranch → ℕ → Entry → ModalArg → OpenBranch
atom_after b p e m = record { sequent = b.sequent ++ record { sign = e.sign; formula = e.formula; label = label_then b e m } ∷ []; places = b.places ++ p ∷ []; count = b.count; characters = b.characters; eigens = b.eigens }

abbrev pub grown : OpenBranch → ℕ → ℕ → Entry → ModalArg → TermArg → List OpenBranch
grown b i p e m t = branches_by b i p e m t (Ok (with_components (shape_of e.sign e.formula) b.sequent (label_then b e m) (components e.sign e.formula)))

abbrev pub sketches_by : OpenBranch → ℕ → ℕ → Entry → ModalArg → TermArg → Formula → List OpenBranch
sketches_by b i p e m t (atom r ts) = atom_after b p e m ∷ []
sketches_by b i p e m t _ = grown b i p e m t

abbrev pub sketches_at : OpenBranch → ℕ → ℕ → Option Entry → ModalArg → TermArg → List OpenBranch
sketches_at b i p None m t = b ∷ []
sketches_at b i p (Some e) m t = sketches_by b i p e m t e.formula

abbrev pub sketches_for : OpenBranch → ℕ → Step → List OpenBranch
sketches_for b i (apply_to n m t) = sketches_at b i (place_of b.places n) (entry_of b.sequent n) m t
sketches_for b i (close n k) = []

abbrev pub sketched_axiom : OpenBranch → ℕ → ℕ → Option Entry → List Step
sketched_axiom b g f None = []
sketched_axiom b g f (Some e) = axiom_to b.count g f e.label

abbrev pub sketched_for : OpenBranch → ℕ → Step → List Step
sketched_for b i (apply_to n m t) = steps_at b i (place_of b.places n) (entry_of b.sequent n) m t
sketched_for b i (close n k) = sketched_axiom b (place_of b.places n) (place_of b.places k) (entry_of b.sequent k)

-- an atom's step introduces no eigenvariable
abbrev pub names_sketched : OpenBranch → ℕ → Entry → ModalArg → TermArg → Formula → List EigenName
names_sketched b i e m t (atom r ts) = []
names_sketched b i e m t _ = name_at i (label_then b e m) t

abbrev pub names_sketched_at : OpenBranch → ℕ → Option Entry → ModalArg → TermArg → List EigenName
names_sketched_at b i None m t = []
names_sketched_at b i (Some e) m t = names_sketched b i e m t e.formula

abbrev pub names_sketched_for : OpenBranch → ℕ → Step → List EigenName
names_sketched_for b i (apply_to n m t) = names_sketched_at b i (entry_of b.sequent n) m t
names_sketched_for b i (close n k) = []

abbrev pub sketched_from : List OpenBranch → ℕ → List Step → List Step
sketched_from bs i [] = []
sketched_from [] i (x ∷ xs) = []
sketched_from (b ∷ bs) i (x ∷ xs) = sketched_for b i x ++ sketched_from (sketches_for b i x ++ bs) (suc i) xs

abbrev pub names_sketched_from : List OpenBranch → ℕ → List Step → List EigenName
names_sketched_from bs i [] = []
names_sketched_from [] i (x ∷ xs) = []
names_sketched_from (b ∷ bs) i (x ∷ xs) = names_sketched_for b i x ++ names_sketched_from (sketches_for b i x ++ bs) (suc i) xs

abbrev pub first_sketch : Formula → OpenBranch
first_sketch f = record { sequent = record { sign = F; formula = f; label = [] } ∷ []; places = 1 ∷ []; count = 1; characters = []; eigens = [] }

abbrev pub sketched : Problem → Derivation → Derivation
sketched P d = record { limit = d.limit; names = names_with (names_sketched_from (first_sketch P.formula ∷ []) 1 d.steps); steps = sketched_from (first_sketch P.formula ∷ []) 1 d.steps }

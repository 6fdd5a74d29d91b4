-- The parts of a formula in a row, each behind its own parts.
use Rattle.std.specs.Prelude.{◌≡◌, ℕ, suc, ◌+◌, Bool, false, List, [], ◌∷◌, ◌++◌, length, map}
use Rattle.calculus.specs.Syntax.{Formula, atom, neg, conj, disj, imp, all, ex, box, dia}
use Rattle.formula_core.specs.FormulaView.{the_formula}
use Rattle.derivation_branch.specs.Occurring.{binds_at, quantifier_binds}
use Rattle.derivation_branch.specs.declared.addition.Added.{Added}
use Rattle.derivation_branch.specs.declared.addition.Added.TheVariants.{One, Both, Fork}
use Rattle.derivation_branch.specs.declared.entry.SharedEntry.{SharedEntry}
use Rattle.derivation_branch.specs.declared.outline.Node.{Node}

abbrev pub node : Bool → ℕ → Node
node binds second = record { binds = binds; second = second }

abbrev pub outline_of : Formula → List Node
outline_of (atom p us) = node false 0 ∷ []
outline_of (neg a) = outline_of a ++ node false 0 ∷ []
outline_of (conj a b) = (outline_of a ++ outline_of b) ++ node false (length (outline_of b)) ∷ []
outline_of (disj a b) = (outline_of a ++ outline_of b) ++ node false (length (outline_of b)) ∷ []
outline_of (imp a b) = (outline_of a ++ outline_of b) ++ node false (length (outline_of b)) ∷ []
outline_of (all a) = outline_of a ++ node (binds_at 0 a) 0 ∷ []
outline_of (ex a) = outline_of a ++ node (binds_at 0 a) 0 ∷ []
outline_of (box a) = outline_of a ++ node false 0 ∷ []
outline_of (dia a) = outline_of a ++ node false 0 ∷ []

-- the parts themselves
abbrev pub parts_of : Formula → List Formula
parts_of (atom p us) = atom p us ∷ []
parts_of (neg a) = parts_of a ++ neg a ∷ []
parts_of (conj a b) = (parts_of a ++ parts_of b) ++ conj a b ∷ []
parts_of (disj a b) = (parts_of a ++ parts_of b) ++ disj a b ∷ []
parts_of (imp a b) = (parts_of a ++ parts_of b) ++ imp a b ∷ []
parts_of (all a) = parts_of a ++ all a ∷ []
parts_of (ex a) = parts_of a ++ ex a ∷ []
parts_of (box a) = parts_of a ++ box a ∷ []
parts_of (dia a) = parts_of a ++ dia a ∷ []

abbrev pub second_in : Formula → ℕ
second_in (conj a b) = length (outline_of b)
second_in (disj a b) = length (outline_of b)
second_in (imp a b) = length (outline_of b)
second_in _ = 0

-- what is told of a part
abbrev pub node_of : Formula → Node
node_of f = node (quantifier_binds f) (second_in f)

abbrev pub IsOutline : List Formula → List Node → Type 0
IsOutline parts nodes = nodes ≡ map node_of parts

-- the formula is the part at the place
abbrev pub IsNode : List Formula → ℕ → Formula → Type 0
IsNode parts k f = (front : List Formula) × (rest : List Formula) × (parts ≡ (front ++ parts_of f) ++ rest) × (suc k ≡ length front + length (parts_of f))

abbrev pub IsNodeOf : List Formula → SharedEntry → Type 0
IsNodeOf parts e = IsNode parts e.node (the_formula e.formula.now)

-- each entry that is added is at its place
abbrev pub AreNodes : List Formula → Added → Type 0
AreNodes parts (One a) = IsNodeOf parts a
AreNodes parts (Both a b) = IsNodeOf parts a × IsNodeOf parts b
AreNodes parts (Fork a b) = IsNodeOf parts a × IsNodeOf parts b

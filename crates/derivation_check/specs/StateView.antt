-- What the state of a judgement stands for: the open sequents of the calculus, and of each of them the names that occur in it.
use Rattle.std.specs.Prelude.{◌≡◌, ⊤, ℕ, ◌≤◌, ◌<◌, List, [], ◌∷◌, length, get_or, map, take, Result, Ok, Option, None, Some}
use Rattle.calculus.specs.declared.fault.StepFault.{StepFault}
use Rattle.calculus.specs.declared.setting.Logic.{Logic}
use Rattle.calculus.specs.Calculus.{Children, eigen_occurs, character_occurs, label_after, entry_of}
use Rattle.calculus.specs.Derivations.{Entry, Sequent, Label, Names, new_mark, ModalArg, TermArg, no_term, by_term, by_name}
use Rattle.calculus.specs.Judgement.{open_after}
use Rattle.calculus.specs.Syntax.{Formula, Term, eigen}
use Rattle.derivation_branch.specs.EntryView.{IsWithin, the_shared}
use Rattle.derivation_branch.specs.Occurring.{holds}
use Rattle.derivation_branch.specs.OutlineView.{IsNodeOf, IsOutline}
use Rattle.derivation_branch.specs.Putting.{IsClosed, AreClosed}
use Rattle.derivation_branch.specs.SameView.{AreSame}
use Rattle.label_table.specs.LabelTable.{IsLabelAt}
use Rattle.label_table.specs.Longer.{IsLonger}
use Rattle.derivation_check.specs.HomesView.{AreHomes}
use Rattle.derivation_check.specs.OpenSequents.{IsNested, sequents_of}
use Rattle.derivation_check.specs.ToldView.{AreTold}
use Rattle.derivation_check.specs.declared.open_sequents.BranchEntry.{BranchEntry}
use Rattle.derivation_check.specs.declared.state.State.{State}

abbrev pub the_entry : List (List Term) → List Label → BranchEntry → Entry
the_entry table labels x = the_shared table labels x.shared

abbrev pub the_sequent : List (List Term) → List Label → List BranchEntry → Sequent
the_sequent table labels xs = map (the_entry table labels) xs

abbrev pub the_sequents : State → List Sequent
the_sequents s = map (the_sequent s.substitutions s.labels) (sequents_of s.sequents)

abbrev pub the_current : State → Sequent
the_current s = the_sequent s.substitutions s.labels s.sequents.branch.items

-- ---- what is kept of it

abbrev pub AreWithin : List (List Term) → List Label → List BranchEntry → Type 0
AreWithin table labels [] = ⊤
AreWithin table labels (x ∷ xs) = IsWithin table labels x.shared × AreWithin table labels xs

-- the sets have the numbers of the eigenvariables and of the new characters that occur in the sequent
pub record Tells (names : Names) (eigens marks : List ℕ) (s : Sequent) : Type 0 where
  pub eigen : (n : ℕ) → holds eigens n ≡ eigen_occurs n s
  pub mark : (n : ℕ) → holds marks n ≡ character_occurs names (new_mark n) s

-- what the entry at the end keeps
abbrev pub last_of : (BranchEntry → ℕ) → List BranchEntry → ℕ
last_of count [] = 0
last_of count (x ∷ []) = count x
last_of count (x ∷ y ∷ xs) = last_of count (y ∷ xs)

abbrev pub eigens_of : List BranchEntry → ℕ
eigens_of s = last_of (λ x. x.eigens) s

abbrev pub marks_of : List BranchEntry → ℕ
marks_of s = last_of (λ x. x.marks) s

-- each sequent that waits has the sets cut back to what its last entry says
abbrev pub Wait : Names → List (List Term) → List Label → List ℕ → List ℕ → List (List BranchEntry) → Type 0
Wait names table labels eigens marks [] = ⊤
Wait names table labels eigens marks (s ∷ ss) =
    (eigens_of s ≤ length eigens) × (marks_of s ≤ length marks) × AreWithin table labels s
    × Tells names (take (eigens_of s) eigens) (take (marks_of s) marks) (the_sequent table labels s)
    × Wait names table labels (take (eigens_of s) eigens) (take (marks_of s) marks) ss

abbrev pub AreKept : Names → List (List Term) → List Label → List ℕ → List ℕ → List (List BranchEntry) → Type 0
AreKept names table labels eigens marks [] = ⊤
AreKept names table labels eigens marks (s ∷ ss) = AreWithin table labels s × Tells names eigens marks (the_sequent table labels s) × Wait names table labels eigens marks ss

-- each entry is at its place among the parts of the problem's formula
abbrev pub ArePlaced : List Formula → List BranchEntry → Type 0
ArePlaced parts [] = ⊤
ArePlaced parts (x ∷ xs) = IsNodeOf parts x.shared × ArePlaced parts xs

abbrev pub AreAtNodes : List Formula → List (List BranchEntry) → Type 0
AreAtNodes parts [] = ⊤
AreAtNodes parts (s ∷ ss) = ArePlaced parts s × AreAtNodes parts ss

pub record IsKept (names : Names) (s : State) : Type 0 where
  pub nested : IsNested s.sequents
  pub sequents : AreKept names s.substitutions s.labels s.eigens s.marks (sequents_of s.sequents)
  pub homes : AreHomes names s.labels s.homes
  pub told : AreTold s.labels s.marks s.told
  pub parts : List Formula
  pub outline : IsOutline parts s.outline.nodes.items
  pub nodes : AreAtNodes parts (sequents_of s.sequents)
  pub same : AreSame s.substitutions parts s.same

-- the homes of names, and what is told of those of terms, stay as they are, and substitutions stay at their places
pub record IsLater (s t : State) : Type 0 where
  pub homes : t.homes ≡ s.homes
  pub named : t.named ≡ s.named
  pub substitutions : IsLonger s.substitutions t.substitutions

-- the entry stands on the branch
abbrev pub StandsOn : List BranchEntry → BranchEntry → Type 0
StandsOn xs x = (k : ℕ) × (k < length xs) × (x ≡ get_or xs k x)

-- ---- steps

-- what a step comes to leads, with the others that are open, to those that are open now
pub record LeadsTo (r : Result Children StepFault) (others : List Sequent) (now : List Sequent) : Type 0 where
  pub children : Children
  pub applies : r ≡ Ok children
  pub shown : now ≡ open_after children others

-- the inner substitution is the argument before the outer one, which has no variable
abbrev pub HasArgument : List (List Term) → ℕ → ℕ → TermArg → Type 0
HasArgument table outer inner no_term = ⊤
HasArgument table outer inner (by_term t) = (get_or table inner [] ≡ t ∷ get_or table outer []) × AreClosed (get_or table outer [])
HasArgument table outer inner (by_name n) = (get_or table inner [] ≡ eigen n ∷ get_or table outer []) × AreClosed (get_or table outer [])

abbrev pub IsClosedArgument : TermArg → Type 0
IsClosedArgument no_term = ⊤
IsClosedArgument (by_term t) = IsClosed t
IsClosedArgument (by_name n) = ⊤

-- the label stands behind a step with the argument
abbrev pub IsLabelAfter : List Label → ℕ → ModalArg → ℕ → Type 0
IsLabelAfter labels from x at = (l : Logic) × IsLabelAt labels at (label_after l (get_or labels from []) x)

-- what stands on the branch at a number; entries are numbered from 1
abbrev pub IsNumbered : List BranchEntry → ℕ → Option BranchEntry → Type 0
IsNumbered xs n None = (f : BranchEntry → Entry) → entry_of (map f xs) n ≡ None
IsNumbered xs n (Some x) = StandsOn xs x × ((f : BranchEntry → Entry) → entry_of (map f xs) n ≡ Some (f x))

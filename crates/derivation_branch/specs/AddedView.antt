-- The children of a sequent by the entries that a use step adds.
use Rattle.std.specs.Prelude.{◌≡◌, ◌⊎◌, ℕ, List, [], ◌∷◌, ◌++◌, get_or}
use Rattle.calculus.specs.declared.kind.Shape.{Shape}
use Rattle.calculus.specs.declared.kind.Shape.TheVariants.{Gamma, Delta}
use Rattle.calculus.specs.Calculus as calculus
use Rattle.calculus.specs.Derivations as derivation
use Rattle.calculus.specs.Derivations.{TermArg, no_term, by_term, by_name}
use Rattle.calculus.specs.Syntax as tree
use Rattle.derivation_branch.specs.EntryView.{the_shared}
use Rattle.derivation_branch.specs.declared.entry.SharedEntry.{SharedEntry}
use Rattle.derivation_branch.specs.declared.addition.Added.{Added}
use Rattle.derivation_branch.specs.declared.addition.Added.TheVariants.{One, Both, Fork}

abbrev pub children_added : List (List tree.Term) → List derivation.Label → derivation.Sequent → Added → calculus.Children
children_added table labels s (One a) = calculus.one (s ++ the_shared table labels a ∷ [])
children_added table labels s (Both a b) = calculus.one (s ++ the_shared table labels a ∷ the_shared table labels b ∷ [])
children_added table labels s (Fork a b) = calculus.two (s ++ the_shared table labels a ∷ []) (s ++ the_shared table labels b ∷ [])

-- the entry stands under one of two substitutions, at the label
abbrev pub IsAddedAt : ℕ → ℕ → ℕ → SharedEntry → Type 0
IsAddedAt outer inner label e = ((e.substitution ≡ outer) ⊎ (e.substitution ≡ inner)) × (e.label ≡ label)

abbrev pub AreAddedAt : ℕ → ℕ → ℕ → Added → Type 0
AreAddedAt outer inner label (One a) = IsAddedAt outer inner label a
AreAddedAt outer inner label (Both a b) = IsAddedAt outer inner label a × IsAddedAt outer inner label b
AreAddedAt outer inner label (Fork a b) = IsAddedAt outer inner label a × IsAddedAt outer inner label b

-- where the shape binds a variable, the inner substitution is the argument before the outer one; else there is no argument
abbrev pub PutsArgument : List (List tree.Term) → ℕ → ℕ → Shape → TermArg → Type 0
PutsArgument table outer inner Gamma (by_term t) = get_or table inner [] ≡ t ∷ get_or table outer []
PutsArgument table outer inner Gamma (by_name n) = get_or table inner [] ≡ tree.eigen n ∷ get_or table outer []
PutsArgument table outer inner Gamma no_term = ⊥
PutsArgument table outer inner Delta (by_term t) = get_or table inner [] ≡ t ∷ get_or table outer []
PutsArgument table outer inner Delta (by_name n) = get_or table inner [] ≡ tree.eigen n ∷ get_or table outer []
PutsArgument table outer inner Delta no_term = ⊥
PutsArgument table outer inner _ t = t ≡ no_term

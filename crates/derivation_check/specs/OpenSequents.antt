-- The open sequents by the current branch and by the forks whose second branch waits: a fork keeps how long the branch was, and the
-- entry that its second branch adds. Forks that were made later stand in front.
use Rattle.std.specs.Prelude.{◌≡◌, ⊤, ℕ, ◌≤◌, List, [], ◌∷◌, ◌++◌, length, reverse, take, Bool, Option, None, Some, if◌then◌else◌}
use Rattle.derivation_branch.specs.declared.addition.Added.{Added}
use Rattle.derivation_branch.specs.declared.addition.Added.TheVariants.{One, Both, Fork}
use Rattle.derivation_branch.specs.declared.entry.SharedEntry.{SharedEntry}
use Rattle.derivation_check.specs.declared.open_sequents.BranchEntry.{BranchEntry}
use Rattle.derivation_check.specs.declared.open_sequents.OpenSequents.{OpenSequents}

abbrev pub waiting_at : {A : Type 0} → List A → ℕ × A → List A
waiting_at branch fork = take fork.0 branch ++ fork.1 ∷ []

abbrev pub waiting : {A : Type 0} → List A → List (ℕ × A) → List (List A)
waiting branch [] = []
waiting branch (fork ∷ forks) = waiting_at branch fork ∷ waiting branch forks

abbrev pub open_sequents : {A : Type 0} → Bool → List A → List (ℕ × A) → List (List A)
open_sequents is_open branch forks = if is_open then branch ∷ waiting branch forks else []

-- no fork is longer than those in front of it, and none is longer than the branch
abbrev pub Nest : {A : Type 0} → ℕ → List (ℕ × A) → Type 0
Nest n [] = ⊤
Nest n (fork ∷ forks) = (fork.0 ≤ n) × Nest fork.0 forks

abbrev pub waiting_in : OpenSequents → List (List BranchEntry)
waiting_in b = waiting b.branch.items (reverse b.forks.items)

abbrev pub sequents_of : OpenSequents → List (List BranchEntry)
sequents_of b = open_sequents b.is_open b.branch.items (reverse b.forks.items)

abbrev pub IsNested : OpenSequents → Type 0
IsNested b = Nest (length b.branch.items) (reverse b.forks.items)

-- ---- what a step makes of them

abbrev pub placed : ℕ → ℕ → SharedEntry → BranchEntry
placed eigens marks e = record { shared = e; eigens = eigens; marks = marks }

abbrev pub after_added : ℕ → ℕ → Added → List BranchEntry → List (List BranchEntry) → List (List BranchEntry)
after_added n m (One a) s rest = (s ++ placed n m a ∷ []) ∷ rest
after_added n m (Both a b) s rest = (s ++ placed n m a ∷ placed n m b ∷ []) ∷ rest
after_added n m (Fork a b) s rest = (s ++ placed n m a ∷ []) ∷ (s ++ placed n m b ∷ []) ∷ rest

-- the entry at the end of the first sequent, where there is one
abbrev pub IsLastOf : List (List BranchEntry) → Option BranchEntry → Type 0
IsLastOf [] None = ⊤
IsLastOf [] (Some x) = ⊥
IsLastOf (s ∷ ss) None = ⊥
IsLastOf (s ∷ ss) (Some x) = (front : List BranchEntry) × (s ≡ front ++ x ∷ [])

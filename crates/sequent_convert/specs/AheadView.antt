-- What is ahead of a branch, as the program has it: turns as places of the agenda, with the ends of the literals among them.
use Rattle.std.specs.Prelude.{◌≡◌, ℕ, suc, ◌+◌, List, [], ◌∷◌, ◌++◌, length, Bool, true, if◌then◌else◌}
use Rattle.calculus.specs.Instances.{ClauseInstance}
use Rattle.calculus.specs.Tableaux as tree
use Rattle.conversion_theory.specs.Leading as leading
use Rattle.sequent_convert.specs.declared.ahead.Ahead as ahead
use Rattle.sequent_convert.specs.declared.ahead.Ends as ends

abbrev pub meeting : Bool → List leading.End
meeting b = if b then leading.meets_path ∷ [] else []

-- the first end is an extension with this place of the connected literal and these goals
pub record IsExtended (es : List leading.End) (place : ℕ) (goals : tree.Closings) : Type 0 where
  pub instance : ClauseInstance
  pub rest : List leading.End
  pub first : es ≡ leading.by_closing (tree.extend instance place goals) ∷ rest

-- there is no end, or the first one closes at once
abbrev pub IsNotExtended : List leading.End → Type 0
IsNotExtended [] = Unit {0}
IsNotExtended (e ∷ es) = leading.closes_at_once e ≡ true

-- the instances of the closings of ends, in preorder
abbrev pub end_instances : leading.End → List ClauseInstance
end_instances leading.meets_path = []
end_instances (leading.by_closing c) = tree.instances_below c

abbrev pub ends_instances : List leading.End → List ClauseInstance
ends_instances [] = []
ends_instances (e ∷ es) = end_instances e ++ ends_instances es

abbrev pub instance_count : List leading.End → ℕ
instance_count es = length (ends_instances es)

-- for each instance of closings, in preorder, how many instances its own closing has
abbrev mutual
  pub sizes_below : tree.Closing → List ℕ
  sizes_below (tree.reduce up) = []
  sizes_below (tree.extend i place below) = suc (length (sizes_of_all below)) ∷ sizes_of_all below

  pub sizes_of_all : tree.Closings → List ℕ
  sizes_of_all tree.no_closings = []
  sizes_of_all (tree.more_closings c cs) = sizes_below c ++ sizes_of_all cs

abbrev pub end_sizes : leading.End → List ℕ
end_sizes leading.meets_path = []
end_sizes (leading.by_closing c) = sizes_below c

abbrev pub ends_sizes : List leading.End → List ℕ
ends_sizes [] = []
ends_sizes (e ∷ es) = end_sizes e ++ ends_sizes es

-- the turns, the ends, and the place of the first instance of the ends
pub record Ahead : Type 0 where
  pub turns : List ℕ
  pub ends : List leading.End
  pub instance : ℕ

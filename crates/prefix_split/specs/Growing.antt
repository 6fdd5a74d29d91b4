-- Trees of beginnings of labels, as they grow label by label.
use Rattle.std.specs.Prelude.{◌≡◌, ℕ, ◌<◌, ◌≤◌, List, [], ◌∷◌, ◌++◌, length, Some, slice_get, Bool, true, false, is_some}
use Rattle.std.specs.List.{AllByRecursion}
use Rattle.calculus.specs.declared.setting.Logic.{Logic}
use Rattle.calculus.specs.declared.sort.Sort.{Sort}
use Rattle.calculus.specs.declared.sort.Sort.TheVariants.{TermSort, MarkSort, StringSort}
use Rattle.calculus.specs.Ground.{GroundMark}
use Rattle.calculus.specs.Labels.{greatest_length}
use Rattle.store_theory.specs.Stores.{Store, EndsAt, Solution, Solves}
use Rattle.store_theory.specs.Systems.{Differ, Equation, IsOpenString, IsStep, Pair}
use Rattle.search_theory.specs.States.{label_by}
use Rattle.term_store.specs.declared.cell.Head.{Head}
use Rattle.term_store.specs.declared.cell.Head.TheVariants.{Open, Fun, Eigen, New, Marks}
use Rattle.prefix_split.specs.declared.node.Node.{Node}
use Rattle.prefix_split.specs.declared.node.Step.{Step}
use Rattle.prefix_split.specs.declared.node.Step.TheVariants.{Root, Mark, Short, Long}
use Rattle.prefix_split.specs.declared.order.Relation.{Relation}
use Rattle.prefix_split.specs.declared.order.Relation.TheVariants.{Weak, Strict}
use Rattle.prefix_split.specs.Beginnings.{AllApart, AllBegin, AreValues, HasExtent, NodesFit, step_marks}

-- ---- steps

-- the strings of the logic have at most one character
abbrev pub has_short_steps : Logic → Bool
has_short_steps l = is_some (greatest_length l)

abbrev pub is_mark_sort : Sort → Bool
is_mark_sort TermSort = false
is_mark_sort MarkSort = true
is_mark_sort StringSort = false

abbrev pub is_string_sort : Sort → Bool
is_string_sort TermSort = false
is_string_sort MarkSort = false
is_string_sort StringSort = true

abbrev pub is_mark_head : Head → Bool
is_mark_head (Open sort) = is_mark_sort sort
is_mark_head (Fun f) = false
is_mark_head (Eigen p) = false
is_mark_head (New p) = true
is_mark_head Marks = false

abbrev pub is_open_string_head : Head → Bool
is_open_string_head (Open sort) = is_string_sort sort
is_open_string_head (Fun f) = false
is_open_string_head (Eigen p) = false
is_open_string_head (New p) = false
is_open_string_head Marks = false

-- the bindings of one of the strings end there
abbrev pub EndsString : Store → List ℕ → ℕ → Type 0
EndsString s strings v = (i : ℕ) × (r : ℕ) × (slice_get strings i ≡ Some r) × EndsAt s r v

-- an unbound string at which the bindings of the cell end is one of the strings
abbrev pub IsNamed : Store → List ℕ → ℕ → Type 0
IsNamed s strings r = (v : ℕ) → IsOpenString s v → EndsAt s r v → EndsString s strings v

abbrev pub AreNamed : Store → List ℕ → List ℕ → Type 0
AreNamed s strings label = (i r : ℕ) → slice_get label i ≡ Some r → IsNamed s strings r

abbrev pub IsNamedEquation : Store → List ℕ → Equation → Type 0
IsNamedEquation s strings e = AreNamed s strings e.left × AreNamed s strings e.right

abbrev pub AreSteps : Logic → List ℕ → Solution → Type 0
AreSteps l strings σ = AllByRecursion (IsStep l σ) strings

-- how the node's label is related to that of its parent
abbrev pub step_relation : Step → Relation
step_relation Root = Weak
step_relation (Mark r) = Strict
step_relation (Short r) = Weak
step_relation (Long r) = Weak

-- ---- trees

-- the root is first, each node comes after its parent, and the items are cells of a store of so many
pub record IsTree (size : ℕ) (nodes : List Node) : Type 0 where
  pub some : 0 < length nodes
  pub parents : (u : ℕ) (n : Node) → slice_get nodes u ≡ Some n → n.parent ≤ u
  pub fits : NodesFit size nodes

abbrev pub HasRoot : List Node → Type 0
HasRoot nodes = (n : Node) × (nodes ≡ n ∷ []) × (n.parent ≡ 0) × (n.step ≡ Root)

abbrev pub Extends : List Node → List Node → Type 0
Extends old new = (more : List Node) × (new ≡ old ++ more)

abbrev pub HasValues : Solution → List Node → Type 0
HasValues σ nodes = (value : ℕ → List GroundMark) × AreValues σ value nodes

-- the node u goes on from `parent` by the step
pub record IsGrown (s : Store) (old new : List Node) (parent : ℕ) (step : Step) (u : ℕ) : Type 0 where
  pub tree : IsTree (length s.cells) new
  pub extends : Extends old new
  pub values : (σ : Solution) → Solves s σ → HasExtent σ step → HasValues σ old → HasValues σ new
  pub within : u < length new
  pub is : (σ : Solution) (value : ℕ → List GroundMark) → Solves s σ → AreValues σ value new → value u ≡ value parent ++ step_marks σ step

-- the node u has this label
pub record IsReached (s : Store) (l : Logic) (strings : List ℕ) (old new : List Node) (label : List ℕ) (u : ℕ) : Type 0 where
  pub tree : IsTree (length s.cells) new
  pub extends : Extends old new
  pub values : (σ : Solution) → Solves s σ → AreSteps l strings σ → HasValues σ old → HasValues σ new
  pub within : u < length new
  pub is : (σ : Solution) (value : ℕ → List GroundMark) → Solves s σ → AreValues σ value new → value u ≡ label_by σ label

-- the node u has this label
abbrev pub IsNodeOf : Store → List Node → List ℕ → ℕ → Type 0
IsNodeOf s nodes label u = (σ : Solution) (value : ℕ → List GroundMark) → Solves s σ → AreValues σ value nodes → value u ≡ label_by σ label

-- where the goals of the pair differ, so do the labels of both nodes
abbrev pub IsPairApart : Store → List Node → Pair → ℕ × ℕ → Type 0
IsPairApart s nodes p both = (σ : Solution) (value : ℕ → List GroundMark) → Solves s σ → AreValues σ value nodes → Differ σ p → ¬ (value both.0 ≡ value both.1)

-- nodes came whose labels differ where the goals of all pairs do
abbrev pub ComeApart : Store → List Pair → List Node → List (ℕ × ℕ) → List (ℕ × ℕ) → Type 0
ComeApart s ps nodes before after = (σ : Solution) (value : ℕ → List GroundMark) → Solves s σ → AreValues σ value nodes → AllByRecursion (Differ σ) ps → AllApart value before → AllApart value after

-- pairs came of which the first label begins the second one where Q holds
pub record IsAsked (s : Store) (l : Logic) (strings : List ℕ) (Q : Solution → Type 0) (old new : List Node) (before after : List (ℕ × ℕ)) : Type 0 where
  pub tree : IsTree (length s.cells) new
  pub extends : Extends old new
  pub values : (σ : Solution) → Solves s σ → AreSteps l strings σ → HasValues σ old → HasValues σ new
  pub pairs : (σ : Solution) (value : ℕ → List GroundMark) → Solves s σ → AreValues σ value new → Q σ → AllBegin value before → AllBegin value after

-- Turns and names in order: by the depth of what is inside them.
use Rattle.std.specs.Prelude.{◌≡◌, ◌↔◌, ℕ, List, [], map, length, Contains, IsPermutation, IsSortedByKey}
use Rattle.std.specs.Ordering.{nat_cmp, ordering_then}
use Rattle.std.specs.declared.cmp.Ordering.{Ordering}
use Rattle.std.specs.List.{AllByRecursion, IsDistinct}
use Rattle.calculus.specs.Instances as tree
use Rattle.conversion_theory.specs.Depths.{value_list_depth, inner_depth}
use Rattle.conversion_theory.specs.Numbering.{name_eq}
use Rattle.conversion_theory.specs.Turns as turns
use Rattle.conversion_theory.proofs.DepthAgenda.{AreInDepthOrder, IsInDepthOrder}
use Rattle.formula_core.specs.GroundLists.{GroundList}
use Rattle.name_order.specs.ByNumber.NameView.{the_name}
use Rattle.name_order.specs.ByNumber.ReachedView.{the_reached}
use Rattle.name_order.specs.Keeping.{keep_all, turn_eq}
use Rattle.name_order.specs.declared.agenda.DeepTurn.{DeepTurn}
use Rattle.name_order.specs.declared.numbering.DeepName.{DeepName}

-- ---- turns

-- the depth of the values, how many they are, and the position
abbrev pub sort_key : DeepTurn → ℕ × ℕ × ℕ
sort_key t = (t.depth, length t.turn.values.items, t.turn.position)

abbrev pub key_cmp : ℕ × ℕ × ℕ → ℕ × ℕ × ℕ → Ordering
key_cmp x y = ordering_then (ordering_then (nat_cmp x.0 y.0) (nat_cmp x.1 y.1)) (nat_cmp x.2 y.2)

abbrev pub IsSortedByKeys : List DeepTurn → Type 0
IsSortedByKeys ts = IsSortedByKey sort_key key_cmp ts

abbrev pub the_turns : List GroundList → List DeepTurn → List tree.Turn
the_turns ls ts = map (λ (t : DeepTurn). the_reached ls t.turn) ts

-- each depth is that of the turn's values
abbrev pub AreDeep : List GroundList → List DeepTurn → Type 0
AreDeep ls ts = AllByRecursion (λ (t : DeepTurn). t.depth ≡ value_list_depth (the_reached ls t.turn).values) ts

-- the turns once each, in the order of the agenda
pub record IsArranged (from agenda : List tree.Turn) : Type 0 where
  pub moved : IsPermutation (keep_all turn_eq [] from) agenda
  pub in_order : IsInDepthOrder agenda

-- ---- names

abbrev pub the_names : List GroundList → List DeepName → List turns.Name
the_names ls ns = map (λ (n : DeepName). the_name ls n.name) ns

-- each depth is that of what is inside the name
abbrev pub HaveDepths : List GroundList → List DeepName → Type 0
HaveDepths ls ns = AllByRecursion (λ (n : DeepName). n.depth ≡ inner_depth (the_name ls n.name)) ns

abbrev pub name_depth : DeepName → ℕ
name_depth n = n.depth

-- no name stands twice
abbrev pub IsOnce : List turns.Name → Type 0
IsOnce ns = IsDistinct name_eq ns

-- the same names once each, those inside a name before it
pub record AreOrdered (from to : List turns.Name) : Type 0 where
  pub all : (n : turns.Name) → Contains from n ↔ Contains to n
  pub once : IsOnce to
  pub in_order : AreInDepthOrder to

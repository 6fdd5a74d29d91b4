-- The names and the turns by the numbers of a table that has grown from the tableau's.
use Rattle.std.specs.Prelude.{◌≡◌, ◌↔◌, List, map, Contains}
use Rattle.std.specs.List.{AllByRecursion}
use Rattle.calculus.specs.Instances as tree
use Rattle.calculus.specs.Syntax.{Problem}
use Rattle.conversion_theory.specs.Turns as turns
use Rattle.formula_core.specs.GroundLists.{GroundList, IsGrown}
use Rattle.name_order.specs.ByNumber.NameView.{the_name, IsNormalName}
use Rattle.name_order.specs.ByNumber.TurnView.{the_turn, IsNormalTurn}
use Rattle.name_order.specs.ByNumber.Order.{IsOnce}
use Rattle.name_order.specs.Mentioned.{gathered}
use Rattle.name_order.specs.Places.{Place}
use Rattle.name_order.specs.declared.naming.Naming.{Naming}

abbrev pub the_names : Naming → List turns.Name
the_names n = map (the_name n.table) n.names.keys

abbrev pub the_turns : Naming → List tree.Turn
the_turns n = map (the_turn n.table) n.turns.items

-- numbers of the tableau's table stand for the same, and all are normal
pub record IsNaming (source : List GroundList) (n : Naming) : Type 0 where
  pub grown : IsGrown source n.table
  pub names : AllByRecursion (IsNormalName n.table) n.names.keys
  pub turns : AllByRecursion (IsNormalTurn n.table) n.turns.items

-- the table has grown, and the names and turns are those of before
pub record Keeps (source : List GroundList) (old new : Naming) : Type 0 where
  pub good : IsNaming source new
  pub names : the_names new ≡ the_names old
  pub turns : the_turns new ≡ the_turns old
  pub keys : new.names.keys ≡ old.names.keys
  pub items : new.turns.items ≡ old.turns.items

-- the names that turns mention or introduce, each once
pub record AreGathered (P : Problem) (places : List Place) (xs : List tree.Turn) (names : List turns.Name) : Type 0 where
  pub all : (n : turns.Name) → Contains (gathered P places xs) n ↔ Contains names n
  pub once : IsOnce names

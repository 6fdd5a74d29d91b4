-- What the program's walk gives, by the positions that it reaches and the sides and values that it leaves.
use Rattle.std.specs.Prelude.{◌≡◌, List, ◌++◌, map}
use Rattle.formula_core.specs.GroundLists.{GroundList, the_value}
use Rattle.name_order.specs.ByNumber.ReachedView.{the_all}
use Rattle.name_order.specs.declared.reached.Reached.{Reached}
use Rattle.name_order.specs.declared.walk.Supply.{Supply}
use Rattle.name_order.specs.Walks.{Walked}

pub record IsLeft (ls : List GroundList) (before after : List Reached) (left : Supply) (w : Walked) : Type 0 where
  pub turns : the_all ls after ≡ the_all ls before ++ w.turns
  pub sides : left.sides.now ≡ w.sides
  pub values : map (the_value ls) left.values.now ≡ w.values

-- The items of a list of patterns, which lists may share.
use Rattle.std.specs.Prelude.{List, [], Option, Some, None}
use Rattle.std.specs.Global.{Vec, Global}
use Rattle.std.specs.declared.rc.Rc.{Rc}
use Rattle.term_store.specs.declared.pattern.Pattern.{Pattern}

abbrev pub items_of : Option (Rc (Vec Pattern) Global) → List Pattern
items_of None = []
items_of (Some shared) = shared.value.items

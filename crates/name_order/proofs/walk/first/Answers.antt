use Rattle.std.proofs.Common.{sym}
use Rattle.std.proofs.lemmas.List.{take_min, take-map}
use Rattle.formula_core.specs.GroundLists.{the_value}
use Rattle.name_order.proofs.walk.first.Goals as goal

pub returns : goal.returns
returns c = rw (c.min.ensures, take_min c.args.count c.args.values.now) (sym (take-map (the_value c.args.table.now) c.args.count c.args.values.now))

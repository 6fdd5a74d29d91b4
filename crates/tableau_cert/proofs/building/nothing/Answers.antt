use Rattle.std.proofs.Common.{map}
use Rattle.formula_core.specs.GroundLists.{values_in}
use Rattle.tableau_core.specs.Numbered.LiteralView.{the_literal}
use Rattle.tableau_cert.proofs.BuildingLaws.{no-list}
use Rattle.tableau_cert.proofs.building.nothing.Goals as goal

pub returns : goal.returns
returns c ls h = let s = c.new.ensures in let e = no-list ls h in let l = c.new-2.ensures in λ i. record { selection = s i; values = values_in (e i); literals = map (the_literal ls) (l i) }

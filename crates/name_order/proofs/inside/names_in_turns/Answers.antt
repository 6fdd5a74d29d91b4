use Rattle.std.proofs.Common.{◌↔◌, List, Contains, subst}
use Rattle.std.specs.List.{flat_map}
use Rattle.conversion_theory.specs.Turns.{Name}
use Rattle.formula_core.specs.GroundLists.{GroundList}
use Rattle.name_order.specs.ByNumber.Inside.{the_names}
use Rattle.name_order.specs.ByNumber.ReachedView.{the_all}
use Rattle.name_order.specs.Mentioned.{names_in_turn}
use Rattle.name_order.proofs.inside.names_in_turns.Goals as goal

pub returns : goal.returns
returns c = subst (λ (ls : List GroundList). (n : Name) → Contains (the_names ls c.in_ok-names.names.keys) n ↔ Contains (flat_map names_in_turn (the_all ls c.args.reached.now)) n) c.in_ok-table.ensures c.in_ok-names.ensures

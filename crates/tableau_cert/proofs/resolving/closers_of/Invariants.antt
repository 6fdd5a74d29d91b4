use Rattle.std.proofs.Common.{◌≡◌, map, take}
use Rattle.std.specs.List.{AllByRecursion}
use Rattle.formula_core.specs.GroundLists.{IsGrown}
use Rattle.tableau_text.specs.MovesView.{the_move}
use Rattle.tableau_cert.specs.Resolving.{IsNormalCloser, closer_of, the_closer}
use Rattle.tableau_cert.proofs.resolving.closers_of.Given as goal

-- The moves so far have their instances, also when the table grows.

abbrev pub invariant-loop-given_move : goal.invariant-loop-given_move
invariant-loop-given_move l = record {
  grown : IsGrown l.initial.table l.table;
  closers : map (the_closer l.table) l.closers.items ≡ map (closer_of l.problem) (map (the_move l.given) (take l.given_move-index l.moves));
  normal : AllByRecursion (IsNormalCloser l.table) l.closers.items;
}

use Rattle.std.proofs.Common.{List, sym, subst}
use Rattle.std.specs.List.{AllZip}
use Rattle.formula_core.specs.GroundLists.{GroundList}
use Rattle.name_order.specs.ByNumber.ReachedView.{AreNormalReached, the_all, the_keys}
use Rattle.name_order.specs.ByNumber.Waiting.{WaitFor}
use Rattle.name_order.specs.PlaceView.{the_places}
use Rattle.name_order.proofs.awaited.waits.Goals as goal

pub waits_by-requires : goal.waits_by-requires
waits_by-requires c = record { normal = subst (λ (ls : List GroundList). AreNormalReached ls c.args.agenda.now.keys) (sym c.in_ok-table.ensures) c.requires.normal }

pub returns : goal.returns
returns c = subst (λ (ls : List GroundList). AllZip (WaitFor c.args.problem.now (the_places c.args.places.now) (the_keys ls c.args.agenda.now.keys)) (the_all ls c.args.agenda.now.keys) c.in_ok-all.all.items) c.in_ok-table.ensures c.in_ok-all.ensures

use Rattle.std.proofs.Common.{◌≡◌, subst, sym}
use Rattle.conversion_theory.specs.Turns.{mark_name}
use Rattle.name_order.specs.ByNumber.ReachedView.{the_keys}
use Rattle.name_order.specs.Found.{introducer_in}
use Rattle.name_order.specs.PlaceView.{the_places}
use Rattle.tableau_core.specs.Numbered.SpotView.{the_mark_at}
use Rattle.name_order.proofs.awaited.mark_introducer.Goals as goal

pub returns-in_ok-place-in-Made : goal.returns-in_ok-place-in-Made
returns-in_ok-place-in-Made c =
    let ls = c.args.table.now in
    subst (λ m. c.in_ok-place-in-Made.place ≡ introducer_in (the_places c.args.places.now) (the_keys ls c.args.agenda.now.keys) (mark_name (the_mark_at ls m))) (sym c.in-Made.is) c.in_ok-place-in-Made.ensures

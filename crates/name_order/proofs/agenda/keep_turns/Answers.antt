use Rattle.std.proofs.Common.{arith, refl, ap, ◌∙◌}
use Rattle.name_order.specs.Arranged.{joined}
use Rattle.name_order.specs.ByNumber.Collected.{the_list, the_lists}
use Rattle.name_order.specs.ByNumber.ReachedView.{the_all}
use Rattle.name_order.specs.Keeping.{keep_all, turn_eq}
use Rattle.name_order.proofs.ByNumber.SetLaws.{kept-step}
use Rattle.name_order.proofs.agenda.keep_turns.Goals as goal

pub loop-list-preserved : goal.loop-list-preserved
loop-list-preserved c =
    let ls = c.args.table.now in
    record {
      normal = c.in_ok-keep_list.ensures.normal;
      kept = kept-step turn_eq (λ xs. joined (the_lists ls xs)) (the_list ls) (λ x xs. refl) (the_all ls c.loop-list.kept.keys) (the_all ls c.keep_list.new.kept.keys) _ c.args.lists.now c.loop-list.list-index c.list-item.result _ (omega arith) c.list-item.is (c.in_ok-keep_list.ensures.kept ∙ ap (λ rs. keep_all turn_eq (the_all ls c.loop-list.kept.keys) (the_all ls rs)) c.deref.ensures.value) c.loop-list.invariant.kept;
    }

use Rattle.std.proofs.Common.{◌≡◌, ◌++◌, map, ap, sym, subst, ◌∙◌}
use Rattle.calculus.specs.Tableaux.{instances_below}
use Rattle.name_order.specs.ByNumber.Collected.{the_lists}
use Rattle.name_order.specs.ByNumber.ReachedView.{the_all}
use Rattle.name_order.specs.Walks.{turns_by}
use Rattle.tableau_core.specs.Numbered.ClosingView.{closing_in, the_closing}
use Rattle.tableau_core.specs.Numbered.InstanceView.{the_instance}
use Rattle.name_order.proofs.ByNumber.CollectLaws.{extended}
use Rattle.name_order.proofs.collect.+collect.Goals as goal

pub collect_below-returns-in_ok-collect_all-in-Extend : goal.collect_below-returns-in_ok-collect_all-in-Extend
collect_below-returns-in_ok-collect_all-in-Extend t c =
    let ls = c.args.table.now in
    let walked = c.in_ok-walk_instance-in-Extend.ensures ∙ ap (λ rs. the_all ls rs ++ turns_by c.args.problem.now (the_instance ls c.in-Extend.instance)) c.new-turns.ensures.items in
    subst (λ x. the_lists ls c.collect_all.new.lists.items ≡ the_lists ls c.args.lists.now.items ++ map (turns_by c.args.problem.now) (instances_below (closing_in ls (the_closing x)))) (sym c.in-Extend.is) (
    extended c.args.problem.now ls c.in-Extend.instance c.in-Extend.literal c.in-Extend.goals c.args.lists.now.items c.push.new.self.items c.collect_all.new.lists.items _ walked c.in_ok-push-in-Extend.ensures.items c.in_ok-collect_all-in-Extend.ensures)

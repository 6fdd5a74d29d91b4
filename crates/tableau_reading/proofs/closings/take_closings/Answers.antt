use Rattle.std.proofs.Common.{◌++◌, ◌∙◌, ◌≡◌, ap, arith, drop, length, refl, subst, sym, take}
use Rattle.tableau_core.specs.Numbered.ClosingView.{the_closing}
use Rattle.tableau_reading.specs.Reading.{stacked}
use Rattle.tableau_reading.proofs.BuiltLaws.{taken-next}
use Rattle.tableau_reading.proofs.StackLaws.{fewer-more, stacked-more, taken-first, taken-more}
use Rattle.tableau_reading.proofs.closings.take_closings.Goals as goal

pub loop-i-init : goal.loop-i-init
loop-i-init c =
    let first = taken-first c.args.stack.now.items c.new-closings.result c.new-closings.ensures in
    record { taken = first.0; fewer = first.1; front = c.new-closings.ensures; others = refl }

pub loop-i-preserved : goal.loop-i-preserved
loop-i-preserved c =
    let next = taken-next c.loop-i._i (stacked c.args.stack.now.items) c.loop-i.closings (stacked c.pop.new.self.items) (the_closing c.in-Some.closing) c.loop-i.invariant.front (sym (stacked-more c.loop-i.stack.items c.pop.new.self.items c.in-Some.closing c.in-Some.ensures.items) ∙ c.loop-i.invariant.others) in
    record {
      taken = subst (λ cs. stacked c.args.stack.now.items ≡ cs ++ stacked c.pop.new.self.items) (sym c.in_ok-push-in-Some.ensures.ok) (taken-more c.args.stack.now.items c.loop-i.stack.items c.pop.new.self.items c.in-Some.closing c.loop-i.closings c.in-Some.ensures.items c.loop-i.invariant.taken);
      fewer = fewer-more c.loop-i.stack.items c.pop.new.self.items c.in-Some.closing (length c.args.stack.now.items) c.loop-i._i c.in-Some.ensures.items c.loop-i.invariant.fewer;
      front = c.in_ok-push-in-Some.ensures.ok ∙ next.0;
      others = next.1;
    }

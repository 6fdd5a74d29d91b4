use Rattle.std.specs.Prelude.{not}
use Rattle.problem_build.specs.Walk.{Passed}
use Rattle.problem_build.proofs.ItemLaws.{part-next}
use Rattle.problem_build.proofs.items.parts_of.Goals as goal

pub loop-item-preserved : goal.loop-item-preserved
loop-item-preserved c = (
  part-next (λ (p : Passed). not p.is_conjecture) c.loop-item.passed.items c.pop.new.self.items c.in-Some.item _ _ _ c.in-Some.ensures.items c.in_ok-add_part.ensures.premises c.loop-item.invariant.0,
  part-next (λ (p : Passed). p.is_conjecture) c.loop-item.passed.items c.pop.new.self.items c.in-Some.item _ _ _ c.in-Some.ensures.items c.in_ok-add_part.ensures.conjectures c.loop-item.invariant.1,
)

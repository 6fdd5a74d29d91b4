use Rattle.std.proofs.Common.{◌∙◌, ap, sym}
use Rattle.trim_theory.specs.Marking.{run}
use Rattle.trim_marks.specs.MarkingView.{the_state}
use Rattle.trim_marks.proofs.SkipLaws.{run_last}
use Rattle.trim_marks.proofs.marking.marks.Goals as goal

pub loop-pass-preserved : goal.loop-pass-preserved
loop-pass-preserved c =
    let l = c.loop-pass in (
      ap (run c.pop.new.self.items) c.in_ok-pass.ensures.state ∙ sym (run_last c.pop.new.self.items l.waiting.items c.in-Some.pass (the_state l.marking) c.in-Some.ensures.items) ∙ l.invariant.0,
      c.in_ok-pass.ensures.skips,
    )

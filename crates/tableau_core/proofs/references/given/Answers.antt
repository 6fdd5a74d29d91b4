use Rattle.std.proofs.Common.{[], ap, arith, map, ◌∙◌}
use Rattle.std.proofs.lemmas.List.{take_all}
use Rattle.formula_core.specs.GroundLists.{the_mark}
use Rattle.tableau_core.proofs.Numbered.LabelLaws.{given-push}
use Rattle.tableau_core.proofs.references.given.Goals as goal

pub loop-mark-preserved : goal.loop-mark-preserved
loop-mark-preserved c ls = given-push ls [] c.loop-mark.all.items c.push.new.self.items c.args.marks.now c.loop-mark.mark-index _ (c.loop-mark.invariant ls) c.in_ok-push.ensures.items (omega arith)

pub returns : goal.returns
returns c ls = c.loop-mark.invariant ls ∙ ap (map (the_mark ls)) (take_all c.loop-mark.mark-index c.args.marks.now (omega arith))

use Rattle.std.proofs.Common.{◌++◌, ap, arith, map, take, ◌∙◌}
use Rattle.std.proofs.lemmas.List.{take_all}
use Rattle.formula_core.specs.GroundLists.{the_mark}
use Rattle.tableau_core.specs.Numbered.SpotView.{start_marks, the_mark_at}
use Rattle.tableau_core.proofs.Numbered.LabelLaws.{given-push, nu-made}
use Rattle.tableau_core.proofs.references.with_string.Goals as goal

pub loop-mark-preserved : goal.loop-mark-preserved
loop-mark-preserved c ls = given-push ls (map (the_mark_at ls) c.in_ok-all.all.items) c.loop-mark.all.items c.push.new.self.items c.args.string.now c.loop-mark.mark-index _ (c.loop-mark.invariant ls) c.in_ok-push.ensures.items (omega arith)

pub returns : goal.returns
returns c ls = nu-made ls c.args.logic c.args.label.now c.loop-mark.all.items (map (the_mark ls) c.args.string.now) (c.loop-mark.invariant ls ∙ ap (λ xs. xs ++ map (the_mark ls) (take c.loop-mark.mark-index c.args.string.now)) (ap (map (the_mark_at ls)) c.in_ok-all.ensures) ∙ ap (λ xs. map (the_mark_at ls) (start_marks c.args.logic c.args.label.now) ++ map (the_mark ls) xs) (take_all c.loop-mark.mark-index c.args.string.now (omega arith)))

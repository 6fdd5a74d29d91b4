use Rattle.std.proofs.Common.{◌-◌, ap, drop, length, map, take, ◌∙◌}
use Rattle.std.proofs.lemmas.List.{take_rest}
use Rattle.calculus.specs.Skolem.{is_allowed}
use Rattle.formula_core.specs.GroundLists.{the_g_term, the_mark}
use Rattle.tableau_core.specs.Numbered.SpotView.{the_mark_at}
use Rattle.tableau_cert.proofs.opening.is_allowed_at.Goals as goal

pub returns : goal.returns
returns c = let ls = c.args.table.now in let from = c.args.way.now.start in
    c.in_ok-allowed.ensures ∙ ap (λ w. is_allowed c.args.problem.now w (the_g_term ls c.args.term))
    (ap (map (the_mark_at ls)) c.deref-2.ensures.value ∙ c.in_ok-label.ensures ls
    ∙ ap (λ xs. map (the_mark ls) (take (length xs - from) (drop from xs))) c.deref.ensures.value ∙ ap (map (the_mark ls)) (take_rest c.args.way.now.marks.items from))

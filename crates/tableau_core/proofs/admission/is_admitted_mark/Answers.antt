use Rattle.std.proofs.Common.{ap, sym, ◌∙◌, refl}
use Rattle.calculus.specs.Ground.{values_tree}
use Rattle.calculus.specs.Skolem.{is_admitted_mark, are_admitted_values, way_to}
use Rattle.formula_core.specs.GroundLists.{the_mark, the_values}
use Rattle.tableau_core.specs.Fitting.{is_made}
use Rattle.tableau_core.specs.declared.way.Maker.TheVariants as maker
use Rattle.tableau_core.proofs.FittingLaws.{mark-admitted, both-then, both-else}
use Rattle.tableau_core.proofs.admission.is_admitted_mark.Goals as goal

pub returns-then-is_made : goal.returns-then-is_made
returns-then-is_made c = let P = c.args.problem.now in let ls = c.args.table.now in let made = c.is_made.ensures ∙ ap (λ vs. is_made maker.Pi P.setting.logic (way_to P c.in-New.p.0) vs) c.values.ensures.list in
    both-then c.is_made.result c.are_known_values.result _ (mark-admitted P c.in-New.p.0 (the_values ls c.in-New.values) c.is_made.result c.are_known_values.result made (c.are_known_values.ensures P c.requires.known) ∙ sym (ap (λ x. is_admitted_mark P (the_mark ls x)) c.in-New.is)) c.if-is_made.true

pub returns-else-is_made : goal.returns-else-is_made
returns-else-is_made c = let P = c.args.problem.now in let ls = c.args.table.now in let made = c.is_made.ensures ∙ ap (λ vs. is_made maker.Pi P.setting.logic (way_to P c.in-New.p.0) vs) c.values.ensures.list in
    both-else c.is_made.result (are_admitted_values P (values_tree (the_values ls c.in-New.values))) _ (mark-admitted P c.in-New.p.0 (the_values ls c.in-New.values) c.is_made.result _ made refl ∙ sym (ap (λ x. is_admitted_mark P (the_mark ls x)) c.in-New.is)) c.if-is_made.false

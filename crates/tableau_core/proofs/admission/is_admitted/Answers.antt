use Rattle.std.proofs.Common.{length, ap, sym, ◌∙◌, refl}
use Rattle.std.proofs.lemmas.List.{length-map}
use Rattle.calculus.specs.Ground.{values_tree}
use Rattle.calculus.specs.Lists.{g_terms_tree}
use Rattle.calculus.specs.Skolem.{is_admitted, are_admitted, are_admitted_values, has_function, way_to}
use Rattle.formula_core.specs.GroundLists.{the_g_term, the_terms, the_values}
use Rattle.tableau_core.specs.Fitting.{is_made}
use Rattle.tableau_core.specs.declared.way.Maker.TheVariants as maker
use Rattle.tableau_core.proofs.FittingLaws.{eigen-admitted, fun-admitted, both-then, both-else}
use Rattle.tableau_core.proofs.admission.is_admitted.Goals as goal

pub returns-then-has_function : goal.returns-then-has_function
returns-then-has_function c = let P = c.args.problem.now in let ls = c.args.table.now in let has = c.has_function.ensures ∙ ap (λ ss. has_function ss c.in-Fun.f.0 (length c.terms.result.now)) c.symbols.ensures.symbols in
    both-then c.has_function.result c.are_known_terms.result _ (fun-admitted P c.in-Fun.f.0 (length c.terms.result.now) (the_terms ls c.in-Fun.args) c.has_function.result c.are_known_terms.result (sym (length-map c.terms.result.now (the_g_term ls)) ∙ ap length c.terms.ensures.list) has (c.are_known_terms.ensures P c.requires.known) ∙ sym (ap (λ x. is_admitted P (the_g_term ls x)) c.in-Fun.is)) c.if-has_function.true

pub returns-else-has_function : goal.returns-else-has_function
returns-else-has_function c = let P = c.args.problem.now in let ls = c.args.table.now in let has = c.has_function.ensures ∙ ap (λ ss. has_function ss c.in-Fun.f.0 (length c.terms.result.now)) c.symbols.ensures.symbols in
    both-else c.has_function.result (are_admitted P (g_terms_tree (the_terms ls c.in-Fun.args))) _ (fun-admitted P c.in-Fun.f.0 (length c.terms.result.now) (the_terms ls c.in-Fun.args) c.has_function.result _ (sym (length-map c.terms.result.now (the_g_term ls)) ∙ ap length c.terms.ensures.list) has refl ∙ sym (ap (λ x. is_admitted P (the_g_term ls x)) c.in-Fun.is)) c.if-has_function.false

pub returns-then-is_made : goal.returns-then-is_made
returns-then-is_made c = let P = c.args.problem.now in let ls = c.args.table.now in let made = c.is_made.ensures ∙ ap (λ vs. is_made maker.Delta P.setting.logic (way_to P c.in-Eigen.p.0) vs) c.values.ensures.list in
    both-then c.is_made.result c.are_known_values.result _ (eigen-admitted P c.in-Eigen.p.0 (the_values ls c.in-Eigen.values) c.is_made.result c.are_known_values.result made (c.are_known_values.ensures P c.requires.known) ∙ sym (ap (λ x. is_admitted P (the_g_term ls x)) c.in-Eigen.is)) c.if-is_made.true

pub returns-else-is_made : goal.returns-else-is_made
returns-else-is_made c = let P = c.args.problem.now in let ls = c.args.table.now in let made = c.is_made.ensures ∙ ap (λ vs. is_made maker.Delta P.setting.logic (way_to P c.in-Eigen.p.0) vs) c.values.ensures.list in
    both-else c.is_made.result (are_admitted_values P (values_tree (the_values ls c.in-Eigen.values))) _ (eigen-admitted P c.in-Eigen.p.0 (the_values ls c.in-Eigen.values) c.is_made.result _ made refl ∙ sym (ap (λ x. is_admitted P (the_g_term ls x)) c.in-Eigen.is)) c.if-is_made.false

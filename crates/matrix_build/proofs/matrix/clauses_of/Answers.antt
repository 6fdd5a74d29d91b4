use Rattle.std.proofs.Common.{◌≡◌, ◌∙◌, ◌∷◌, ◌++◌, [], ap, append-nil, length, map, subst, sym, arith}
use Rattle.std.specs.List.{AllByRecursion}
use Rattle.std.specs.Vec.Iter.{into_iter_items}
use Rattle.plain_laws.proofs.Lists.{no-items}
use Rattle.search_theory.specs.Matrix.{MatrixClause}
use Rattle.formula_core.specs.FormulaView.{the_formula}
use Rattle.matrix_build.specs.MatrixView.{HasFewLiterals, the_clause}
use Rattle.matrix_build.specs.Parts.{IsTemplateIfAny}
use Rattle.matrix_build.specs.declared.clause.Clause.{Clause}
use Rattle.term_store.specs.TemplateView.{the_template}
use Rattle.matrix_build.proofs.MatrixLaws.{clause-added, clause-in_order}
use Rattle.matrix_build.proofs.matrix.clauses_of.Goals as goal

pub loop-selection-preserved : goal.loop-selection-preserved
loop-selection-preserved c =
    let at = c.loop-selection in
    let done : Clause = record { selection = c.in-Some.selection; template = c.in_ok-template.template } in
    let P : MatrixClause → Type 0 = λ x. IsTemplateIfAny c.args.logic (the_formula c.args.formula.now) x.selection x.template in
    let steps : into_iter_items at.selection-iterator ≡ c.in-Some.selection ∷ into_iter_items c.next.new.self = c.in-Some.ensures.steps.0 in
    let right : P (the_clause done) =
    subst (λ l. IsTemplateIfAny l (the_formula c.args.formula.now) c.in-Some.selection (the_template c.in_ok-template.template)) c.in_ok-plan.ensures.logic
    (subst (λ ss. IsTemplateIfAny c.in_ok-plan.plan.logic (the_formula c.args.formula.now) ss (the_template c.in_ok-template.template)) c.items.ensures c.in_ok-template.ensures.template) in
    record {
      in_order = ap (λ cs. map (λ (x : MatrixClause). x.selection) (map the_clause cs) ++ into_iter_items c.next.new.self) c.in_ok-push.ensures.items ∙ clause-in_order at.clauses.items done _ _ _ steps at.invariant.in_order;
      left = (
          let was = at.invariant.left in
          let gone = c.in-Some.ensures.steps.1 in
          let short = ap length steps in
          omega arith);
      templates = subst (λ cs. AllByRecursion P (map the_clause cs)) (sym c.in_ok-push.ensures.items) (clause-added P at.clauses.items done at.invariant.templates right);
      sizes = at.invariant.sizes;
      few = subst (λ cs. AllByRecursion HasFewLiterals (map the_clause cs)) (sym c.in_ok-push.ensures.items) (clause-added HasFewLiterals at.clauses.items done at.invariant.few c.in_ok-template.ensures.few);
    }

pub returns-clause-templates : goal.returns-clause-templates
returns-clause-templates c =
    let at = c.loop-selection in
    let empty : into_iter_items at.selection-iterator ≡ [] = no-items _ (sym at.invariant.left ∙ c.in-None.ensures.steps.0) in
    record {
      in_order = sym (append-nil _) ∙ rw empty at at.invariant.in_order;
      templates = at.invariant.templates;
    }

use Rattle.std.proofs.Common.{◌≡◌, ◌++◌, length, map}
use Rattle.std.specs.List.{AllByRecursion}
use Rattle.std.specs.Vec.Iter.{into_iter_items, into_iter_len}
use Rattle.calculus.specs.declared.sign.Sign.TheVariants.{F}
use Rattle.calculus.specs.Clauses.{selections}
use Rattle.search_theory.specs.Matrix.{MatrixClause}
use Rattle.formula_core.specs.FormulaView.{the_formula}
use Rattle.matrix_build.specs.MatrixView.{HasFewLiterals, the_clause}
use Rattle.matrix_build.specs.Parts.{IsTemplateIfAny}
use Rattle.matrix_build.specs.Sizes.{sizes_of}
use Rattle.matrix_build.proofs.matrix.clauses_of.Given as goal

abbrev pub invariant-loop-selection : goal.invariant-loop-selection
invariant-loop-selection l = record {
  in_order : map (λ (c : MatrixClause). c.selection) (map the_clause l.clauses.items) ++ into_iter_items l.selection-iterator ≡ selections (the_formula l.formula) F;
  left : into_iter_len l.selection-iterator ≡ length (into_iter_items l.selection-iterator);
  templates : AllByRecursion (λ (c : MatrixClause). IsTemplateIfAny l.fn.logic (the_formula l.formula) c.selection c.template) (map the_clause l.clauses.items);
  sizes : l.plan.sizes.items ≡ sizes_of (the_formula l.formula);
  few : AllByRecursion HasFewLiterals (map the_clause l.clauses.items);
}

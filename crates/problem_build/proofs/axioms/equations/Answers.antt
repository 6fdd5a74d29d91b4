use Rattle.std.proofs.Common.{◌-◌, ◌∙◌, ◌++◌, ◌∷◌, [], ap, arith, map, refl}
use Rattle.std.proofs.lemmas.List.{map-append}
use Rattle.formula_core.specs.FormulaView.{the_formula}
use Rattle.problem_build.specs.EqualityAxioms.{equations, variables}
use Rattle.problem_build.proofs.ExpandingLaws.{equations-step}
use Rattle.problem_build.proofs.axioms.equations.Goals as goal

pub loop-left-preserved : goal.loop-left-preserved
loop-left-preserved c = (
  omega arith,
  ap (λ ms. map the_formula ms ++ equations c.args.symbols.now (variables c.args.count (c.loop-left.left - 1)) (variables 0 (c.loop-left.left - 1))) c.in_ok-push.ensures.items
      ∙ ap (λ ms. ms ++ equations c.args.symbols.now (variables c.args.count (c.loop-left.left - 1)) (variables 0 (c.loop-left.left - 1))) (map-append the_formula c.loop-left.made.items (c.in_ok-equation.equation ∷ []))
      ∙ equations-step c.args.symbols.now c.args.count c.loop-left.left (c.loop-left.left - 1) (map the_formula c.loop-left.made.items) (the_formula c.in_ok-equation.equation) _
      (omega arith) refl c.in_ok-equation.ensures c.loop-left.invariant.1,
)

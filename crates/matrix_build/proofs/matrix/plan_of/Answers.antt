use Rattle.std.proofs.Common.{◌≡◌, ◌∙◌, ◌++◌, ap, arith, length}
use Rattle.formula_core.specs.FormulaView.{the_formula}
use Rattle.matrix_build.specs.Sizes.{sizes_of}
use Rattle.matrix_build.proofs.SizeTable.{length-sizes_of}
use Rattle.matrix_build.proofs.matrix.plan_of.Goals as goal

pub invariant_of-result : goal.invariant_of-result
invariant_of-result c =
    let f = the_formula c.args.formula.now in
    let e : c.add_sizes.new.sizes.items ≡ sizes_of f = c.in_ok-add_sizes.ensures ∙ ap (λ xs. xs ++ sizes_of f) c.new-sizes.ensures.items in
    let l : length c.add_sizes.new.sizes.items ≡ length (sizes_of f) = ap length e in
    record { few = omega (arith, l, length-sizes_of f, c.requires) }

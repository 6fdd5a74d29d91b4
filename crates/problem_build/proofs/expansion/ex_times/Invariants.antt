use Rattle.std.proofs.Common.{◌≡◌}
use Rattle.formula_core.specs.FormulaView.{the_formula}
use Rattle.problem_build.specs.Quantifying.{ex_times}
use Rattle.problem_build.proofs.expansion.ex_times.Given as goal

abbrev pub invariant-loop-i : goal.invariant-loop-i
invariant-loop-i l = the_formula l.formula ≡ ex_times l.i (the_formula l.fn.body)

use Rattle.std.proofs.Common.{◌≡◌, drop, map}
use Rattle.calculus.specs.Equality.{symbol_eq}
use Rattle.problem_build.specs.Adding.{with_new}
use Rattle.problem_build.specs.Building.{symbols_of}
use Rattle.problem_build.specs.Passing.{the_passed}
use Rattle.problem_build.proofs.ItemLaws.{listed}
use Rattle.problem_build.proofs.items.symbols_of.Given as goal

abbrev pub invariant-loop-item : goal.invariant-loop-item
invariant-loop-item l = with_new symbol_eq l.symbols (listed (map the_passed (drop l.item-index l.passed))) ≡ symbols_of (map the_passed l.passed)

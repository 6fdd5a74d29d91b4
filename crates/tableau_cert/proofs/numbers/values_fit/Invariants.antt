use Rattle.std.proofs.Common.{ℕ, List, map, drop, IsTrue}
use Rattle.std.specs.List.{AllByRecursion}
use Rattle.calculus.specs.Ground.{values_tree}
use Rattle.calculus.specs.TableauText.{values_have_numbers}
use Rattle.formula_core.specs.GroundLists.{GroundList, the_value, IsLowerValue}
use Rattle.tableau_cert.specs.Numbers.{HaveNumbers}
use Rattle.tableau_cert.proofs.numbers.values_fit.Given as goal

abbrev pub invariant-loop-value : goal.invariant-loop-value
invariant-loop-value l =
    (ls : List GroundList) (n : ℕ) → HaveNumbers ls n → AllByRecursion (IsLowerValue ls n) l.values → IsTrue (values_have_numbers (values_tree (map (the_value ls) (drop l.value-index l.values)))) → IsTrue (values_have_numbers (values_tree (map (the_value ls) l.values)))
